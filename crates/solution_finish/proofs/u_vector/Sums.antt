-- The turns of the two loops.
use Prim.Native.Nat.{ℕ, suc, ◌+◌, ◌*◌, ◌≤◌, ◌<◌}
use mathlib.Core.Path.{◌≡◌, refl, sym, ap, ap₂, ◌∙◌}
use mathlib.Core.List.{List}
use mathlib.Core.Logic.{inl, inr}
use native.Mathlib.Nat.{mul-le-mul_right}
use native.Mathlib.Numerals.{add-one}
use native.Mathlib.Omega.{arith}
use lib.ListN.{length}
use lib.Ieee.{Float, nan}
use Rattle.storage.proofs.Filling.{Filling, filling_else}
use Rattle.rules.specs.Arithmetic.{ieee}
use Rattle.rules.specs.Sums.{sum_from}
use Rattle.block_runs.specs.axpy.Axpy.{at}
use Rattle.block_runs.proofs.axpy.Sums.{sum_along, along_ext}
use Rattle.solution_finish.specs.u_vector.Offsets.{row_sum}

-- ---- one row: j products are in the sum s, the next column's double lies at k
pub record Adding (v : List Float) (from q p : ℕ) (s : Float) (k j : ℕ) : Type 0 where
  pub within : j ≤ p
  pub beta : p ≤ length v
  pub step : q ≤ length v
  pub fits : from + p * q < length v + q
  pub place : k ≡ from + j * q
  pub sum : s ≡ row_sum v from q j

pub adding_none : (v : List Float) (from q p : ℕ) → p ≤ length v → from + p * q < length v + q → q ≤ length v → Adding v from q p ieee.zero from 0
unfolding sum_from
adding_none v from q p h g l = record { within = omega arith; beta = h; step = l; fits = g; place = omega arith; sum = refl }

module _ {v : List Float} {from q p : ℕ} {s : Float} {k j : ℕ} (a : Adding v from q p s k j) where
  pub adding_all : p ≤ j → s ≡ row_sum v from q p
  adding_all h = let e : j ≡ p = omega (arith, a.within) in a.sum ∙ ap (row_sum v from q) e

  module _ (more : j < p) where
    pub adding_inside : k < length v
    adding_inside = let l : suc j ≤ p = more in omega (arith, a.fits, a.place, mul-le-mul_right q l)

    pub adding_more : Adding v from q p (ieee.plus s (ieee.times (at v k) (at v j))) (k + q) (j + 1)
    unfolding sum_from
    adding_more =
        record {
          within = omega arith;
          beta = a.beta;
          step = a.step;
          fits = a.fits;
          place = omega (arith, a.place);
          sum = rw add-one (ap₂ ieee.plus a.sum (ap (λ (x : ℕ). ieee.times (at v x) (at v j)) a.place));
        }

-- ---- a row's sum looks at beta and at the columns alone, which no row of u touches
abbrev pub offset : (wy first q p : ℕ) → List Float → ℕ → Float
offset wy first q p v i = ieee.minus (at v (wy + i)) (row_sum v (first + i) q p)

module _ {u wy first q p : ℕ} {v₀ v : List Float} {i : ℕ} (before : p ≤ u) (mid : u + q ≤ wy) (behind : wy + q ≤ first)
    (e : Filling (offset wy first q p v₀) u q v₀ v i) (more : i < q) where
  same_sum : row_sum v (first + i) q p ≡ row_sum v₀ (first + i) q p
  same_sum =
      sym (sum_along ieee.zero (λ j. at v (first + i + j * q)) (at v) p)
      ∙ along_ext ieee.plus ieee.zero ieee.zero _ _ _ _ p refl (λ j h. filling_else e nan (first + i + j * q) (inr (omega arith))) (λ j h. filling_else e nan j (inl (omega arith)))
      ∙ sum_along ieee.zero (λ j. at v₀ (first + i + j * q)) (at v₀) p

  pub next_offset : (r : Float) → r ≡ row_sum v (first + i) q p → ieee.minus (at v (wy + i)) r ≡ offset wy first q p v₀ i
  next_offset r f = ap₂ ieee.minus (filling_else e nan (wy + i) (inr (omega arith))) (f ∙ same_sum)
