-- What a strided copy leaves, cell by cell.
use Prim.Native.Nat.{ℕ, zero, suc, ◌+◌, ◌*◌, ◌≤◌, ◌<◌}
use mathlib.Core.Path.{◌≡◌, refl, ap, ap₂, ◌∙◌}
use mathlib.Core.List.{List}
use mathlib.Core.Logic.{by_cases}
use native.Mathlib.Decide.{dec_lt}
use native.Mathlib.Nat.{mul-le-mul_right}
use native.Mathlib.Numerals.{add-one}
use native.Mathlib.Omega.{arith}
use lib.ListN.{length, get_or, set, length-set}
use lib.Seq.{get_or-set_same, get_or-set_other}
use lib.Ieee.{Float}
use Rattle.replace_response.specs.write_rows.Strided.{strided}

-- later cells lie further on
apart : (step a b : ℕ) → 1 ≤ step → a < b → a * step < b * step
apart step a b h l = let m : suc a ≤ b = l in omega (arith, mul-le-mul_right step m)

module _ (to step : ℕ) (g : ℕ → Float) (w : List Float) where
  pub length_strided : (n : ℕ) → length (strided to step n g w) ≡ length w
  unfolding strided
  length_strided zero = refl
  length_strided (suc n) = simp length-set (length_strided n)

  -- nothing is copied yet, and one cell more
  pub strided_none : w ≡ strided to step 0 g w
  unfolding strided
  strided_none = refl

  pub strided_more : (c : ℕ) (v : List Float) → v ≡ strided to step c g w → set v (to + c * step) (g c) ≡ strided to step (c + 1) g w
  unfolding strided
  strided_more c v e = rw add-one (ap (λ (l : List Float). set l (to + c * step) (g c)) e)

  -- a cell that is copied to
  pub strided_at : (d : Float) (n c : ℕ) → 1 ≤ step → c < n → to + c * step < length w → get_or (strided to step n g w) (to + c * step) d ≡ g c
  unfolding strided
  strided_at d zero c h l f = absurd (omega arith)
  strided_at d (suc n) c h l f =
      by_cases (dec_lt c n)
      (λ m. get_or-set_other (strided to step n g w) (to + n * step) (to + c * step) (g n) d (λ e. omega (arith, apart step c n h m)) ∙ strided_at d n c h m f)
      (λ m. let e : n ≡ c = omega arith in
      rw e (get_or-set_same (strided to step c g w) (to + c * step) (g c) d (omega (arith, length_strided c))))

  -- any other is as it was
  pub strided_else : (d : Float) (n i : ℕ) → ((c : ℕ) → c < n → i ≡ to + c * step → ⊥) → get_or (strided to step n g w) i d ≡ get_or w i d
  unfolding strided
  strided_else d zero i h = refl
  strided_else d (suc n) i h =
      get_or-set_other (strided to step n g w) (to + n * step) i (g n) d (h n (omega arith)) ∙ strided_else d n i (λ c l. h c (omega arith))

-- only what is copied counts
pub strided_ext : (to step n : ℕ) (g f : ℕ → Float) (w : List Float) → ((c : ℕ) → c < n → g c ≡ f c) → strided to step n g w ≡ strided to step n f w
unfolding strided
strided_ext to step zero g f w h = refl
strided_ext to step (suc n) g f w h =
    ap₂ (λ (l : List Float) (x : Float). set l (to + n * step) x) (strided_ext to step n g f w (λ c l. h c (omega arith))) (h n (omega arith))
