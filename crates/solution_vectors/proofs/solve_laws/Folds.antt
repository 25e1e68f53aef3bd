-- The turns of a block of a solve, forward over the blocks before it and backward over those behind it.
use Prim.Native.Nat.{ℕ, zero, suc, ◌+◌, ◌-◌, ◌<◌, ◌≤◌}
use mathlib.Core.Path.{◌≡◌, refl, sym, ap, ap₂, ◌∙◌}
use mathlib.Core.Bool.{true}
use mathlib.Core.List.{List}
use native.Mathlib.Numerals.{add-one}
use native.Mathlib.Omega.{arith}
use lib.ListN.{length, drop}
use lib.Seq.{get_or-drop}
use lib.Ieee.{Float}
use Rattle.rules.specs.Arithmetic.{ieee}
use Rattle.rules.specs.Cholesky.{at}
use Rattle.layout.specs.declared.Layout.{Layout}
use Rattle.layout.proofs.Rows.{pick_at}
use Rattle.heading_format.specs.Heading.{valid_layout, layout_of}
use Rattle.workspace.specs.Memory.{working_block}
use Rattle.profile.specs.Solves.{block_in, subtract_forward, subtract_first, subtract_backward, subtract_later}
use Rattle.solution_vectors.specs.Vectors.{block_at, blocks_at, subtracted_forward, subtracted_backward, solved_forward_in, solved_backward_in, turned_forward, turned_backward}
use Rattle.solution_vectors.proofs.Vectors.{block_in_lem}
use Rattle.solution_vectors.proofs.solve_laws.Within.{factor_at, forward_inside, backward_inside}
use Rattle.solution_vectors.proofs.solve_laws.Turns.{Turning, turning_none, turning_other, turning_more, turning_solve}

module _ (h : List ℕ) (w : List Float) where
  -- either rule makes a row of that row alone
  forward_local : (i j : ℕ) (z : List Float) (f f' : ℕ → Float) (r : ℕ) → f r ≡ f' r → subtract_forward h w i j z f r ≡ subtract_forward h w i j z f' r
  forward_local i j z f f' r e = pick_at (layout_of h).sparse _ _ _ _ r (λ q. rw e) (λ q. rw e)

  backward_local : (j i : ℕ) (z : List Float) (f f' : ℕ → Float) (r : ℕ) → f r ≡ f' r → subtract_backward h w j i z f r ≡ subtract_backward h w j i z f' r
  backward_local j i z f f' r e = pick_at (layout_of h).sparse _ _ _ _ r (λ q. rw e) (λ q. rw e)

  -- only the blocks before count
  pub first_ext : (i : ℕ) (z z' : List (List Float)) (f : ℕ → Float) (n : ℕ) → ((j : ℕ) → j < n → block_in z j ≡ block_in z' j)
      → subtract_first h w i z f n ≡ subtract_first h w i z' f n
  unfolding subtract_first
  first_ext i z z' f zero e = refl
  first_ext i z z' f (suc n) e = ap₂ (subtract_forward h w i n) (e n (omega arith)) (first_ext i z z' f n (λ j l. e j (omega arith)))

  module _ (y : Layout) (from i : ℕ) (v₀ : List Float) where
    -- block i after its first turns, of the vector as it was at the start
    abbrev pub first_turns : ℕ → ℕ → Float
    first_turns j = subtract_first h w i (blocks_at y from v₀) (at ieee (block_at y from v₀ i)) j

    abbrev pub later_turns : ℕ → ℕ → Float
    later_turns n = subtract_later h w i (drop (suc i) (blocks_at y from v₀)) (at ieee (block_at y from v₀ i)) n

  -- ---- forward: the blocks before j have been taken
  pub record Forward (y : Layout) (from i : ℕ) (v₀ v : List Float) (j : ℕ) : Type 0 where
    pub within : j ≤ i
    pub turns : Turning y from i v₀ (first_turns y from i v₀ j) v

  -- ---- backward: the blocks behind i and before j have been taken
  pub record Backward (y : Layout) (from i : ℕ) (v₀ v : List Float) (j : ℕ) : Type 0 where
    pub behind : suc i ≤ j
    pub within : j ≤ y.k
    pub turns : Turning y from i v₀ (later_turns y from i v₀ (j - suc i)) v

  module _ {y : Layout} {from i : ℕ} {v₀ : List Float} where
    pub forward_start : valid_layout y ≡ true → i < y.k → from + y.q ≤ length v₀ → Forward y from i v₀ v₀ 0
    unfolding subtract_first
    forward_start ok here fits = record { within = omega arith; turns = turning_none ok here fits }

    pub backward_start : valid_layout y ≡ true → i < y.k → from + y.q ≤ length v₀ → {j : ℕ} → j ≡ i + 1 → Backward y from i v₀ v₀ j
    unfolding subtract_later
    backward_start ok here fits {j} e =
        let none : j - suc i ≡ 0 = omega arith in
        record { behind = omega arith; within = omega arith; turns = rw none (turning_none ok here fits) }

    module _ {v : List Float} {j : ℕ} where
      pub forward_more : Forward y from i v₀ v j → j < i → {v' : List Float} → v' ≡ subtracted_forward h w y from i j v → Forward y from i v₀ v' (j + 1)
      unfolding subtract_first
      forward_more e l then =
          let t = e.turns in
          let here = t.here in
          let source : block_in (blocks_at y from v₀) j ≡ block_at y from v j =
          block_in_lem y t.valid_layout from v₀ t.fits j (omega arith) ∙ sym (turning_other t j (omega arith) (λ q. omega arith)) in
          record {
            within = omega arith;
            turns = rw (add-one, source) (turning_more t (subtract_forward h w i j (block_at y from v j)) (forward_local i j (block_at y from v j)) then);
          }

      pub backward_more : Backward y from i v₀ v j → j < y.k → {v' : List Float} → v' ≡ subtracted_backward h w y from j i v → Backward y from i v₀ v' (j + 1)
      unfolding subtract_later
      backward_more e l then =
          let t = e.turns in
          let behind = e.behind in
          let next : j + 1 - suc i ≡ suc (j - suc i) = omega arith in
          let this : i + suc (j - suc i) ≡ j = omega arith in
          let this' : suc i + (j - suc i) ≡ j = omega arith in
          let source : block_in (drop (suc i) (blocks_at y from v₀)) (j - suc i) ≡ block_at y from v j =
          get_or-drop (suc i) (blocks_at y from v₀) (j - suc i) _ ∙ ap (block_in (blocks_at y from v₀)) this'
          ∙ block_in_lem y t.valid_layout from v₀ t.fits j l ∙ sym (turning_other t j l (λ q. omega arith)) in
          record {
            behind = omega arith;
            within = omega arith;
            turns = rw (next, this, source) (turning_more t (subtract_backward h w j i (block_at y from v j)) (backward_local j i (block_at y from v j)) then);
          }

      -- the solve inside ends it
      pub forward_end : y ≡ layout_of h → Forward y from i v₀ v j → i ≤ j → {v' : List Float} → v' ≡ solved_forward_in h w y from i v → v' ≡ turned_forward h w y from i v₀
      forward_end q e l then =
          let within = e.within in
          let all : j ≡ i = omega arith in
          turning_solve (rw all at e.turns) (forward_inside _ _ (factor_at h w y q i e.turns.here) (working_block h w i i)) then

      pub backward_end : y ≡ layout_of h → Backward y from i v₀ v j → y.k ≤ j → {v' : List Float} → v' ≡ solved_backward_in h w y from i v → v' ≡ turned_backward h w y from i v₀
      backward_end q e l then =
          let within = e.within in
          let all : j ≡ y.k = omega arith in
          turning_solve (rw all at e.turns) (backward_inside _ _ (factor_at h w y q i e.turns.here) (working_block h w i i)) then
