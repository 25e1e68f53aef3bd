-- Two columns of a dense block, made side by side, and two columns more.
use Prim.Native.Nat.{ℕ, ◌+◌, ◌*◌, ◌≤◌}
use mathlib.Core.Path.{◌≡◌, refl, sym, ap, ap₂, subst, ◌∙◌}
use mathlib.Core.List.{List}
use native.Mathlib.Omega.{arith}
use lib.ListN.{length}
use lib.Ieee.{Float}
use Rattle.rules.specs.Arithmetic.{ieee}
use Rattle.storage.specs.declared.Block.{Block}
use Rattle.storage.specs.Placed.{Placed, Product, Within, Apart, as_columns, read}
use Rattle.block_runs.specs.axpy.Axpy.{at, run, along, products}
use Rattle.schur.specs.Schur.{subtract_sums, subtract_dots}
use Rattle.block_runs.proofs.blocks.Going.{Going, turn}
use Rattle.schur.proofs.Turns.{subtract_sum, sums_dot, sums_subtracted, same_apart}

-- a column less sums that were made before the column in front of it was written
pub second_subtracted : (w w₁ w₂ acc acc₁ acc₂ : List Float) (t a b : Block) (to to' n r r' : ℕ) → Product (length w) as_columns as_columns t a b → n ≤ length acc → Within (as_columns t) to n
    → acc₁ ≡ run 0 n (λ i. ieee.zero) acc → acc₂ ≡ products ieee.plus acc₁ n w a.at a.rows w b.at b.rows r' a.cols
    → w₁ ≡ subtract_sums to n a b r w → w₂ ≡ run to' n (λ i. ieee.minus (at w₁ (to' + i)) (at acc₂ i)) w₁
    → w₂ ≡ subtract_sums to' n a b r' (subtract_sums to n a b r w)
second_subtracted w w₁ w₂ acc acc₁ acc₂ t a b to to' n r r' P long in_block first then made so =
    let same : (q : Placed) → Apart (as_columns t) q → read q w ≡ read q w₁ = λ q h. sym (ap (read q) made ∙ same_apart (as_columns t) q to n _ w in_block P.target h) in
    sums_subtracted w₁ w₂ acc acc₁ acc₂ to' n a b r' long P.inner first
    (then
    ∙ ap₂ (λ (x y : ℕ → ℕ → Float). run 0 n (λ i. along ieee.plus (at acc₁ i) (x i) (y r') a.cols) acc₁) (same (as_columns a) P.off_left)
    (same (as_columns (record { at = b.at; rows = b.rows; cols = a.cols })) (rw P.inner at P.off_right)))
    so
    ∙ ap (subtract_sums to' n a b r') made

module _ {t a b : Block} {w₀ : List Float} (P : Product (length w₀) as_columns as_columns t a b) where
  pub one_turn : {c to : ℕ} {w : List Float} {to' : ℕ} {w' : List Float} → Going (as_columns t) (subtract_dots t a b w₀) w₀ c to w → c + 1 ≤ t.cols
      → to' ≡ to + t.rows → w' ≡ subtract_sums to t.rows a b c w → Going (as_columns t) (subtract_dots t a b w₀) w₀ (c + 1) to' w'
  one_turn e more next then =
      turn e (omega arith) (subtract_sum a.cols) (as_columns a) (as_columns b) t.rows P.off_left P.off_right (λ i. sums_dot a.cols _ _ _) refl next then

  pub two_turns : {c to : ℕ} {w : List Float} {to' : ℕ} {w' : List Float} → Going (as_columns t) (subtract_dots t a b w₀) w₀ c to w → c + 2 ≤ t.cols
      → to' ≡ to + 2 * t.rows → w' ≡ subtract_sums (to + t.rows) t.rows a b (c + 1) (subtract_sums to t.rows a b c w) → Going (as_columns t) (subtract_dots t a b w₀) w₀ (c + 2) to' w'
  two_turns {c} {to} {w} {to'} {w'} e more next then =
      let k : c + 1 + 1 ≡ c + 2 = omega arith in
      subst (λ (x : ℕ). Going (as_columns t) (subtract_dots t a b w₀) w₀ x to' w') k (one_turn (one_turn e (omega arith) refl refl) (omega arith) (omega arith) then)
