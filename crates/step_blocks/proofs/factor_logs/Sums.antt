-- One double written: the running sum.
use Prim.Native.Nat.{ℕ, ◌<◌}
use mathlib.Core.Path.{◌≡◌, refl, sym, ap, ◌∙◌}
use mathlib.Core.List.{List, [], ◌∷◌}
use native.Mathlib.Omega.{arith}
use lib.Dec.{eqb}
use lib.ListN.{length, get_or, take, set}
use lib.Seq.{drop-cons}
use lib.Ieee.{Float, nan}
use borrow.Author.Tests.{eq-eqb, ne_eqb}
use Rattle.storage.specs.Part.{store}
use Rattle.storage.proofs.Parts.{store_part}
use Rattle.storage.proofs.Cells.{any_default}
use Rattle.rules.specs.Arithmetic.{ieee}
use Rattle.layout.specs.declared.Layout.{Layout}
use Rattle.re_lower.proofs.Band.{set_one}
use Rattle.step_blocks.specs.factor_logs.Factors.{logs_of, sum_with}

-- a double written where it stands
pub kept : (w : List Float) (z : ℕ) → z < length w → store z (get_or w z ieee.zero ∷ []) w ≡ w
kept w z h = ap (λ (l : List Float). store z l w) (sym (ap (take 1) (drop-cons w z ieee.zero h))) ∙ store_part z 1 w (omega arith)

module _ (y : Layout) (w : List Float) (j sum : ℕ) (h : sum < length w) (pivot : ℕ → Float) (n : ℕ) where
  abbrev Summed : List Float → Type 0
  Summed w' = w' ≡ store sum (sum_with y j (get_or w sum ieee.zero) pivot n ∷ []) w

  -- the sum without block k's logarithms
  pub sum_kept : j ≡ y.k → Summed w
  sum_kept e = rw (eq-eqb j y.k e) (sym (kept w sum h))

  -- and with those of an earlier block
  pub sum_written : {z : ℕ} {v : Float} → (j ≡ y.k → ⊥) → z ≡ sum → v ≡ logs_of (eqb j 0) (get_or w z nan) pivot n → Summed (set w z v)
  sum_written {z} {v} e is q =
      rw (ne_eqb j y.k e, is)
      (set_one w sum sum v refl h
      ∙ ap (λ (x : Float). store sum (x ∷ []) w) (q ∙ ap (λ (x : Float). logs_of (eqb j 0) x pivot n) (rw is (any_default w sum nan ieee.zero h))))
