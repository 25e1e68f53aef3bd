-- The value: ML, and REML with the pivots' logarithms; it goes by the pivots alone.
use Prim.Native.Nat.{ℕ, zero, suc, ◌<◌}
use mathlib.Core.Path.{◌≡◌, refl, ap, ap₂}
use mathlib.Core.Bool.{Bool, true, false, cond}
use native.Mathlib.Omega.{arith}
use lib.Ieee.{Float}
use Rattle.rules.specs.Arithmetic.{ieee}
use Rattle.rules.specs.Sums.{logs_from}
use Rattle.rules.specs.Finish.{deviance_of}

-- the logarithms' sum goes by the n numbers alone
pub logs_same : (s : Float) (a b : ℕ → Float) (n : ℕ) → ((r : ℕ) → r < n → a r ≡ b r) → logs_from ieee s a n ≡ logs_from ieee s b n
unfolding logs_from
logs_same s a b zero e = refl
logs_same s a b (suc n) e = ap₂ (λ (x y : Float). ieee.plus x (ieee.log y)) (logs_same s a b n (λ r h. e r (omega arith))) (e n (omega arith))

module _ (reml : Bool) (d s logdet : Float) (p : ℕ) where
  abbrev ml : Float → Float
  ml x = ieee.plus (ieee.plus (ieee.times d x) logdet) d

  -- and so does the deviance
  pub value_same : (a b : ℕ → Float) → ((r : ℕ) → r < p → a r ≡ b r) → deviance_of ieee reml d s logdet a p ≡ deviance_of ieee reml d s logdet b p
  value_same a b e =
      let m : Float = ml (ieee.log (ieee.times ieee.tau s)) in
      ap (λ (x : Float). cond reml (ieee.plus m (ieee.times ieee.two x)) m) (logs_same ieee.zero a b p e)

  module _ (a : ℕ → Float) (l : Float) (is-l : l ≡ ieee.log (ieee.times ieee.tau s)) where
    pub value_ml : reml ≡ false → ml l ≡ deviance_of ieee reml d s logdet a p
    value_ml e = rw (e, is-l) refl

    pub value_reml : (v : Float) → reml ≡ true → v ≡ logs_from ieee ieee.zero a p → ieee.plus (ml l) (ieee.times ieee.two v) ≡ deviance_of ieee reml d s logdet a p
    value_reml v e z = rw (e, is-l) (ap (λ (x : Float). ieee.plus (ml (ieee.log (ieee.times ieee.tau s))) (ieee.times ieee.two x)) z)
