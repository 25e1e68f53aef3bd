-- The chosen numbers serve the bound of document 01, so `ln_of` is within 2^-50 + 2^-52 * |r| of the exact logarithm.
use Rattle.std.proofs.Common.{◌≡◌, ℕ, ◌+◌, ◌*◌, ◌^◌, ◌<◌, ◌≤◌, Bool, true, false, cond, T, ltb, sym, ap, ◌∙◌, subst, arith, lit<}
use lib.Ieee.{Float, binary64, fits}
use lib.Ieee.Positive.{positive}
use Rattle.float_bits.specs.declared.double.Kind.{Kind}
use Rattle.float_bits.specs.double.Parts.{significand, exponent}
use Rattle.float_bits.specs.double.Kind.{kind_of}
use Rattle.float_bits.proofs.double.Value.{significand_low, significand_high, exponent_le}
use Rattle.float_bits.proofs.double.Tests.{at_positive}
use Rattle.logarithm.specs.exact_log.Log.{apart, centre, rise, exact_ln}
use Rattle.logarithm.proofs.exact_log.Ends.{near_one}
use Rattle.logarithm.specs.fixed_point.Units.{chosen, ln_sum, ln_parts}
use Rattle.logarithm.specs.fixed_point.Near.{IsLn}
use Rattle.logarithm.proofs.fixed_point.Law.{sum_finite, sum_near}
use Rattle.logarithm.proofs.fixed_point.Serves.{serves}
use Rattle.logarithm.specs.Ln.{ln_at, ln_of}

pub few : (m t : ℕ) → t ≤ 2098 → apart (rise m t) 1074 ≤ 1074
few m t h = go (ltb m (3 * 2 ^ 51))
  where
    go : (b : Bool) → apart (t + cond b 0 1) 1074 ≤ 1074
    go true = omega arith
    go false = omega arith

pub centre_pos : (m : ℕ) → 0 < centre m
centre_pos m = go (ltb m (3 * 2 ^ 51))
  where
    go : (b : Bool) → 0 < cond b (2 ^ 52) (2 ^ 53)
    go true = lit< tt
    go false = lit< tt

-- of a kind, whatever told it
pub at_kind : (x : Float) {j : Kind} (k : Kind) → j ≡ kind_of x → j ≡ k → ln_at chosen k x ≡ ln_of x
unfolding ln_of
at_kind x k e f = ap (λ (i : Kind). ln_at chosen i x) (sym f ∙ e)

-- of a finite double above 0, `ln_of` is the sum of its parts
pub at_parts : (x : Float) → T (positive x) → ln_sum chosen (significand x) (centre (significand x)) (rise (significand x) (exponent x)) 1074 ≡ ln_of x
unfolding ln_of ln_at ln_parts significand exponent
at_parts x p = ap (λ k. ln_at chosen k x) (at_positive x p)

module _ (x : Float) (f : T (fits binary64 x)) (p : T (positive x)) where
  abbrev m : ℕ
  m = significand x

  abbrev u : ℕ
  u = rise (significand x) (exponent x)

  pub near_centre : 5 * apart m (centre m) ≤ m + centre m
  near_centre = (near_one m (significand_low x f p) (significand_high x f p)).0

  pub steps : apart u 1074 ≤ 1074
  steps = few m (exponent x) (exponent_le x f p)

  pub steps_few : apart u 1074 ≤ 1100
  steps_few = omega (arith, steps)

  -- the theorem: within 2^-50 + 2^-52 * |r| of the exact logarithm, with every number of terms
  pub ln_near : IsLn (2 ^ 50) (2 ^ 52) x (ln_of x)
  unfolding exact_ln
  ln_near =
      subst (λ (r : Float). IsLn (2 ^ 50) (2 ^ 52) x r) (at_parts x p)
      record {
        is_finite = sum_finite chosen (2 ^ 50) (2 ^ 52) serves m (centre m) (centre_pos m) near_centre u 1074 steps_few;
        near = λ N. sum_near chosen (2 ^ 50) (2 ^ 52) serves m (centre m) (centre_pos m) near_centre u 1074 steps_few N;
      }
