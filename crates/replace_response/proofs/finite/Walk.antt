-- The first number that is not finite, as `position` finds it.
use Prim.Native.Nat.{ℕ, suc}
use mathlib.Core.Path.{◌≡◌, refl}
use mathlib.Core.Bool.{not}
use mathlib.Core.List.{List, [], ◌∷◌}
use native.Mathlib.Numerals.{add-one}
use lib.Ieee.{Float, nan, inf, fin}
use Rattle.std.specs.Float.{float_is_finite}
use Rattle.std.specs.List.{position_from}
use Rattle.replace_response.specs.finite.Found.{as_option}
use Rattle.workspace.specs.Answers.{first_infinite}

-- the walk of `position` from index i on
pub found : (i : ℕ) (l : List Float) → position_from (λ x. not (float_is_finite x)) i l ≡ as_option (first_infinite i l)
unfolding first_infinite float_is_finite
found i [] = refl
found i (nan ∷ l) = refl
found i (inf s ∷ l) = refl
found i (fin s m e ∷ l) = rw add-one (found (suc i) l)
