-- Where the first number stands that is not finite, as the code's Option.
use Rattle.std.specs.Prelude.{ℕ, Option, None, Some}
use Rattle.std.proofs.Math.Option as Math

abbrev pub as_option : Math.Option ℕ → Option ℕ
as_option Math.none = None
as_option (Math.some i) = Some i
