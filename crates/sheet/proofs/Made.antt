-- The counts of a size line by their numbers: laws and examples name them so, and a field more is given here.
use Prim.Native.Nat.{ℕ}
use Rattle.sheet.specs.declared.Counts.{Counts}

abbrev pub counts_with : (n p q k flag : ℕ) → Counts
counts_with n p q k flag = record { n = n; p = p; q = q; k = k; flag = flag }
