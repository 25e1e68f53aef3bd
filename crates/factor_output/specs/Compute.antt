-- For computing examples: what the program prints. No contract cites this file.
use Rattle.std.specs.Prelude.{ℕ, List}
use Rattle.sheet.specs.Text.{reading}
use Rattle.update.specs.Compute.{steps}
use Rattle.factor_output.specs.Program.{print_of}

unfoldable pub printed : List ℕ → List ℕ
unfolding reading steps print_of
printed s = print_of s
