-- For computing examples: what every computation on doubles comes down to, and the words of a list. No contract cites this file.
use Rattle.std.specs.Prelude.{ℕ, List, [], ◌∷◌, Float}
use Rattle.std.specs.Float.Ieee as Ieee
use Rattle.std.specs.Float.{binary64}
use Rattle.square_root.specs.Root.{sqrt_of}
use Rattle.logarithm.specs.Ln.{ln_of}
use Rattle.storage.specs.Runs.{start, tab, cells}
use Rattle.storage.specs.Shape.{fill}
use Rattle.storage.specs.Part.{store}
use Rattle.step_order.specs.Steps.{rust_order}
use Rattle.rules.specs.Sums.{sum_from, subtract_from, logs_from}
use Rattle.rules.specs.Cholesky.{forward, rows, first_bad}
use Rattle.rules.specs.Solves.{backward}
use Rattle.layout.specs.Shapes.{loaded_at, working_at, sum_at}
use Rattle.heading_format.specs.Heading.{written}

-- the definitions that do not open by themselves
unfoldable pub leaves : ℕ
unfolding start tab cells fill store sum_from subtract_from logs_from forward rows first_bad backward sqrt_of ln_of Ieee.add Ieee.sub Ieee.mul Ieee.div Ieee.le Ieee.lt Ieee.eq Ieee.of_int Ieee.of_bits Ieee.to_bits loaded_at working_at sum_at written rust_order
leaves = 0

abbrev pub word : ℕ → Float
word w = Ieee.of_bits binary64 w

unfoldable pub words : List Float → List ℕ
unfolding Ieee.to_bits
words [] = []
words (x ∷ l) = Ieee.to_bits binary64 x ∷ words l
