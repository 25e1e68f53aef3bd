-- `load_numbers::store_words::put`: past the end nothing is set.
use mathlib.Core.Path.{sym}
use native.Mathlib.Omega.{arith}
use lib.Seq.{set_out}
use Rattle.load_numbers.proofs.store_words.put.Goals as goal

pub returns-else-place-doubles : goal.returns-else-place-doubles
returns-else-place-doubles c = let a = c.args in sym (set_out a.doubles.now a.place a.x (omega arith))
