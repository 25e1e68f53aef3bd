-- What a step makes is as long as its target.
use mathlib.Core.Path.{◌≡◌}
use mathlib.Core.List.{List}
use lib.ListN.{length}
use lib.Ieee.{Float}
use Rattle.storage.specs.Shape.{Shape, packed, diagonal, columns, entries, size_of}
use Rattle.storage.proofs.Blocks.{length_fill}
use Rattle.update.specs.Working.{solved}

-- T by a triangle or a diagonal fills its target's shape, and by any other block leaves it
pub length_solved : (s d : Shape) (t f : List Float) → length t ≡ size_of s → length (solved s d t f) ≡ size_of s
unfolding solved
length_solved s (packed n) t f e = length_fill s _
length_solved s (diagonal n) t f e = length_fill s _
length_solved s (columns rows cols) t f e = e
length_solved s (entries cols row) t f e = e
