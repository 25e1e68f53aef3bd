-- beta (document 01, Record 7): its right side, the p doubles that the list begins with, solved with the packed factor at off, forward, then backward.
use Rattle.std.specs.Prelude.{ℕ, ◌≡◌, List, Float}
use Rattle.storage.specs.Shape.{packed}
use Rattle.storage.specs.Part.{store}
use Rattle.rules.specs.Arithmetic.{ieee}
use Rattle.rules.specs.Sums.{dot}
use Rattle.rules.specs.Cholesky.{at, forward}
use Rattle.rules.specs.Solves.{backward}
use Rattle.block_runs.specs.blocks.Blocks.{block, entry}

abbrev pub beta_of : (off p : ℕ) → List Float → List Float
beta_of off p v = backward ieee (at ieee (forward ieee (entry 0 p v) (block off (packed p) v) p)) (block off (packed p) v) p p

-- beta in the place of its right side, and the answer r: beta times its right side
pub record Effects (off p : ℕ) (v v' : List Float) (r : Float) : Type 0 where
  pub exit : v' ≡ store 0 (beta_of off p v) v
  pub answer : r ≡ dot ieee (at ieee (beta_of off p v)) (entry 0 p v) p
