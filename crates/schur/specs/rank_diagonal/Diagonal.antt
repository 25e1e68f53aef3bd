-- S of a diagonal block (document 01, Record 4): each pivot less the sum of the squares of its row of the cross block, over the cells that were
-- loaded non-zero, whatever they are now. The sum is taken from 0.0 by rising inner index and subtracted once; every other double stays.
use Rattle.std.specs.Prelude.{ℕ, Bool, ◌&&◌, not, List, Float}
use Rattle.storage.specs.Shape.{Shape, has_cell}
use Rattle.rules.specs.Arithmetic.{ieee}
use Rattle.rules.specs.Steps.{subtract_diagonal}
use Rattle.storage.specs.declared.Block.{Block}
use Rattle.storage.specs.Placed.{Placed, as_diagonal, read, put}
use Rattle.block_runs.specs.blocks.Blocks.{block}

-- whether cell (r, x) of the block with shape s counts: it was loaded, from `src` on, and is not ±0
abbrev pub loaded : (s : Shape) (src : ℕ) → List Float → ℕ → ℕ → Bool
loaded s src w r x = has_cell s r x && not (ieee.null (block src s w r x))

-- the diagonal t less the working cross block a in its form, loaded from `src`, times itself transposed
abbrev pub subtracted_diagonal : (form : Block → Placed) (t a : Block) (src : ℕ) → List Float → List Float
subtracted_diagonal form t a src w =
    put (as_diagonal t) (subtract_diagonal ieee (loaded (form a).shape src w) (read (as_diagonal t) w) (read (form a) w) a.cols) w
