-- Block (i, j) of a layout, as a value, and with its shape.
use Rattle.std.specs.Prelude.{ℕ}
use Rattle.layout.specs.declared.Layout.{Layout}
use Rattle.layout.specs.declared.FactorKind.{FactorKind}
use Rattle.layout.specs.Shapes.{shape_of_kind, shape, loaded_shape, working_at, loaded_at}
use Rattle.block_places.specs.block_kinds.Rows.{rows_of}
use Rattle.storage.specs.declared.Block.{Block}
use Rattle.storage.specs.Placed.{Placed, block_of}

abbrev pub working : Layout → ℕ → ℕ → Block
working y i j = block_of (working_at y i j) (rows_of y i) (rows_of y j)

-- a factor, by its kind
abbrev pub as_factor : FactorKind → Block → Placed
as_factor kind b = record { at = b.at; shape = shape_of_kind kind b.rows }

-- `row` is the row of each sparse column's entry
abbrev pub placed : Layout → (ℕ → ℕ) → ℕ → ℕ → Placed
placed y row i j = record { at = working_at y i j; shape = shape y row i j }

abbrev pub placed_loaded : Layout → (ℕ → ℕ) → ℕ → ℕ → Placed
placed_loaded y row i j = record { at = loaded_at y i j; shape = loaded_shape y row i j }
