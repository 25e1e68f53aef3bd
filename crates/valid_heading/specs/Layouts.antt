-- "counts or a layout against Records 1 and 2" (document 01, refusal 20), without a test: counts and layout are those of some sheet in form that 5 to 11 do not
-- refuse, its length aside.
use Rattle.std.specs.Prelude.{ℕ, ◌<◌, ◌≡◌}
use Rattle.sheet.specs.Sheet.{Sheet}
use Rattle.layout.specs.declared.Layout.{Layout}
use Rattle.layout.specs.Shapes as Shapes
use Rattle.layout.specs.Shapes.{sheet_index}
use Rattle.workspace.specs.Loaded.{layout_of_sheet}
use Rattle.sheet_text.specs.Acceptable.{Passes}

-- two layouts say the same: of their k blocks, what stands behind these having no use
pub record SameLayout (y z : Layout) : Type 0 where
  pub n : y.n ≡ z.n
  pub p : y.p ≡ z.p
  pub q : y.q ≡ z.q
  pub k : y.k ≡ z.k
  pub levels : (j : ℕ) → j < y.k → Shapes.levels y j ≡ Shapes.levels z j
  pub order : (j : ℕ) → j < y.k → sheet_index y j ≡ sheet_index z j
  pub sparse : y.sparse ≡ z.sparse
  pub diagonal : y.diagonal ≡ z.diagonal

-- the layout of a sheet in form that 5 to 11 do not refuse; its length is not asked for
pub record LayoutOf (y : Layout) (sheet : Sheet) : Type 0 where
  pub passes : Passes sheet
  pub same : SameLayout y (layout_of_sheet sheet)
