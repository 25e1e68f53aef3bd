-- Load writes exactly as many doubles and numbers as Record 2's formula says.
use Prim.Native.Nat.{ℕ, ◌+◌, ◌-◌}
use mathlib.Core.Path.{◌≡◌, refl, ap₂, ◌∙◌}
use mathlib.Core.Bool.{Bool, true, false, cond}
use mathlib.Core.List.{List, [], ◌∷◌}
use native.Mathlib.Omega.{arith}
use lib.ListN.{length, replicate, length-append, length-replicate}
use Rattle.storage.specs.Runs.{tab}
use Rattle.storage.specs.Shape.{fill}
use Rattle.storage.proofs.Cells.{length_tab}
use Rattle.storage.proofs.Blocks.{length_fill}
use Rattle.rules.specs.Arithmetic.{ieee}
use Rattle.sheet.specs.Sheet.{Sheet}
use Rattle.layout.specs.declared.Layout.{Layout}
use Rattle.layout.specs.Shapes.{Target, pick, levels, cells_of, loaded_shape, loaded_sizes, loaded_length, sum_at, targets, doubles_needed, triangle_end}
use Rattle.heading_format.specs.Heading.{written, idle, numbers_needed}
use Rattle.layout.proofs.Places.{size_loaded}
use Rattle.heading_format.proofs.Heading.{length_written}
use Rattle.workspace.specs.Memory.{zeros}
use Rattle.workspace.specs.Loaded.{entry_row_in, loaded_word, double, loaded_from, loaded_numbers}
use Rattle.workspace.specs.Load.{heading_of, doubles_of}
use Rattle.workspace.specs.Response.{Response, Prescribed}

module _ (sheet : Sheet) (y : Layout) where
  length_from : (l : List Target) → length (loaded_from sheet y l) ≡ cells_of (loaded_sizes y) l
  unfolding loaded_from cells_of
  length_from [] = refl
  length_from (t ∷ l) =
      length-append (fill (loaded_shape y (entry_row_in sheet y) t.row t.col) (λ r c. double (loaded_word sheet y t.row t.col r c))) (loaded_from sheet y l)
      ∙ ap₂ (λ (a b : ℕ). a + b) (length_fill (loaded_shape y (entry_row_in sheet y) t.row t.col) _ ∙ size_loaded y (entry_row_in sheet y) t.row t.col)
      (length_from l)

  -- the loaded numbers
  pub length_loaded : length (loaded_numbers sheet y) ≡ loaded_length y
  unfolding loaded_numbers triangle_end
  length_loaded = length_from (targets y.k)

  -- all doubles
  pub length_doubles : length (doubles_of sheet y) ≡ doubles_needed y
  unfolding doubles_of zeros sum_at
  length_doubles =
      omega (
        arith,
        length-append (loaded_numbers sheet y) (replicate (doubles_needed y - loaded_length y) ieee.zero),
        length_loaded,
        length-replicate (doubles_needed y - loaded_length y) ieee.zero,
      )

  rows_length : (b : Bool) → length (pick b (tab (levels y 0) (entry_row_in sheet y)) []) ≡ cond b (levels y 0) 0
  rows_length true = length_tab (levels y 0) (entry_row_in sheet y)
  rows_length false = refl

  -- all numbers of the heading
  pub length_heading : length (heading_of sheet y) ≡ numbers_needed y
  unfolding heading_of
  length_heading =
      length-append (written y (idle y.k)) (pick y.sparse (tab (levels y 0) (entry_row_in sheet y)) [])
      ∙ ap₂ (λ (a b : ℕ). a + b) (length_written y (idle y.k)) (rows_length y.sparse)

-- the lengths of a response, list by list
pub prescribed_lengths : (y : Layout) (r : Response) → Prescribed y r → (length r.zy ≡ y.q) × (length r.xy ≡ y.p) × (length r.yy ≡ 1)
prescribed_lengths y r e = (cc, cc, cc)
