-- A heading and so many doubles that 20 does not refuse (document 01, "Refused because of the state"), said without a test. proofs/Workspace.antt shows that
-- the calls' own test passes exactly on these.
use Rattle.std.specs.Prelude.{ℕ, ◌≤◌, ◌<◌, ◌≡◌, true, List, length, get_or}
use Rattle.sheet.specs.Sheet.{Sheet}
use Rattle.layout.specs.Shapes.{block_rows, doubles_needed}
use Rattle.heading_format.specs.Parts.{heading_length, sparse_at, diagonal_at, progress_at}
use Rattle.heading_format.specs.Heading.{layout_of, progress_of, entry_row, numbers_needed}
use Rattle.valid_heading.specs.Layouts.{LayoutOf}
use Rattle.valid_heading.specs.Reached.{Reached}

pub record IsWorkspace (h : List ℕ) (many : ℕ) : Type 0 where
  -- the heading's numbers are there, and its three marks are among those that there are: sparse or not, diagonal or not, none or under way or finished
  pub heading : heading_length ≤ length h
  pub sparse_mark : get_or h sparse_at 0 ≤ 1
  pub diagonal_mark : get_or h diagonal_at 0 ≤ 1
  pub state_mark : get_or h progress_at 0 ≤ 2
  -- "counts or a layout against Records 1 and 2"
  pub layout : (sheet : Sheet) × LayoutOf (layout_of h) sheet
  -- "progress against Record 5 or holding a done step without its forerunners"
  pub progress : Reached (layout_of h).k (progress_of h)
  -- "or a sparse row index not below m of block 1"
  pub rows : (layout_of h).sparse ≡ true → (c : ℕ) → c < block_rows (layout_of h) 0 → entry_row h c < block_rows (layout_of h) 1
  -- "or a workspace slice is shorter than it says"
  pub numbers : numbers_needed (layout_of h) ≤ length h
  pub doubles : doubles_needed (layout_of h) ≤ many
