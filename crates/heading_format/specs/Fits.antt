-- What a part of a call may take for granted of its workspace (document 01, refusal 20).
use Rattle.std.specs.Prelude.{ℕ, ◌<◌, ◌≤◌, ◌≡◌, true, List, length}
use Rattle.layout.specs.declared.Layout.{Layout}
use Rattle.layout.specs.Shapes.{block_rows, doubles_needed}
use Rattle.heading_format.specs.Parts.{heading_length}
use Rattle.heading_format.specs.Heading.{layout_of, progress_of, entry_row, valid_layout, valid_progress, numbers_needed}

-- y is a layout that Records 1 and 2 allow, and so many doubles have room for it
pub record Room (y : Layout) (doubles : ℕ) : Type 0 where
  pub valid : valid_layout y ≡ true
  pub room : doubles_needed y ≤ doubles

-- y is the layout of the heading h, and h and so many doubles are a workspace: `valid_heading`, taken apart
pub record Fits (y : Layout) (h : List ℕ) (doubles : ℕ) : Type 0 where
  pub same : y ≡ layout_of h
  pub valid : valid_layout y ≡ true
  pub progress : valid_progress y.k (progress_of h) ≡ true
  pub long : heading_length ≤ length h
  pub numbers : numbers_needed y ≤ length h
  pub room : doubles_needed y ≤ doubles
  pub rows : y.sparse ≡ true → (c : ℕ) → c < block_rows y 0 → entry_row h c < block_rows y 1
