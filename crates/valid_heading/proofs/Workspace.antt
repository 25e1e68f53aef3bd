-- THE CLAIM: the test of 20 that the calls make passes exactly on workspaces.
use Prim.Native.Nat.{ℕ, ◌≤◌}
use mathlib.Core.Path.{◌≡◌, refl}
use mathlib.Core.Logic.{◌↔◌}
use mathlib.Core.Bool.{true}
use mathlib.Core.List.{List}
use native.Mathlib.Omega.{arith}
use lib.ListN.{length}
use Rattle.storage.proofs.Parts.{length_part}
use Rattle.heading_format.specs.Parts.{order_at, heading_length}
use Rattle.heading_format.specs.Heading.{layout_of, progress_of, valid_layout, valid_heading}
use Rattle.heading_format.proofs.Valid.{is_valid}
use Rattle.heading_format.proofs.Fits.{fits, marks}
use Rattle.heading_format.proofs.Heading.{valid_heading_of}
use Rattle.valid_heading.specs.Workspace.{IsWorkspace}
use Rattle.valid_heading.proofs.Layouts.{layout_exactly}
use Rattle.valid_heading.proofs.Reached.{progress_exactly}

-- a heading has the sheet indices of eight blocks
eight_places : (h : List ℕ) → heading_length ≤ length h → length (layout_of h).order ≡ 8
unfolding layout_of
eight_places h long = length_part order_at 8 h (omega arith)

pub valid_exactly : (h : List ℕ) (many : ℕ) → (valid_heading h many ≡ true) ↔ IsWorkspace h many
valid_exactly h many = (
  λ ok. let f = fits h many ok in
      let m = marks h many ok in
      record {
        heading = f.long;
        sparse_mark = m.0;
        diagonal_mark = m.1;
        state_mark = m.2;
        layout = (layout_exactly (layout_of h) (eight_places h f.long)).0 f.valid;
        progress = (progress_exactly (layout_of h).k (few f.valid) (progress_of h)).0 f.progress;
        rows = f.rows;
        numbers = f.numbers;
        doubles = f.room;
      },
  λ w. let valid = (layout_exactly (layout_of h) (eight_places h w.heading)).1 w.layout in
      valid_heading_of h many (layout_of h) (progress_of h) refl refl w.heading w.sparse_mark w.diagonal_mark w.state_mark valid
      ((progress_exactly (layout_of h).k (few valid) (progress_of h)).1 w.progress) w.numbers w.doubles w.rows,
)
  where
    few : valid_layout (layout_of h) ≡ true → (layout_of h).k ≤ 8
    few ok = (is_valid (layout_of h) ok).blocks.1
