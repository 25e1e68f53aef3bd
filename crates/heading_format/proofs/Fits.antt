-- `valid_heading`, taken apart.
use Prim.Native.Nat.{ℕ, ◌≤◌}
use mathlib.Core.Path.{◌≡◌, refl, sym, subst}
use mathlib.Core.Bool.{true, not, ◌||◌}
use mathlib.Core.List.{List}
use lib.Dec.{ltb, leb}
use lib.ListN.{length, get_or}
use borrow.Author.Tests.{leb-true, ltb-true}
use Rattle.layout.specs.declared.Layout.{Layout}
use Rattle.layout.specs.Shapes.{levels, doubles_needed}
use Rattle.heading_format.specs.Heading.{layout_of, progress_of, entry_row, every, valid_layout, valid_progress, valid_heading, numbers_needed}
use Rattle.heading_format.proofs.Valid.{every_at, unless_at_lem, nine}
use Rattle.heading_format.specs.Fits.{Room, Fits}
use Rattle.heading_format.specs.Parts.{sparse_at, diagonal_at, progress_at, heading_length}

module _ (h : List ℕ) (doubles : ℕ) (ok : valid_heading h doubles ≡ true) where
  abbrev y : Layout
  y = layout_of h

  -- the nine tests pass
  tests : (leb heading_length (length h) ≡ true) × (leb (get_or h sparse_at 0) 1 ≡ true) × (leb (get_or h diagonal_at 0) 1 ≡ true) × (leb (get_or h progress_at 0) 2 ≡ true) × (valid_layout y ≡ true)
      × (valid_progress y.k (progress_of h) ≡ true) × (leb (numbers_needed y) (length h) ≡ true) × (leb (doubles_needed y) doubles ≡ true)
      × ((not y.sparse || every (λ c. ltb (entry_row h c) (levels y 1)) (levels y 0)) ≡ true)
  unfolding valid_heading
  tests =
      nine (leb heading_length (length h)) (leb (get_or h sparse_at 0) 1) (leb (get_or h diagonal_at 0) 1) (leb (get_or h progress_at 0) 2) (valid_layout y) (valid_progress y.k (progress_of h))
      (leb (numbers_needed y) (length h)) (leb (doubles_needed y) doubles)
      (not y.sparse || every (λ c. ltb (entry_row h c) (levels y 1)) (levels y 0)) ok

  pub fits : Fits (layout_of h) h doubles
  fits =
      record {
        same = refl;
        valid = tests.4;
        progress = tests.5;
        long = leb-true heading_length (length h) tests.0;
        numbers = leb-true (numbers_needed y) (length h) tests.6;
        room = leb-true (doubles_needed y) doubles tests.7;
        rows = λ s c b. ltb-true (entry_row h c) (levels y 1) (every_at (λ c. ltb (entry_row h c) (levels y 1)) (levels y 0) (unless_at_lem y.sparse _ tests.8 s) c b);
      }

  -- and its marks are among those that there are
  pub marks : (get_or h sparse_at 0 ≤ 1) × (get_or h diagonal_at 0 ≤ 1) × (get_or h progress_at 0 ≤ 2)
  marks = (leb-true (get_or h sparse_at 0) 1 tests.1, leb-true (get_or h diagonal_at 0) 1 tests.2, leb-true (get_or h progress_at 0) 2 tests.3)

-- the layout that was read of the heading fits as the heading's own does
pub read_fits : {y : Layout} {h : List ℕ} {doubles : ℕ} → y ≡ layout_of h → Fits (layout_of h) h doubles → Fits y h doubles
read_fits {y} {h} {doubles} e fit = subst (λ (z : Layout). Fits z h doubles) (sym e) fit

-- it has room
pub room_of_lem : {y : Layout} {h : List ℕ} {doubles : ℕ} → Fits y h doubles → Room y doubles
room_of_lem fit = record { valid = fit.valid; room = fit.room }
