-- A block and its list: the list has the block's cells, and is decided by them.
use Prim.Native.Nat.{ℕ, ◌+◌, ◌≤◌}
use mathlib.Core.Path.{◌≡◌, refl, sym, ap₂, ◌∙◌}
use mathlib.Core.Bool.{true}
use mathlib.Core.List.{List}
use native.Mathlib.Omega.{arith}
use lib.ListN.{length, get_or, set}
use lib.Seq.{get_or-set_same, get_or-set_other}
use Rattle.storage.specs.Runs.{start, triangle, dense, tab, cells}
use Rattle.storage.specs.Shape.{
  Shape,
  packed,
  diagonal,
  columns,
  entries,
  runs,
  run_length,
  run_of,
  in_run,
  row_at,
  column_at,
  has_cell,
  size_of,
  place_of,
  fill,
  cell,
}
use Rattle.storage.specs.Part.{part, store}
use Rattle.storage.proofs.Cells.{length_cells, get_or_cells, cells_ext, is_cells, cells_single}
use Rattle.storage.proofs.Places.{lies, holds, place_below, place_one_to_one}
use Rattle.storage.proofs.Parts.{get_or_part, store_in}

module _ {A : Type 0} where
  -- the list of a block is as long as the block has cells
  pub length_fill : (s : Shape) (f : ℕ → ℕ → A) → length (fill s f) ≡ size_of s
  unfolding fill
  length_fill s f = length_cells (run_length s) (runs s) (λ j i. f (row_at s j i) (column_at s j i))

  -- cell (r, c) of the block is f r c
  pub cell_fill : (d : A) (s : Shape) (f : ℕ → ℕ → A) (r c : ℕ) → has_cell s r c ≡ true → cell d s (fill s f) r c ≡ f r c
  unfolding fill
  cell_fill d s f r c h =
      let k = lies s r c h in
      get_or_cells (run_length s) (runs s) (λ j i. f (row_at s j i) (column_at s j i)) (run_of s r c) (in_run s r c) d k.run k.within
      ∙ ap₂ f k.row k.column

  -- only the cells that the shape has count
  pub fill_ext : (s : Shape) (f g : ℕ → ℕ → A) → ((r c : ℕ) → has_cell s r c ≡ true → f r c ≡ g r c) → fill s f ≡ fill s g
  unfolding fill
  fill_ext s f g h =
      cells_ext (run_length s) (runs s) (λ j i. f (row_at s j i) (column_at s j i)) (λ j i. g (row_at s j i) (column_at s j i))
      (λ j i p q. h (row_at s j i) (column_at s j i) (holds s j i p q).has)

  -- a list of the block's size that has f r c at every cell is the block's list
  pub is_fill : (d : A) (s : Shape) (f : ℕ → ℕ → A) (l : List A) → length l ≡ size_of s → ((r c : ℕ) → has_cell s r c ≡ true → cell d s l r c ≡ f r c)
      → l ≡ fill s f
  unfolding fill
  is_fill d s f l e h =
      is_cells d (run_length s) (runs s) (λ j i. f (row_at s j i) (column_at s j i)) l e
      (λ j i p q. let k = holds s j i p q in
      ap₂ (λ (x y : ℕ). get_or l (start (run_length s) x + y) d) (sym k.run) (sym k.within) ∙ h (row_at s j i) (column_at s j i) k.has)

  -- a list of the block's size is the block of its own cells
  pub fill_cell : (d : A) (s : Shape) (l : List A) → length l ≡ size_of s → fill s (cell d s l) ≡ l
  fill_cell d s l e = sym (is_fill d s (cell d s l) l e (λ r c h. refl))

  -- ---- one cell written

  module _ (d : A) (s : Shape) (l : List A) (r c : ℕ) (h : has_cell s r c ≡ true) (v : A) where
    -- it is what was written
    pub cell_set_same : length l ≡ size_of s → cell d s (set l (place_of s r c) v) r c ≡ v
    cell_set_same e = get_or-set_same l (place_of s r c) v d (omega (arith, place_below s r c h))

    -- every other cell is as it was
    pub cell_set_other : (r' c' : ℕ) → has_cell s r' c' ≡ true → (r ≡ r' → c ≡ c' → ⊥) → cell d s (set l (place_of s r c) v) r' c' ≡ cell d s l r' c'
    cell_set_other r' c' h' other =
        get_or-set_other l (place_of s r c) (place_of s r' c') v d
        (λ e. let k = place_one_to_one s r c r' c' h h' (sym e) in other k.0 k.1)

  -- ---- a block that lies from `off` on in a longer list

  -- its cells are read at its offset
  pub cell_part : (d : A) (s : Shape) (off : ℕ) (w : List A) (r c : ℕ) → has_cell s r c ≡ true
      → cell d s (part off (size_of s) w) r c ≡ get_or w (off + place_of s r c) d
  cell_part d s off w r c h = get_or_part off (size_of s) w (place_of s r c) d (place_below s r c h)

  -- once it is stored, its cells stand there
  pub cell_stored : (d : A) (s : Shape) (f : ℕ → ℕ → A) (off : ℕ) (w : List A) → off + size_of s ≤ length w
      → (r c : ℕ) → has_cell s r c ≡ true → get_or (store off (fill s f) w) (off + place_of s r c) d ≡ f r c
  cell_stored d s f off w fits r c h =
      store_in off (fill s f) w (omega (arith, length_fill s f)) d (place_of s r c) (omega (arith, length_fill s f, place_below s r c h))
      ∙ cell_fill d s f r c h

  -- ---- each shape by its runs

  -- a packed triangle, row by row
  pub fill_packed : (n : ℕ) (f : ℕ → ℕ → A) → fill (packed n) f ≡ cells triangle n f
  unfolding fill
  fill_packed n f = refl

  -- a dense block, column by column
  pub fill_columns : (rows cols : ℕ) (f : ℕ → ℕ → A) → fill (columns rows cols) f ≡ cells (dense rows) cols (λ c r. f r c)
  unfolding fill
  fill_columns rows cols f = refl

  -- a diagonal, pivot by pivot
  pub fill_diagonal : (n : ℕ) (f : ℕ → ℕ → A) → fill (diagonal n) f ≡ tab n (λ r. f r r)
  unfolding fill
  fill_diagonal n f = cells_single n (λ j i. f j j)

  -- a sparse block, entry by entry
  pub fill_entries : (cols : ℕ) (row : ℕ → ℕ) (f : ℕ → ℕ → A) → fill (entries cols row) f ≡ tab cols (λ c. f (row c) c)
  unfolding fill
  fill_entries cols row f = cells_single cols (λ j i. f (row j) j)
