-- Where the cells of each shape lie: runs and cells answer each other, every cell has a place of its own, and the places in closed form.
use Prim.Native.Nat.{ℕ, ◌+◌, ◌*◌, ◌≤◌, ◌<◌}
use mathlib.Core.Path.{◌≡◌, refl, sym, ap₂, ◌∙◌}
use mathlib.Core.Bool.{true, and-eq-true_iff}
use native.Mathlib.Omega.{arith}
use lib.Dec.{ltb, leb, eqb}
use borrow.Author.Tests.{ltb-true, leb-true, eqb-true, lt-ltb, le-leb, eq-eqb}
use Rattle.storage.specs.Shape.{
  Shape,
  packed,
  diagonal,
  columns,
  entries,
  runs,
  run_length,
  run_of,
  in_run,
  row_at,
  column_at,
  has_cell,
  size_of,
  place_of,
}
use Rattle.storage.proofs.Starts.{start_dense, start_single, start_triangle, start_below, same_run, same_cell}

-- cell i of run j is a cell of the block, and j and i are read off it
pub record Holds (s : Shape) (j i : ℕ) : Type 0 where
  pub has : has_cell s (row_at s j i) (column_at s j i) ≡ true
  pub run : run_of s (row_at s j i) (column_at s j i) ≡ j
  pub within : in_run s (row_at s j i) (column_at s j i) ≡ i

-- a cell of one of its runs is a cell of the shape
pub holds : (s : Shape) (j i : ℕ) → j < runs s → i < run_length s j → Holds s j i
holds (packed n) j i h l = let m : i ≤ j = omega arith in record { has = rw (lt-ltb, le-leb); run = refl; within = refl }
holds (diagonal n) j i h l = record { has = rw (lt-ltb, eq-eqb j j refl); run = refl; within = omega arith }
holds (columns rows cols) j i h l = record { has = simp lt-ltb; run = refl; within = refl }
holds (entries cols row) j i h l = record { has = rw (lt-ltb, eq-eqb (row j) (row j) refl); run = refl; within = omega arith }

-- cell (r, c) is a cell of a run, and (r, c) is read off there
pub record Lies (s : Shape) (r c : ℕ) : Type 0 where
  pub run : run_of s r c < runs s
  pub within : in_run s r c < run_length s (run_of s r c)
  pub row : row_at s (run_of s r c) (in_run s r c) ≡ r
  pub column : column_at s (run_of s r c) (in_run s r c) ≡ c

-- a cell of the shape is one of its runs' cells
pub lies : (s : Shape) (r c : ℕ) → has_cell s r c ≡ true → Lies s r c
lies (packed n) r c h =
    let k = (and-eq-true_iff (ltb r n) (leb c r)).0 h in
    record { run = ltb-true r n k.0; within = omega (arith, leb-true c r k.1); row = refl; column = refl }
lies (diagonal n) r c h =
    let k = (and-eq-true_iff (ltb r n) (eqb c r)).0 h in
    record { run = ltb-true r n k.0; within = omega arith; row = refl; column = sym (eqb-true c r k.1) }
lies (columns rows cols) r c h =
    let k = (and-eq-true_iff (ltb c cols) (ltb r rows)).0 h in
    let x : c < cols = ltb-true c cols k.0 in
    let y : r < rows = ltb-true r rows k.1 in
    record { run = omega arith; within = omega arith; row = refl; column = refl }
lies (entries cols row) r c h =
    let k = (and-eq-true_iff (ltb c cols) (eqb r (row c))).0 h in
    record { run = ltb-true c cols k.0; within = omega arith; row = sym (eqb-true r (row c) k.1); column = refl }

-- every cell lies inside the block's list
pub place_below : (s : Shape) (r c : ℕ) → has_cell s r c ≡ true → place_of s r c < size_of s
place_below s r c h =
    let k = lies s r c h in omega (arith, k.within, start_below (run_length s) (run_of s r c) (runs s) k.run)

-- two cells at one place are one cell
pub place_one_to_one : (s : Shape) (r c r' c' : ℕ) → has_cell s r c ≡ true → has_cell s r' c' ≡ true → place_of s r c ≡ place_of s r' c' → (r ≡ r') × (c ≡ c')
place_one_to_one s r c r' c' h h' e =
    let k = lies s r c h in
    let k' = lies s r' c' h' in
    let p = same_run (run_length s) (run_of s r c) (in_run s r c) (run_of s r' c') (in_run s r' c') k.within k'.within e in
    let q = same_cell (run_length s) (run_of s r c) (in_run s r c) (run_of s r' c') (in_run s r' c') k.within k'.within e in
    (sym k.row ∙ ap₂ (row_at s) p q ∙ k'.row, sym k.column ∙ ap₂ (column_at s) p q ∙ k'.column)

-- ---- places and sizes in closed form

-- cell (r, c) of a triangle lies at r (r + 1) / 2 + c
pub place_packed : (n r c : ℕ) → 2 * place_of (packed n) r c ≡ r * (r + 1) + 2 * c
place_packed n r c = omega (arith, start_triangle r)

-- by columns
pub place_columns : (rows cols r c : ℕ) → place_of (columns rows cols) r c ≡ c * rows + r
place_columns rows cols r c = omega (arith, start_dense rows c)

-- pivot r lies at r
pub place_diagonal : (n r : ℕ) → place_of (diagonal n) r r ≡ r
place_diagonal n r = omega (arith, start_single r)

-- the entry of column c lies at c
pub place_entries : (cols : ℕ) (row : ℕ → ℕ) (c : ℕ) → place_of (entries cols row) (row c) c ≡ c
place_entries cols row c = omega (arith, start_single c)

-- n (n + 1) / 2 cells
pub size_packed : (n : ℕ) → 2 * size_of (packed n) ≡ n * (n + 1)
size_packed = start_triangle

-- rows times columns
pub size_columns : (rows cols : ℕ) → size_of (columns rows cols) ≡ rows * cols
size_columns rows cols = omega (arith, start_dense rows cols)

-- one cell a row
pub size_diagonal : (n : ℕ) → size_of (diagonal n) ≡ n
size_diagonal = start_single

-- one cell a column
pub size_entries : (cols : ℕ) (row : ℕ → ℕ) → size_of (entries cols row) ≡ cols
size_entries cols row = start_single cols
