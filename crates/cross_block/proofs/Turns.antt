-- A scaled run as a block of any shape, and a turn of each loop: one column more of T.
use Prim.Native.Nat.{ℕ, ◌+◌, ◌≤◌, ◌<◌}
use mathlib.Core.Path.{◌≡◌, refl, sym, ap, ap₂, ◌∙◌}
use mathlib.Core.List.{List}
use native.Mathlib.Omega.{arith}
use lib.ListN.{length, get_or}
use lib.Ieee.{Float, nan}
use Rattle.storage.specs.Runs.{start, triangle, dense, tab, single}
use Rattle.storage.specs.Shape.{Shape, packed, diagonal, columns, size_of, place_of, fill}
use Rattle.storage.specs.Part.{store, part}
use Rattle.storage.specs.declared.Block.{Block}
use Rattle.storage.specs.Placed.{block_of, as_columns, as_triangle, as_diagonal, as_entries, read, put}
use Rattle.storage.proofs.Starts.{start_below, start_le, start_dense, start_single}
use Rattle.storage.proofs.Cells.{length_tab, get_or_tab, tab_ext, cells_ext, any_default}
use Rattle.storage.proofs.Places.{place_below}
use Rattle.storage.proofs.Blocks.{is_fill, cell_part}
use Rattle.rules.specs.Arithmetic.{ieee}
use Rattle.rules.specs.Sums.{chain}
use Rattle.rules.specs.Steps.{divide}
use Rattle.rules.proofs.Exact.{forward_cell}
use Rattle.block_runs.specs.blocks.Blocks.{block, EachShape}
use Rattle.block_runs.proofs.blocks.Laws.{read_block, has_dense, has_packed, has_diagonal}
use Rattle.block_runs.proofs.blocks.Going.{Going, going_same, going_cell, going_written, going_more, turn}
use Rattle.block_runs.specs.axpy.Axpy.{at, run, products}
use Rattle.block_runs.proofs.axpy.Sums.{along_ext, subtract_along, summed}
use Rattle.cross_block.specs.Blocks.{ByFactor, divided_cell, divided_columns, solved_cell, solved_column}

-- ---- a run of n doubles, each made of one that is loaded

-- the doubles as a block of any shape with n cells
pub as_block : (n src : ℕ) (a : List Float) (h : Float → Float) (s : Shape) → size_of s ≡ n
    → tab n (λ i. h (get_or a (src + i) ieee.zero)) ≡ fill s (λ r c. h (block src s a r c))
as_block n src a h s e =
    let g : ℕ → Float = λ i. h (get_or a (src + i) ieee.zero) in
    is_fill ieee.zero s (λ r c. h (block src s a r c)) (tab n g) (omega (arith, length_tab n g))
    (λ r c k. get_or_tab n g (place_of s r c) ieee.zero (omega (arith, place_below s r c k)) ∙ ap h (sym (cell_part ieee.zero s src a r c k)))

pub as_shape : (off n src : ℕ) (w₀ : List Float) (h : Float → Float) → src + n ≤ length w₀ → (w : List Float) → w ≡ run off n (λ i. h (at w₀ (src + i))) w₀
    → EachShape n (λ s. w ≡ store off (fill s (λ r c. h (block src s w₀ r c))) w₀)
as_shape off n src w₀ h from w so s e =
    so
    ∙ ap (λ (l : List Float). store off l w₀)
    (tab_ext n _ (λ i. h (get_or w₀ (src + i) ieee.zero)) (λ i l. ap h (any_default w₀ (src + i) nan ieee.zero (omega arith))) ∙ as_block n src w₀ h s e)

-- ---- T by a diagonal: one column more
pub divide_turn : {t f : Block} {w₀ : List Float} {c to : ℕ} {w w' : List Float} {to' : ℕ} → ByFactor (length w₀) as_diagonal t f
    → Going (as_columns t) (divided_cell t f w₀) w₀ c to w → c < t.cols → to' ≡ to + t.rows
    → w' ≡ run to t.rows (λ i. ieee.over (at w (to + i)) (at w (f.at + c))) w → Going (as_columns t) (divided_cell t f w₀) w₀ (c + 1) to' w'
divide_turn {t} {f} {w₀} {c} {to} {w} P e more next then =
    turn e more (λ z x y. ieee.over z (y c)) (as_diagonal f) (as_diagonal f) t.rows P.apart P.apart (λ i. refl) refl next
    (then
    ∙ ap (λ (p : Float). run to t.rows (λ i. ieee.over (at w (to + i)) p) w)
    (read_block (diagonal f.rows) f.at w c c (f.at + c) (has_diagonal f.rows c (omega (arith, P.cols))) (omega (arith, P.factor, e.long)) (omega (arith, start_single c))))

-- T of a sparse block by a diagonal: its entries are a dense block of one row
pub divided_entries : (v f : Block) (row : ℕ → ℕ) (w : List Float)
    → divided_columns (block_of v.at 1 v.cols) f w ≡ put (as_entries row v) (divide ieee (read (as_entries row v) w) (λ c. read (as_diagonal f) w c c)) w
unfolding fill
divided_entries v f row w =
    ap (λ (l : List Float). store v.at l w)
    (cells_ext single v.cols (λ j i. divided_cell (block_of v.at 1 v.cols) f w i j)
    (λ j i. divide ieee (read (as_entries row v) w) (λ c. read (as_diagonal f) w c c) (row j) j)
    (λ j i p q. let e : i ≡ 0 = omega arith in
    ap (λ (k : ℕ). ieee.over (get_or (part v.at (start single v.cols) w) (start single j + k) ieee.zero) (read (as_diagonal f) w j j)) e))

-- ---- T by a triangle
pub column_solved : (w w' acc acc₁ acc₂ : List Float) (t : Block) (c to row : ℕ) → t.rows ≤ length acc → acc₁ ≡ run 0 t.rows (λ i. at w (to + i)) acc
    → acc₂ ≡ products ieee.minus acc₁ t.rows w t.at t.rows w row 1 0 c
    → w' ≡ run to t.rows (λ i. ieee.over (at acc₂ i) (at w (row + c))) w
    → w' ≡ solved_column t c to row w
column_solved w w' acc acc₁ acc₂ t c to row room first then so =
    so
    ∙ ap (λ (l : List Float). store to l w)
    (tab_ext t.rows _ _
    (λ i l. ap (λ (x : Float). ieee.over x (at w (row + c)))
    (summed ieee.minus t.rows w t.at t.rows w row 1 0 c acc acc₁ acc₂ (λ j. at w (to + j)) room first then i l)))

-- one column more
pub solve_turn : {t f : Block} {w₀ : List Float} {c to : ℕ} {w w' : List Float} {to' : ℕ} (row : ℕ) → ByFactor (length w₀) as_triangle t f
    → Going (as_columns t) (solved_cell t f w₀) w₀ c to w → c < f.rows → row ≡ f.at + start triangle c
    → to' ≡ to + t.rows → w' ≡ solved_column t c to row w → Going (as_columns t) (solved_cell t f w₀) w₀ (c + 1) to' w'
solve_turn {t} {f} {w₀} {c} {to} {w} row P e here d next then =
    let more : c < t.cols = omega (arith, P.cols) in
    let fits : f.at + size_of (packed f.rows) ≤ length w = omega (arith, P.factor, e.long) in
    let cell : (y : ℕ) → y ≤ c → at w (row + y) ≡ read (as_triangle f) w₀ c y =
    λ y k. read_block (packed f.rows) f.at w c y (row + y) (has_packed f.rows c y here k) fits (omega arith) ∙ ap (λ (x : ℕ → ℕ → Float). x c y) (going_same e more (as_triangle f) P.apart) in
    going_more e more t.rows _ refl next
    (λ i h.
    ap₂ ieee.over
    (subtract_along (at w (to + i)) (block t.at (columns t.rows c) w i) (block row (columns 1 c) w 0) c
    ∙ chain_same (going_cell e more i h)
    (λ y k.
    sym (read_block (columns t.rows c) t.at w i y (t.at + (start (dense t.rows) y + i)) (has_dense t.rows c i y h k) (omega (arith, P.target, e.long, start_le (dense t.rows) c t.cols (omega arith))) refl)
    ∙ going_written e y i k h)
    (λ y k.
    sym (read_block (columns 1 c) row w 0 y (row + y) (has_dense 1 c 0 y (omega arith) k) (omega (arith, start_dense 1 c, start_below triangle c f.rows here)) (omega (arith, start_dense 1 y)))
    ∙ cell y (omega arith)))
    (cell c (omega arith))
    ∙ sym (forward_cell ieee (read (as_columns t) w₀ i) (read (as_triangle f) w₀) f.rows c here))
    then
  where
    chain_same : {s s' : Float} {a a' b b' : ℕ → Float} → s ≡ s' → ((y : ℕ) → y < c → a y ≡ a' y) → ((y : ℕ) → y < c → b y ≡ b' y)
        → chain ieee s a b c ≡ chain ieee s' a' b' c
    chain_same {s} {s'} {a} {a'} {b} {b'} p q r =
        sym (subtract_along s a b c) ∙ along_ext ieee.minus s s' a a' b b' c p q r ∙ subtract_along s' a' b' c
