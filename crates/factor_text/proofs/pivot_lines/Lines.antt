-- The pivots' lines written one behind the other, and that 131,072 bytes are enough for those of 4,096 doubles.
use Prim.Native.Nat.{ℕ, zero, suc, ◌+◌, ◌*◌, ◌≤◌, ◌<◌}
use mathlib.Core.Path.{◌≡◌, refl, sym, ap, ap₂, subst, ◌∙◌}
use mathlib.Core.Bool.{Bool, true, false}
use mathlib.Core.List.{List, ◌++◌}
use native.Mathlib.Numerals.{add-one}
use native.Mathlib.Omega.{arith}
use lib.Dec.{eqb}
use lib.ListN.{length, length-append}
use lib.Ieee.{Float}
use Rattle.storage.specs.Shape.{Shape, size_of}
use Rattle.storage.specs.Part.{part}
use Rattle.storage.proofs.Parts.{length_store, store_nil}
use Rattle.layout.specs.declared.Layout.{Layout}
use Rattle.layout.specs.declared.FactorKind.{FactorKind}
use Rattle.layout.specs.declared.FactorKind.TheVariants.{Diagonal, Packed}
use Rattle.layout.specs.Blocks.{sum}
use Rattle.layout.proofs.Sums.{sum_same, sum_le, sum_more}
use Rattle.layout.specs.Shapes.{pick, levels, factor_kind, shape_of_kind, shape, working_at, doubles_needed, last_rows, last_shape}
use Rattle.heading_format.specs.Heading.{valid_layout, layout_of, entry_row}
use Rattle.heading_format.proofs.Valid.{is_valid, valid_doubles}
use Rattle.workspace.specs.Memory.{cell_of, working_block}
use Rattle.workspace.specs.Answers.{workspace}
use Rattle.update.specs.Working.{pivot_count}
use Rattle.factor_output.specs.Print.{pivot_line}
use Rattle.factor_output.specs.Program.{pivot_rows, pivot_lines}
use Rattle.text_output.specs.Written.{Put}
use Rattle.text_output.proofs.Written.{put_then}
use Rattle.text_output.proofs.print_lines.Lines.{pivot_short}
use Rattle.block_places.specs.block_kinds.Rows.{rows_of}
use Rattle.block_places.proofs.block_kinds.Shapes.{rows_last, rows_level}
use Rattle.views.specs.pivot_places.Pivots.{pivot_shape, pivot_at}
use Rattle.views.proofs.pivot_places.Places.{shape_is}
use Rattle.factor_text.specs.pivot_lines.Lines.{row_lines, block_lines}

-- ---- how many bytes
-- a line of a block below 10 and one of 4,096 rows has at most 31
rows_short : (y : Layout) (w : List Float) (j n : ℕ) → j < 10 → n ≤ 4096 → length (row_lines y w j n) ≤ 31 * n
unfolding row_lines
rows_short y w j zero b h = omega arith
rows_short y w j (suc r) b h =
    omega (arith, length-append (row_lines y w j r) (pivot_line j r (pivot_at y w j r)), rows_short y w j r b (omega arith), pivot_short j r (pivot_at y w j r) b (omega arith))

-- one line more
row_more : (y : Layout) (w : List Float) (j r : ℕ) → row_lines y w j (r + 1) ≡ row_lines y w j r ++ pivot_line j r (pivot_at y w j r)
unfolding row_lines
row_more y w j r = ap (row_lines y w j) (add-one r)

-- ---- the rows of a block: none, one more, and all
module _ (y : Layout) (w : List Float) (j : ℕ) (from : ℕ) (out₀ : List ℕ) where
  -- r lines are written, and the next goes to `at`
  pub record RowsPut (r at : ℕ) (out : List ℕ) : Type 0 where
    pub put : Put from (row_lines y w j r) out₀ at out
    pub within : r ≤ rows_of y j
    pub near : at ≤ from + 31 * r
    pub long : length out ≡ length out₀

  module _ (ok : valid_layout y ≡ true) (there : j ≤ y.k) (few : rows_of y j ≤ 4096) (room : from + 31 * rows_of y j + 34 ≤ length out₀) where
    small_block : j < 10
    small_block = omega (arith, (is_valid y ok).blocks.1)

    pub rows_none : RowsPut 0 from out₀
    unfolding row_lines
    rows_none = record { put = (omega arith, sym (store_nil from out₀)); within = omega arith; near = omega arith; long = refl }

    module _ (r at : ℕ) (out : List ℕ) (p : RowsPut r at out) (more : r < rows_of y j) where
      -- there is room for any line
      pub rows_room : at + 65 ≤ length out
      rows_room = omega (arith, p.near, p.long)

      pub rows_next : (at' : ℕ) (out' : List ℕ) (x : Float) → x ≡ pivot_at y w j r → Put at (pivot_line j r x) out at' out' → RowsPut (r + 1) at' out'
      rows_next at' out' x e q =
          let short = rows_short y w j r small_block (omega arith) in
          let q' : Put at (pivot_line j r (pivot_at y w j r)) out at' out' = subst (λ (v : Float). Put at (pivot_line j r v) out at' out') e q in
          record {
            put = subst (λ (l : List ℕ). Put from l out₀ at' out') (sym (row_more y w j r)) (put_then from (row_lines y w j r) (pivot_line j r (pivot_at y w j r)) out₀ (omega arith) p.put q');
            within = omega arith;
            near = omega (arith, p.near, q'.0, pivot_short j r (pivot_at y w j r) small_block (omega arith));
            long = ap length q'.1 ∙ length_store at (pivot_line j r (pivot_at y w j r)) out (omega (arith, p.near, p.long, pivot_short j r (pivot_at y w j r) small_block (omega arith))) ∙ p.long;
          }

    -- all are written
    pub rows_all : (r at : ℕ) (out : List ℕ) → RowsPut r at out → rows_of y j ≤ r → Put from (row_lines y w j (rows_of y j)) out₀ at out
    rows_all r at out p h =
        let e : r ≡ rows_of y j = omega (arith, p.within) in
        subst (λ (n : ℕ). Put from (row_lines y w j n) out₀ at out) e p.put

-- ---- how many pivots there are
-- the blocks before the last have as many rows as levels
sum_levels : (y : Layout) (n : ℕ) → n ≤ y.k → sum (rows_of y) n ≡ sum (levels y) n
sum_levels y n h = sum_same (rows_of y) (levels y) n (λ i b. rows_level y i (omega arith))

-- one for each column of the random effects, each fixed effect and the response: fewer than there are doubles
module _ (y : Layout) (ok : valid_layout y ≡ true) where
  all_rows : sum (rows_of y) (y.k + 1) ≤ doubles_needed y
  all_rows =
      omega (
        arith,
        sum_more (rows_of y) y.k,
        sum_levels y y.k (omega arith),
        rows_last y y.k refl,
        (is_valid y ok).total,
        valid_doubles y ok,
      )

  -- those of the blocks up to one of them
  pub rows_upto : (j : ℕ) → j ≤ y.k → sum (rows_of y) j + rows_of y j ≤ doubles_needed y
  rows_upto j h = omega (arith, all_rows, sum_more (rows_of y) j, sum_le (rows_of y) (j + 1) (y.k + 1) (omega arith))

-- ---- the blocks: none, one more, and all
block_more : (y : Layout) (w : List Float) (j : ℕ) → block_lines y w (j + 1) ≡ block_lines y w j ++ row_lines y w j (rows_of y j)
unfolding block_lines
block_more y w j = ap (block_lines y w) (add-one j)

module _ (y : Layout) (w : List Float) (out₀ : List ℕ) where
  -- the lines of j blocks are written, and the next goes to `at`
  pub record BlocksPut (j at : ℕ) (out : List ℕ) : Type 0 where
    pub put : Put 0 (block_lines y w j) out₀ at out
    pub within : j ≤ y.k + 1
    pub near : at ≤ 31 * sum (rows_of y) j
    pub long : length out ≡ length out₀

  pub blocks_none : BlocksPut 0 0 out₀
  unfolding block_lines
  blocks_none = record { put = (refl, sym (store_nil 0 out₀)); within = omega arith; near = omega arith; long = refl }

  module _ (ok : valid_layout y ≡ true) (need : doubles_needed y ≤ length w) (few : length w ≤ 4096) (room : 131072 ≤ length out₀) where
    module _ (j at : ℕ) (out : List ℕ) (p : BlocksPut j at out) where
      module _ (more : j ≤ y.k) where
        -- there is room for its lines
        pub blocks_room : (rows_of y j ≤ 4096) × (at + 31 * rows_of y j + 34 ≤ length out)
        blocks_room = (omega (arith, rows_upto y ok j more), omega (arith, p.near, p.long, rows_upto y ok j more))

        pub blocks_next : (at' : ℕ) (out' : List ℕ) → Put at (row_lines y w j (rows_of y j)) out at' out' → BlocksPut (j + 1) at' out'
        blocks_next at' out' q =
            let few' = blocks_room in
            let b : j < 10 = omega (arith, (is_valid y ok).blocks.1) in
            let short = rows_short y w j (rows_of y j) b few'.0 in
            record {
              put = subst (λ (l : List ℕ). Put 0 l out₀ at' out') (sym (block_more y w j)) (put_then 0 (block_lines y w j) (row_lines y w j (rows_of y j)) out₀ (omega (arith, p.put.0, p.long, few'.1)) p.put q);
              within = omega arith;
              near = omega (arith, p.near, q.0, short, sum_more (rows_of y) j);
              long = ap length q.1 ∙ length_store at (row_lines y w j (rows_of y j)) out (omega (arith, few'.1, short)) ∙ p.long;
            }

      -- all are written
      pub blocks_all : y.k < j → (at ≤ 131072) × Put 0 (block_lines y w (suc y.k)) out₀ at out
      blocks_all h =
          let e : j ≡ suc y.k = omega (arith, p.within) in
          let e' : j ≡ y.k + 1 = omega arith in
          (omega (arith, p.near, all_rows y ok, ap (sum (rows_of y)) e'), subst (λ (n : ℕ). Put 0 (block_lines y w n) out₀ at out) e p.put)

-- ---- by the layout alone they are the lines of the workspace
-- a factor has a pivot in each row
count_is : (y : Layout) (j : ℕ) → pivot_count (pivot_shape y j) ≡ rows_of y j
count_is y j = go (eqb j y.k) (factor_kind y j)
  where
    go : (last : Bool) (d : FactorKind) → pivot_count (pick last (last_shape y) (shape_of_kind d (levels y j))) ≡ pick last (last_rows y) (levels y j)
    go true d = refl
    go false Diagonal = refl
    go false Packed = refl

module _ (h : List ℕ) (w : List Float) where
  -- one pivot
  cell_is : (j r : ℕ) → cell_of (shape (layout_of h) (entry_row h) j j) (working_block h w j j) r r ≡ pivot_at (layout_of h) w j r
  unfolding pivot_at
  cell_is j r = ap (λ (s : Shape). cell_of s (part (working_at (layout_of h) j j) (size_of s) w) r r) (shape_is (layout_of h) (entry_row h) j)

  rows_are : (j n : ℕ) → pivot_rows (workspace h w) j n ≡ row_lines (layout_of h) w j n
  unfolding pivot_rows row_lines
  rows_are j zero = refl
  rows_are j (suc r) = ap₂ (λ (l : List ℕ) (x : Float). l ++ pivot_line j r x) (rows_are j r) (cell_is j r)

  lines_are : (n : ℕ) → pivot_lines (workspace h w) n ≡ block_lines (layout_of h) w n
  unfolding pivot_lines block_lines
  lines_are zero = refl
  lines_are (suc j) =
      ap₂ (λ (l m : List ℕ). l ++ m) (lines_are j)
      (ap (pivot_rows (workspace h w) j) (ap pivot_count (shape_is (layout_of h) (entry_row h) j) ∙ count_is (layout_of h) j) ∙ rows_are j (rows_of (layout_of h) j))

  pub lines_put : (y : Layout) → y ≡ layout_of h → (out₀ : List ℕ) (r : ℕ) (out : List ℕ) → (r ≤ 131072) × Put 0 (block_lines y w (suc y.k)) out₀ r out
      → (r ≤ 131072) × Put 0 (pivot_lines (workspace h w) (suc (layout_of h).k)) out₀ r out
  lines_put y e out₀ r out p =
      subst (λ (l : List ℕ). (r ≤ 131072) × Put 0 l out₀ r out) (ap (λ (z : Layout). block_lines z w (suc z.k)) e ∙ sym (lines_are (suc (layout_of h).k))) p
