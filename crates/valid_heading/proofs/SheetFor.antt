-- A sheet whose layout is a given valid one: its blocks in sheet order, every word 0, and where block 1 is diagonal one entry in each column of block 0.
use Prim.Native.Nat.{ℕ, ◌+◌, ◌*◌, ◌≤◌, ◌<◌}
use mathlib.Core.Path.{◌≡◌, refl, sym, ap, ap₂, subst, subst₂, ◌∙◌}
use mathlib.Core.Logic.{◌⊎◌, inl, inr, ⊎_elim}
use mathlib.Core.Bool.{Bool, true, false, ◌&&◌, cond, and-eq-true_iff, false≢true}
use mathlib.Core.List.{List, [], ◌∷◌}
use native.Mathlib.Omega.{arith}
use borrow.Author.Tests.{le-leb, eqb-true, eq-eqb}
use lib.Dec.{eqb, lit<}
use lib.ListN.{length, get_or, replicate, length-replicate}
use Rattle.storage.specs.Runs.{tab}
use Rattle.storage.proofs.Cells.{length_tab}
use Rattle.sheet.specs.Field.{is_finite}
use Rattle.sheet.specs.Run.{Block, Entry, rows_from}
use Rattle.sheet.specs.Sheet.{Sheet, word_kinds, word_lists}
use Rattle.sheet.specs.Fault.{covered_rows, block_of_row, Fault}
use Rattle.sheet.specs.Whole.{Each, Both, BlockInRange, EntryInRange, Rising}
use Rattle.sheet.proofs.Made.{counts_with}
use Rattle.sheet.proofs.Faults.{member_each}
use Rattle.sheet_text.specs.written.Written.{Word, WordEach, Numbered, InForm}
use Rattle.layout.specs.declared.Layout.{Layout}
use Rattle.std.specs.Prelude.{Ok, Err}
use Rattle.layout.specs.declared.Storage.TheVariants.{Dense}
use Rattle.layout.specs.declared.GateRefusal.{GateRefusal}
use Rattle.layout.specs.Blocks.{sum, sorted}
use Rattle.layout.specs.Gate.{pair_of}
use Rattle.layout.specs.Shapes.{levels, sheet_index}
use Rattle.layout.proofs.Sums.{sum_same, sum_small}
use Rattle.heading_format.specs.Heading.{sheet_levels, is_dense, is_sparse, valid_layout}
use Rattle.heading_format.proofs.Valid.{Valid, is_valid, both, every_of, every_at, is_false}
use Rattle.heading_format.proofs.Sorted as Sorted
use Rattle.heading_format.proofs.Sorted.{sorted_ext, order_list, order_below, dense_cells}
use Rattle.workspace.specs.Loaded.{row_start, count_of, of_column, one_each, pair_in, sheet_m, sorted_layout, layout_of_sheet}
use Rattle.workspace.proofs.Valid.{levels_in, row_block, sorted_has, order_at_lem, levels_at_lem, sheet_levels_lem, total, in_column, one_each_count, sparse_is, diagonal_is}
use Rattle.block_places.proofs.sheet_rows.Rows.{index_one, rows_apart}
use Rattle.block_places.proofs.sheet_rows.AllRows.{rows_within}
use Rattle.valid_heading.specs.Layouts.{LayoutOf}
use Rattle.valid_heading.proofs.Tabulated.{each_tab, each_replicate, levels_tab}
use Rattle.valid_heading.proofs.Joined.{joined_entries, joined_range, joined_words, joined_lines, joined_sound, joined_rising, joined_one}

-- ---- words 0

-- a word for each line
abbrev zeros : List (ℕ × ℕ) → List ℕ
zeros indexes = replicate (length indexes) 0

zero_words : (indexes : List (ℕ × ℕ)) → (length (zeros indexes) ≡ length indexes) × Each Word (zeros indexes)
unfolding is_finite
zero_words indexes = (length-replicate (length indexes) 0, each_replicate Word (length indexes) 0 (lit< tt, refl))

module _ (y : Layout) where
  abbrev block : ℕ → Block
  block i = record { m = sheet_levels y y.k i; e = 1 }

  -- each level of block 0 with level 0 of block 1, from the line past the blocks on
  abbrev entries : List Entry
  entries = joined_entries (y.k + 2) (row_start y 0) (levels y 0) (row_start y 1)

  abbrev pub sheet_for : Sheet
  sheet_for =
      record {
        counts = counts_with y.n y.p y.q y.k 1;
        blocks = tab y.k block;
        zz = cond y.diagonal entries [];
        zx = zeros (rows_from (λ r. y.p) 0 y.q);
        zy = zeros (rows_from (λ r. 1) 0 y.q);
        xx = zeros (rows_from (λ r. r + 1) 0 y.p);
        xy = zeros (rows_from (λ r. 1) 0 y.p);
        yy = 0;
      }

  words : Both WordEach (word_kinds sheet_for.counts) (word_lists sheet_for)
  words = (
    zero_words (rows_from (λ r. y.p) 0 y.q),
    (
      zero_words (rows_from (λ r. 1) 0 y.q),
      (zero_words (rows_from (λ r. r + 1) 0 y.p), (zero_words (rows_from (λ r. 1) 0 y.p), (zero_words ((0, 0) ∷ []), tt))),
    ),
  )

  -- what holds of no entries and of these, where block 1 is diagonal, holds of the sheet's
  of_entries : (P : List Entry → Type 0) → P [] → (y.diagonal ≡ true → P entries) → P sheet_for.zz
  of_entries P none some = go y.diagonal some
    where
      go : (b : Bool) → (b ≡ true → P entries) → P (cond b entries [])
      go true h = h refl
      go false h = none

  module _ (ok : valid_layout y ≡ true) where
    valid : Valid y
    valid = is_valid y ok

    few : y.k ≤ 8
    few = valid.blocks.1

    count : length sheet_for.blocks ≡ y.k
    count = length_tab y.k block

    -- ---- the sheet's blocks, sorted, are those of the layout

    abbrev made : Layout
    made = layout_of_sheet sheet_for

    -- the levels of block i of the sheet
    level : (i : ℕ) → i < y.k → sheet_m sheet_for i ≡ sheet_levels y y.k i
    level i h = levels_tab y.k block i h

    order : (j : ℕ) → j < y.k → get_or (sorted (sheet_m sheet_for) y.k) j 0 ≡ sheet_index y j
    order j h = ap (λ (l : List ℕ). get_or l j 0) (sorted_ext (sheet_m sheet_for) (sheet_levels y y.k) y.k level) ∙ order_list y ok j h

    -- index, levels and first row of each sorted block
    same_order : (j : ℕ) → j < y.k → sheet_index y j ≡ sheet_index made j
    same_order j h = sym (order_at_lem sheet_for few j h ∙ order j h)

    same_levels : (j : ℕ) → j < y.k → levels y j ≡ levels made j
    same_levels j h =
        sym (levels_at_lem sheet_for few j h ∙ ap (sheet_m sheet_for) (order j h) ∙ level (sheet_index y j) (order_below y ok j h) ∙ Sorted.levels_at_lem y ok j h)

    same_start : (j : ℕ) → j < y.k → row_start y j ≡ row_start made j
    unfolding layout_of_sheet sorted_layout
    same_start j h =
        sum_same (sheet_levels y y.k) (sheet_levels made y.k) (sheet_index y j)
        (λ i l. sym (sheet_levels_lem sheet_for few i (omega (arith, order_below y ok j h)) ∙ level i (omega (arith, order_below y ok j h))))
        ∙ ap (sum (sheet_levels made y.k)) (same_order j h)

    -- ---- in form

    blocks_range : (i : ℕ) → i < y.k → BlockInRange (block i)
    blocks_range i h =
        let t = sorted_has (sheet_levels y y.k) y.k i h in
        let e : levels y t.0 ≡ sheet_levels y y.k i =
        sym (Sorted.levels_at_lem y ok t.0 t.1) ∙ ap (sheet_levels y y.k) (sym (order_list y ok t.0 t.1) ∙ t.2) in
        record { m = subst (λ (x : ℕ). (1 ≤ x) × (x ≤ 65535)) e (valid.level t.0 t.1); e = (omega arith, omega arith) }

    -- the blocks cover the rows
    covers : y.q ≡ covered_rows sheet_for.blocks
    covers = valid.total ∙ sum_same (levels y) (levels made) y.k same_levels ∙ total sheet_for few count

    few_rows : y.q ≤ 524280
    few_rows = omega (arith, valid.total, sum_small (levels y) 65535 y.k (λ j h. (valid.level j h).1), few)

    -- a sorted block's rows are in its block of the sheet
    row_in : (j c : ℕ) → j < y.k → c < levels y j → block_of_row sheet_for.blocks (row_start y j + c) ≡ sheet_index y j
    row_in j c h g =
        let below = order_below y ok j h in
        ap (λ (x : ℕ). block_of_row sheet_for.blocks (x + c)) (sum_same (sheet_levels y y.k) (levels_in sheet_for.blocks) (sheet_index y j) (λ i l. sym (level i (omega arith))))
        ∙ row_block sheet_for.blocks (sheet_index y j) c (omega (arith, count)) (omega (arith, level (sheet_index y j) below, Sorted.levels_at_lem y ok j h))

    -- where block 1 is diagonal there are two blocks, apart from each other
    module _ (diagonal : y.diagonal ≡ true) where
      two : y.k ≡ 2
      two = valid.diagonal diagonal

      some : 1 ≤ levels y 1
      some = (valid.level 1 (omega (arith, two))).0

      before_or_after : (row_start y 0 + levels y 0 ≤ row_start y 1) ⊎ (row_start y 1 < row_start y 0)
      before_or_after =
          ⊎_elim (λ a. inl a) (λ a. inr (omega (arith, some))) (rows_apart y ok 0 1 (omega (arith, two)) (omega (arith, two)) (λ e. omega arith))

      blocks_apart : (c : ℕ) → c < levels y 0 → block_of_row sheet_for.blocks (row_start y 0 + c) ≡ block_of_row sheet_for.blocks (row_start y 1) → ⊥
      blocks_apart c h e =
          let first : row_start y 1 + 0 ≡ row_start y 1 = omega arith in
          let same : sheet_index y 0 ≡ sheet_index y 1 =
          sym (row_in 0 c (omega (arith, two)) h) ∙ e ∙ sym (ap (block_of_row sheet_for.blocks) first) ∙ row_in 1 0 (omega (arith, two)) some in
          omega (arith, index_one y ok 0 1 (omega (arith, two)) (omega (arith, two)) same)

    form : InForm sheet_for
    form =
        record {
          counts = record { n = valid.readings; p = valid.effects; q = few_rows; k = few; flag = omega arith };
          blocks = each_tab BlockInRange y.k block blocks_range;
          blocks_length = count;
          zz =
              of_entries (Each (EntryInRange y.q)) tt
              (λ d. joined_range (y.k + 2) (row_start y 0) (levels y 0) (row_start y 1) y.q (rows_within y ok 0 (omega (arith, two d)))
              (omega (arith, some d, rows_within y ok 1 (omega (arith, two d)))));
          zz_words =
              of_entries (Each (λ (e : Entry). Word e.word)) tt (λ d. joined_words (y.k + 2) (row_start y 0) (levels y 0) (row_start y 1));
          zz_rising =
              of_entries Rising tt (λ d. joined_rising (y.k + 2) (row_start y 0) (levels y 0) (row_start y 1) (before_or_after d));
          zz_lines = of_entries (Numbered (y.k + 2)) tt (λ d. joined_lines (y.k + 2) (row_start y 0) (levels y 0) (row_start y 1));
          words = words;
        }

    -- no entry has a fault
    sound : Each (λ (e : Entry). Fault sheet_for e → ⊥) sheet_for.zz
    sound =
        of_entries (Each (λ (e : Entry). Fault sheet_for e → ⊥)) tt
        (λ d. joined_sound (y.k + 2) (row_start y 0) (levels y 0) (row_start y 1) sheet_for (ap (λ (b : Bool). cond b entries []) d) (blocks_apart d))

    -- ---- how its pairs are stored

    -- each column has one entry where block 1 is diagonal, and none otherwise
    one_each_lem : y.diagonal ≡ true → one_each sheet_for made 1 0 ≡ true
    one_each_lem d =
        every_of (λ c. eqb (count_of (of_column made 1 0 c) sheet_for.zz) 1) (levels made 0)
        (λ c h. eq-eqb (count_of (of_column made 1 0 c) sheet_for.zz) 1
        (ap₂ (λ (a b : ℕ). count_of (in_column a c b (levels made 1)) sheet_for.zz) (sym (same_start 0 (omega (arith, two d)))) (sym (same_start 1 (omega (arith, two d))))
        ∙ ap (λ (b : Bool). count_of (in_column (row_start y 0) c (row_start y 1) (levels made 1)) (cond b entries [])) d
        ∙ joined_one (y.k + 2) (row_start y 0) (levels y 0) (row_start y 1) (before_or_after d) c (levels made 1)
        (omega (arith, same_levels 0 (omega (arith, two d)))) (omega (arith, some d, same_levels 1 (omega (arith, two d))))))

    none_each : y.diagonal ≡ false → one_each sheet_for made 1 0 ≡ true → ⊥
    unfolding count_of
    none_each d e =
        let first : 0 < levels made 0 = omega (arith, same_levels 0 valid.blocks.0, valid.level 0 valid.blocks.0) in
        let none : count_of (of_column made 1 0 0) sheet_for.zz ≡ 0 = ap (λ (b : Bool). count_of (of_column made 1 0 0) (cond b entries [])) d in
        omega (arith, none, eqb-true (count_of (of_column made 1 0 0) sheet_for.zz) 1 (every_at (λ c. eqb (count_of (of_column made 1 0 c) sheet_for.zz) 1) (levels made 0) e 0 first))

    same_diagonal : y.diagonal ≡ made.diagonal
    unfolding layout_of_sheet sorted_layout
    same_diagonal = go y.diagonal refl
      where
        go : (b : Bool) → y.diagonal ≡ b → b ≡ made.diagonal
        go true d = sym (diagonal_is sheet_for ∙ both (eqb y.k 2) (one_each sheet_for made 1 0) (eq-eqb y.k 2 (two d)) (one_each_lem d))
        go false d =
            sym (diagonal_is sheet_for
            ∙ is_false (eqb y.k 2 && one_each sheet_for made 1 0) (λ e. none_each d ((and-eq-true_iff (eqb y.k 2) (one_each sheet_for made 1 0)).0 e).1))

    -- a pair of at most 100,000 cells, whatever its entries
    dense : y.sparse ≡ false → (i j : ℕ) → i < y.k → j < i → pair_in sheet_for made i j ≡ Ok Dense
    unfolding pair_in pair_of
    dense s i j h g =
        rw (le-leb (levels made i * levels made j) 100000
        (subst₂ (λ (a b : ℕ). a * b ≤ 100000) (same_levels i h) (same_levels j (omega arith)) (dense_cells y ok i j h g s))) refl

    -- with one entry in each column the gate sees as many entries as `valid_pair` takes for granted
    sparse : y.sparse ≡ true → is_sparse (pair_in sheet_for made 1 0) ≡ true
    unfolding pair_in layout_of_sheet sorted_layout
    sparse s =
        let t = valid.sparse s in
        let one : one_each sheet_for made 1 0 ≡ true = one_each_lem t.0 in
        ap is_sparse
        (ap₂ (λ (b : Bool) (n : ℕ). pair_of y.k (levels made 1) (levels made 0) b n) (one ∙ sym t.0) (one_each_count sheet_for made 1 0 one)
        ∙ ap₂ (λ (a b : ℕ). pair_of y.k a b y.diagonal b) (sym (same_levels 1 (omega (arith, t.1)))) (sym (same_levels 0 (omega (arith, t.1)))))
        ∙ subst (λ (b : Bool). let pair = pair_of y.k (levels y 1) (levels y 0) y.diagonal (levels y 0) in cond b (is_sparse pair) (is_dense pair) ≡ true) s
        (valid.pair 1 0 (omega (arith, t.1)) (omega arith))

    same_sparse : y.sparse ≡ made.sparse
    unfolding layout_of_sheet sorted_layout
    same_sparse = go y.sparse refl
      where
        go : (b : Bool) → y.sparse ≡ b → b ≡ made.sparse
        go true s = sym (sparse_is sheet_for ∙ both (eqb y.k 2) (is_sparse (pair_in sheet_for made 1 0)) (eq-eqb y.k 2 (valid.sparse s).1) (sparse s))
        go false s =
            sym (sparse_is sheet_for
            ∙ is_false (eqb y.k 2 && is_sparse (pair_in sheet_for made 1 0))
            (λ e. let t = (and-eq-true_iff (eqb y.k 2) (is_sparse (pair_in sheet_for made 1 0))).0 e in
            let k : y.k ≡ 2 = eqb-true y.k 2 t.0 in
            false≢true (ap is_sparse (sym (dense s 1 0 (omega arith) (omega arith))) ∙ t.1)))

    -- so the gate refuses no pair
    gate : (i j : ℕ) (r : GateRefusal) → i < y.k → j < i → pair_in sheet_for made i j ≡ Err r → ⊥
    gate i j r h g e = go y.sparse refl
      where
        go : (b : Bool) → y.sparse ≡ b → ⊥
        go true s =
            let two : y.k ≡ 2 = (valid.sparse s).1 in
            let a : i ≡ 1 = omega arith in
            let b : j ≡ 0 = omega arith in
            false≢true (ap is_sparse (sym e ∙ ap₂ (λ (i j : ℕ). pair_in sheet_for made i j) a b) ∙ sparse s)
        go false s = let z : Ok Dense ≡ Err r = sym (dense s i j h g) ∙ e in let o : ◌≡◌ {A = ℕ} 0 1 = cc in omega arith

    -- THE CLAIM: the layout is that of this sheet, which 5 to 11 do not refuse
    pub layout_made : LayoutOf y sheet_for
    unfolding layout_of_sheet sorted_layout
    layout_made =
        record {
          passes =
              record {
                form = form;
                flag = refl;
                some = valid.blocks.0;
                intercepts = each_tab (λ (b : Block). b.e ≡ 1) y.k block (λ i h. refl);
                covers = covers;
                sound = λ e m. member_each (λ (e : Entry). Fault sheet_for e → ⊥) e sheet_for.zz m sound;
                gate = gate;
              };
          same = record { n = refl; p = refl; q = refl; k = refl; levels = same_levels; order = same_order; sparse = same_sparse; diagonal = same_diagonal };
        }
