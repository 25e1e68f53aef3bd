-- A new response leaves what load of the sheet with that response leaves: heading and doubles, to the last bit.
use Prim.Native.Nat.{ℕ, zero, suc, ◌+◌, ◌≤◌, ◌<◌}
use mathlib.Core.Path.{◌≡◌, refl, sym, ap, ap₂, subst, ◌∙◌}
use mathlib.Core.Bool.{Bool, true, false, ◌&&◌, cond, and-eq-true_iff}
use mathlib.Core.List.Memᴰ
use mathlib.Core.List.{List, [], ◌∷◌, ◌++◌, append-nil, Memᴰ}
use mathlib.Core.Logic.{by_cases}
use native.Mathlib.Decide.{dec_lt}
use native.Mathlib.Omega.{arith}
use lib.Dec.{eqb}
use borrow.Author.Tests.{eq-eqb, ne_eqb, eqb-true}
use lib.ListN.{length, get_or, length-append, take-append-drop}
use lib.Seq.{take_all, drop_at}
use lib.Ieee.{Float}
use Rattle.storage.specs.Shape.{Shape, size_of, has_cell, fill}
use Rattle.storage.specs.Runs.{tab}
use Rattle.storage.specs.Part.{part}
use Rattle.storage.proofs.Parts.{part_left, part_right}
use Rattle.storage.proofs.Blocks.{length_fill, cell_fill, fill_ext}
use Rattle.rules.specs.Arithmetic.{ieee}
use Rattle.sheet.specs.Sheet.{Sheet}
use Rattle.layout.specs.declared.Layout.{Layout}
use Rattle.layout.specs.Shapes.{pick, Target, target, targets, before, levels, loaded_shape, loaded_sizes, loaded_length, loaded_at}
use Rattle.layout.proofs.Places.{before_here, before_later, member_later, in_targets, size_loaded, loaded_inside}
use Rattle.heading_format.specs.Heading.{layout_of, entry_row, idle}
use Rattle.heading_format.proofs.Heading.{layout_back, progress_stored}
use Rattle.workspace.specs.Memory.{zeros, cell_of, heading_with}
use Rattle.workspace.specs.Answers.{workspace}
use Rattle.workspace.specs.Loaded.{sheet_row, sorted_layout, layout_of_sheet, entry_row_in, double, loaded_word, loaded_from, loaded_numbers}
use Rattle.workspace.specs.Load.{heading_of, doubles_of}
use Rattle.workspace.specs.Response.{response_cell, responded_block, responded}
use Rattle.workspace.proofs.Lengths.{length_loaded}
use Rattle.workspace.proofs.ValidHeading.{length_m, length_order}
use Rattle.demand3.proofs.frame.Response.{rows_unasked, responded_behind, responded_else, responded_own}
use Rattle.load_numbers.proofs.sheet_words.Numbers.{tiled_numbers}
use Rattle.response_exchange.specs.Exchange.{with_response, doubles, response_of}

-- a word of a list as a double
double_at : (l : List ℕ) (i : ℕ) → get_or (doubles l) i ieee.zero ≡ double (get_or l i 0)
double_at [] i = refl
double_at (x ∷ l) zero = refl
double_at (x ∷ l) (suc i) = double_at l i

-- ---- the loaded numbers, block by block

module _ (sheet : Sheet) (y : Layout) where
  abbrev block_of : ℕ → ℕ → List Float
  block_of i j = fill (loaded_shape y (entry_row_in sheet y) i j) (λ r c. double (loaded_word sheet y i j r c))

  block_length : (i j : ℕ) → length (block_of i j) ≡ loaded_sizes y i j
  block_length i j = length_fill (loaded_shape y (entry_row_in sheet y) i j) _ ∙ size_loaded y (entry_row_in sheet y) i j

  from_block : (l : List Target) (i j : ℕ) → Memᴰ (target i j) l → part (before (loaded_sizes y) l i j) (loaded_sizes y i j) (loaded_from sheet y l) ≡ block_of i j
  unfolding loaded_from
  from_block [] i j m = absurd (Memᴰ.not-nil m)
  from_block (t ∷ l) i j m = step (from_block l i j) (eqb t.row i && eqb t.col j) refl
    where
      step : (Memᴰ (target i j) l → part (before (loaded_sizes y) l i j) (loaded_sizes y i j) (loaded_from sheet y l) ≡ block_of i j) → (b : Bool)
          → (eqb t.row i && eqb t.col j) ≡ b → part (before (loaded_sizes y) (t ∷ l) i j) (loaded_sizes y i j) (block_of t.row t.col ++ loaded_from sheet y l) ≡ block_of i j
      step rest true e =
          let k = before_here (loaded_sizes y) t l i j e in
          let q = (and-eq-true_iff (eqb t.row i) (eqb t.col j)).0 e in
          let n : length (block_of t.row t.col) ≡ loaded_sizes y i j = block_length t.row t.col ∙ k.1 in
          ap (λ (a : ℕ). part a (loaded_sizes y i j) (block_of t.row t.col ++ loaded_from sheet y l)) k.0
          ∙ part_left (block_of t.row t.col) (loaded_from sheet y l) 0 (loaded_sizes y i j) (omega arith)
          ∙ take_all (loaded_sizes y i j) (block_of t.row t.col) (omega arith)
          ∙ ap₂ block_of (eqb-true t.row i q.0) (eqb-true t.col j q.1)
      step rest false e =
          ap (λ (a : ℕ). part a (loaded_sizes y i j) (block_of t.row t.col ++ loaded_from sheet y l)) (before_later (loaded_sizes y) t l i j e)
          ∙ part_right (block_of t.row t.col) (loaded_from sheet y l) (loaded_sizes y t.row t.col + before (loaded_sizes y) l i j) (loaded_sizes y i j) (before (loaded_sizes y) l i j) (omega (arith, block_length t.row t.col))
          ∙ rest (member_later (loaded_sizes y) t l i j e m)

  -- with any doubles behind them
  loaded_block_lem : (tail : List Float) (i j : ℕ) → j ≤ i → i ≤ y.k → part (loaded_at y i j) (loaded_sizes y i j) (loaded_numbers sheet y ++ tail) ≡ block_of i j
  unfolding loaded_numbers loaded_at
  loaded_block_lem tail i j h g =
      part_left (loaded_numbers sheet y) tail (loaded_at y i j) (loaded_sizes y i j) (omega (arith, length_loaded sheet y, loaded_inside y i j h g))
      ∙ from_block (targets y.k) i j (in_targets y.k i j h g)

-- ---- a sheet's doubles with another response

-- a cell of row k: in row p the new word, else the old one
chosen : (b d e : Bool) (zy zy' zx xy xy' xx yy yy' : ℕ) (Z X : Float) → Z ≡ double zy' → X ≡ double xy'
    → cond b (pick d (cond e (double yy') X) Z) (double (pick d (cond b (cond e yy xy) xx) (cond b zy zx))) ≡ double (pick d (cond b (cond e yy' xy') xx) (cond b zy' zx))
chosen true true true zy zy' zx xy xy' xx yy yy' Z X p q = refl
chosen true true false zy zy' zx xy xy' xx yy yy' Z X p q = q
chosen true false e zy zy' zx xy xy' xx yy yy' Z X p q = p
chosen false true e zy zy' zx xy xy' xx yy yy' Z X p q = refl
chosen false false e zy zy' zx xy xy' xx yy yy' Z X p q = refl

module _ (sheet : Sheet) (zy xy : List ℕ) (yy : ℕ) (tail : List Float) where
  abbrev y : Layout
  y = layout_of_sheet sheet

  abbrev new : Sheet
  new = with_response sheet zy xy yy

  abbrev h : List ℕ
  h = heading_of sheet y

  abbrev w : List Float
  w = loaded_numbers sheet y ++ tail

  abbrev after : List Float
  after = (responded h w (response_of new)).left.doubles

  heading_layout : layout_of h ≡ y
  unfolding heading_of
  heading_layout = layout_back y (idle y.k) (pick y.sparse (tab (levels y 0) (entry_row_in sheet y)) []) (length_m sheet) (length_order sheet)

  room : loaded_length (layout_of h) ≤ length w
  room = rw heading_layout (omega (arith, length-append (loaded_numbers sheet y) tail, length_loaded sheet y))

  module _ (j : ℕ) (l : j ≤ y.k) where
    -- block (k, j) with the new response, of a layout and of a shape
    abbrev renewed : Layout → Shape → List Float
    renewed z s =
        fill s (λ r c. cond (eqb r z.p) (response_cell z (response_of new) j c) (cell_of s (part (loaded_at z z.k j) (size_of s) w) r c))

    abbrev own : Shape
    own = loaded_shape y (entry_row_in sheet y) y.k j

    old_block : part (loaded_at y y.k j) (size_of own) w ≡ block_of sheet y y.k j
    old_block =
        ap (λ (n : ℕ). part (loaded_at y y.k j) n w) (size_loaded y (entry_row_in sheet y) y.k j)
        ∙ loaded_block_lem sheet y tail y.k j l (omega arith)

    new_cell : (r c : ℕ) → has_cell own r c ≡ true
        → cond (eqb r y.p) (response_cell y (response_of new) j c) (cell_of own (part (loaded_at y y.k j) (size_of own) w) r c) ≡ double (loaded_word new y y.k j r c)
    new_cell r c has =
        ap (λ (b : List Float). cond (eqb r y.p) (response_cell y (response_of new) j c) (cell_of own b r c)) old_block
        ∙ ap (λ (v : Float). cond (eqb r y.p) (response_cell y (response_of new) j c) v)
        (cell_fill ieee.zero own (λ r c. double (loaded_word sheet y y.k j r c)) r c has)
        ∙ rw (eq-eqb y.k y.k refl)
        (chosen (eqb r y.p) (eqb j y.k) (eqb c y.p) _ _ _ _ _ _ _ _ _ _ (double_at zy (sheet_row y j c)) (double_at xy c))

    new_block : responded_block h w (response_of new) j ≡ block_of new y y.k j
    unfolding responded_block
    new_block =
        ap (λ (z : Layout). renewed z (loaded_shape z (entry_row h) z.k j)) heading_layout
        ∙ ap (renewed y) (rows_unasked y (entry_row h) (entry_row_in sheet y) j)
        ∙ fill_ext own _ _ new_cell

  -- every block is the new sheet's
  tile : (i j : ℕ) → j ≤ i → i ≤ y.k → part (loaded_at y i j) (loaded_sizes y i j) after ≡ block_of new y i j
  tile i j a b =
      by_cases (dec_lt i y.k)
      (λ l. subst (λ (z : Layout). i < z.k → part (loaded_at z i j) (loaded_sizes z i j) after ≡ part (loaded_at z i j) (loaded_sizes z i j) w) heading_layout
      (responded_else h w (response_of new) room i j a) l
      ∙ loaded_block_lem sheet y tail i j a b
      ∙ before_last i j (λ e. omega arith))
      (λ l. let e : y.k ≡ i = omega arith in
      subst (λ (x : ℕ). part (loaded_at y x j) (loaded_sizes y x j) after ≡ block_of new y x j) e
      (subst (λ (z : Layout). j ≤ z.k → part (loaded_at z z.k j) (loaded_sizes z z.k j) after ≡ responded_block h w (response_of new) j) heading_layout
      (responded_own h w (response_of new) room j) (omega arith)
      ∙ new_block j (omega arith)))
    where
      -- a block before row k has no word of a response
      before_last : (i j : ℕ) → (i ≡ y.k → ⊥) → block_of sheet y i j ≡ block_of new y i j
      before_last i j n = fill_ext (loaded_shape y (entry_row_in sheet y) i j) _ _ (λ r c has. rw (ne_eqb i y.k n) refl)

  exchanged_doubles : after ≡ loaded_numbers new y ++ tail
  exchanged_doubles =
      sym (take-append-drop (loaded_length y) after)
      ∙ ap₂ (λ (a b : List Float). a ++ b) (tiled_numbers new y after tile)
      (responded_behind h w (response_of new) room (loaded_length y) (rw heading_layout (omega arith))
      ∙ drop_at (loaded_numbers sheet y) tail (loaded_length y) (length_loaded sheet y))

-- the book's loaded numbers after a new response are those of the sheet with that response
pub exchanged_numbers : (sheet : Sheet) (zy xy : List ℕ) (yy : ℕ)
    → (responded (heading_of sheet (layout_of_sheet sheet)) (loaded_numbers sheet (layout_of_sheet sheet)) (response_of (with_response sheet zy xy yy))).left.doubles
    ≡ loaded_numbers (with_response sheet zy xy yy) (layout_of_sheet (with_response sheet zy xy yy))
unfolding layout_of_sheet sorted_layout
exchanged_numbers sheet zy xy yy =
    ap (λ (l : List Float). (responded (heading_of sheet (layout_of_sheet sheet)) l (response_of (with_response sheet zy xy yy))).left.doubles) (sym (append-nil (loaded_numbers sheet (layout_of_sheet sheet))))
    ∙ exchanged_doubles sheet zy xy yy []
    ∙ append-nil (loaded_numbers (with_response sheet zy xy yy) (layout_of_sheet sheet))

-- A new response on a freshly loaded workspace leaves heading and doubles as load of the sheet with that response leaves them.
pub exchanged : (sheet : Sheet) (zy xy : List ℕ) (yy : ℕ)
    → (responded (heading_of sheet (layout_of_sheet sheet)) (doubles_of sheet (layout_of_sheet sheet)) (response_of (with_response sheet zy xy yy))).left
    ≡ workspace (heading_of (with_response sheet zy xy yy) (layout_of_sheet (with_response sheet zy xy yy))) (doubles_of (with_response sheet zy xy yy) (layout_of_sheet (with_response sheet zy xy yy)))
unfolding layout_of_sheet sorted_layout doubles_of heading_of responded
exchanged sheet zy xy yy =
    ap₂ workspace
    (ap (λ (z : Layout). heading_with (heading_of sheet (layout_of_sheet sheet)) (idle z.k)) (heading_layout sheet zy xy yy [])
    ∙ progress_stored (layout_of_sheet sheet) (idle (layout_of_sheet sheet).k) (idle (layout_of_sheet sheet).k)
    (pick (layout_of_sheet sheet).sparse (tab (levels (layout_of_sheet sheet) 0) (entry_row_in sheet (layout_of_sheet sheet))) []))
    (exchanged_doubles sheet zy xy yy (zeros (layout_of_sheet sheet)))
