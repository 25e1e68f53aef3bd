-- THE CLAIM: the rows of all entries, put into a heading, are those that load defines.
use Prim.Native.Nat.{ℕ, zero, suc, ◌+◌, ◌-◌, ◌≤◌, ◌<◌}
use mathlib.Core.Path.{◌≡◌, refl, sym, ap, ap₂, subst, ◌∙◌}
use mathlib.Core.Bool.{Bool, true, false, ◌&&◌, cond, and-eq-true_iff}
use mathlib.Core.List.{List, [], ◌∷◌}
use mathlib.Core.Logic.{◌⊎◌, inl, inr, ⊎_elim, by_cases}
use native.Mathlib.Decide.{dec_lt}
use native.Mathlib.Omega.{arith}
use lib.Dec.{eqb}
use lib.ListN.{length, get_or, set}
use lib.Seq.{ext_get_or, set_out}
use borrow.Author.Tests.{eqb-true, eq-eqb}
use Rattle.storage.specs.Runs.{tab}
use Rattle.storage.specs.Part.{store}
use Rattle.storage.proofs.Cells.{length_tab, get_or_tab}
use Rattle.storage.proofs.Parts.{length_store, store_nil, store_in, store_before, store_behind}
use Rattle.sheet.specs.declared.Line.{Line}
use Rattle.sheet.specs.declared.Starts.{Starts}
use Rattle.sheet.specs.Field.{nowhere}
use Rattle.sheet.specs.Line.{zz_tag, pair_line}
use Rattle.sheet.specs.Run.{Entry, entry_in, kept_from}
use Rattle.sheet.specs.Sheet.{Sheet, accepted, read_sheet}
use Rattle.sheet.specs.Whole.{Each, Whole}
use Rattle.layout.specs.declared.Layout.{Layout}
use Rattle.layout.specs.Shapes.{pick, levels}
use Rattle.heading_format.specs.Heading.{numbers_needed}
use Rattle.workspace.specs.Loaded.{row_start, sheet_row, in_block, count_of, row_of, of_column, entry_row_in}
use Rattle.block_places.specs.sheet_rows.Blocks.{block_of_row}
use Rattle.block_places.proofs.sheet_rows.Rows.{in_block_lem, block_in_lem, block_is, is_in_block}
use Rattle.load_numbers.specs.word_address.Spread.{spread}
use Rattle.load_numbers.proofs.sheet_words.Positions.{true_false, spread_length, missed, chosen, Only, count_only, entries_missed, entry_put}
use Rattle.load_numbers.specs.sheet_words.Ready.{Ready}
use Rattle.load_numbers.proofs.sheet_words.Facts.{Known}
use Rattle.load_numbers.proofs.sheet_words.Loads.{whole, knows, one_sheet}
use Rattle.load_numbers.specs.Rows.{row_place, put_row}
use Rattle.heading_format.specs.Parts.{heading_length}

-- the one entry that passes gives its row, whatever else would stand there
chosen_row : (test : Entry → Bool) (a none : ℕ) (l : List Entry) → count_of test l ≡ 1 → chosen test (λ e. e.row - a) none l ≡ row_of test l - a
unfolding count_of row_of
chosen_row test a none [] h = absurd (omega arith)
chosen_row test a none (e ∷ l) h = step (chosen_row test a none l) (test e) h
  where
    step : (count_of test l ≡ 1 → chosen test (λ e. e.row - a) none l ≡ row_of test l - a) → (b : Bool) → cond b (suc (count_of test l)) (count_of test l) ≡ 1
        → cond b (e.row - a) (chosen test (λ e. e.row - a) none l) ≡ cond b e.row (row_of test l) - a
    step f true h = refl
    step f false h = f h

anything : {A : Type 0} (P : A → Type 0) → ((x : A) → P x) → (l : List A) → Each P l
anything P f [] = tt
anything P f (x ∷ l) = (f x, anything P f l)

module _ (y : Layout) where
  pub place_other : (col row : ℕ) → (eqb (block_of_row y y.k col) 0 && eqb (block_of_row y y.k row) 1) ≡ false → row_place y col row ≡ nowhere
  unfolding row_place
  place_other col row e = rw e

  pub place_pair : (col row : ℕ) → block_of_row y y.k col ≡ 0 → block_of_row y y.k row ≡ 1 → row_place y col row ≡ heading_length + (col - row_start y 0)
  unfolding row_place
  place_pair col row e f = rw (eq-eqb (block_of_row y y.k col) 0 e, eq-eqb (block_of_row y y.k row) 1 f)

  -- an entry of the pair, or none
  place_lands : 1 < y.k → (col row : ℕ) → (row_place y col row ≡ nowhere) ⊎ ((in_block y 0 col ≡ true) × (in_block y 1 row ≡ true) × (row_place y col row ≡ heading_length + (col - row_start y 0)))
  place_lands h col row = step (eqb (block_of_row y y.k col) 0 && eqb (block_of_row y y.k row) 1) refl
    where
      has : (x j : ℕ) → block_of_row y y.k x ≡ j → j < y.k → in_block y j x ≡ true
      has x j e g = subst (λ (t : ℕ). in_block y t x ≡ true) e (block_in_lem y y.k x (omega arith) (omega arith)).0

      step : (b : Bool) → (eqb (block_of_row y y.k col) 0 && eqb (block_of_row y y.k row) 1) ≡ b
          → (row_place y col row ≡ nowhere) ⊎ ((in_block y 0 col ≡ true) × (in_block y 1 row ≡ true) × (row_place y col row ≡ heading_length + (col - row_start y 0)))
      step true e =
          let k = (and-eq-true_iff (eqb (block_of_row y y.k col) 0) (eqb (block_of_row y y.k row) 1)).0 e in
          let a = eqb-true (block_of_row y y.k col) 0 k.0 in
          let b = eqb-true (block_of_row y y.k row) 1 k.1 in
          inr (has col 0 a (omega arith), has row 1 b h, place_pair col row a b)
      step false e = inl (place_other col row e)

module _ (s : List ℕ) (sheet : Sheet) (z : Starts) (y : Layout) (k : Known sheet y) (h : Whole s sheet z) (thin : y.sparse ≡ true) (w : List ℕ)
    (fits : heading_length + levels y 0 ≤ length w) (low : length w ≤ nowhere) where
  abbrev rowed : List ℕ
  rowed = spread (put_row y) (pair_line zz_tag s) (length sheet.zz) 0 z.zz w

  two : y.k ≡ 2
  two = (k.inner thin).0

  -- a number that no column has
  row_missed : (P : ℕ) → P < length w → ((c : ℕ) → c < levels y 0 → P ≡ heading_length + c → ⊥) → get_or rowed P 0 ≡ get_or w P 0
  row_missed P b away =
      missed (λ i l. row_place y l.first l.second) (λ l. l.second - row_start y 1) (pair_line zz_tag s) P 0 (length sheet.zz) 0 z.zz w
      (entries_missed (row_place y) (λ c r v. r - row_start y 1) (pair_line zz_tag s) P 0 (length sheet.zz) 0 (sheet.counts.k + 2) z.zz
      (anything (λ e. row_place y e.col e.row ≡ P → ⊥)
      (λ e q. ⊎_elim (λ n. omega arith)
      (λ t. let u = in_block_lem y 0 e.col t.0 in let u₀ = u.0 in let u₁ = u.1 in let v = t.2 in away (e.col - row_start y 0) (omega arith) (omega arith))
      (place_lands y (omega (arith, two)) e.col e.row))
      (kept_from (pair_line zz_tag s) entry_in (length sheet.zz) (sheet.counts.k + 2) z.zz)))

  -- column c's number
  row_value : (c : ℕ) → c < levels y 0 → get_or rowed (heading_length + c) 0 ≡ entry_row_in sheet y c
  row_value c b =
      let P : ℕ = heading_length + c in
      let test : Entry → Bool = of_column y 1 0 c in
      let one = k.each_once thin c b in
      entry_put (row_place y) (λ c r v. r - row_start y 1) (pair_line zz_tag s) P 0 (of_column y 1 0 c) (get_or w P 0) (length sheet.zz) 0 (sheet.counts.k + 2) z.zz w
      (subst (Only (of_column y 1 0 c)) h.placed.zz (count_only (of_column y 1 0 c) sheet.zz (omega arith)))
      (anything (λ e. (row_place y e.col e.row ≡ P → of_column y 1 0 c e ≡ true) × (of_column y 1 0 c e ≡ true → row_place y e.col e.row ≡ P))
      (λ e. (
        λ q. ⊎_elim (λ n. absurd (omega arith))
            (λ t. let u = in_block_lem y 0 e.col t.0 in
            let u₀ = u.0 in
            let u₁ = u.1 in
            let v = t.2 in
            (and-eq-true_iff (eqb e.col (sheet_row y 0 c)) (in_block y 1 e.row)).1 (eq-eqb e.col (sheet_row y 0 c) (omega arith), t.1))
            (place_lands y (omega (arith, two)) e.col e.row),
        λ q. let t = (and-eq-true_iff (eqb e.col (sheet_row y 0 c)) (in_block y 1 e.row)).0 q in
            let same : e.col ≡ sheet_row y 0 c = eqb-true e.col (sheet_row y 0 c) t.0 in
            let here : in_block y 0 e.col ≡ true = is_in_block y 0 e.col (omega arith) (omega arith) in
            place_pair y e.col e.row (block_is y k.ok y.k 0 e.col (omega (arith, two)) (omega arith) here) (block_is y k.ok y.k 1 e.row (omega (arith, two)) (omega arith) t.1)
            ∙ omega arith,
      ))
      (kept_from (pair_line zz_tag s) entry_in (length sheet.zz) (sheet.counts.k + 2) z.zz))
      (omega arith) refl
      ∙ ap (chosen (of_column y 1 0 c) (λ e. e.row - row_start y 1) (get_or w P 0)) (sym h.placed.zz)
      ∙ chosen_row (of_column y 1 0 c) (row_start y 1) (get_or w P 0) sheet.zz one

  rows_fit : heading_length + length (tab (levels y 0) (entry_row_in sheet y)) ≤ length w
  rows_fit = omega (arith, length_tab (levels y 0) (entry_row_in sheet y))

  rowed_length : length rowed ≡ length w
  rowed_length = spread_length (λ i l. row_place y l.first l.second) (λ l. l.second - row_start y 1) (pair_line zz_tag s) (length sheet.zz) 0 z.zz w

  pub rows_made : rowed ≡ store heading_length (tab (levels y 0) (entry_row_in sheet y)) w
  rows_made =
      ext_get_or 0 rowed (store heading_length t w) (rowed_length ∙ sym (length_store heading_length t w rows_fit))
      (λ P b.
      let c : P < length w = omega (arith, rowed_length) in
      by_cases (dec_lt P heading_length) (λ l. row_missed P c (λ x g e. omega arith) ∙ sym (store_before heading_length t w rows_fit 0 P l))
      (λ l. by_cases (dec_lt P (heading_length + levels y 0))
      (λ m. let x : ℕ = P - heading_length in
      let e : P ≡ heading_length + x = omega arith in
      ap (λ (i : ℕ). get_or rowed i 0) e ∙ row_value x (omega arith)
      ∙ sym (ap (λ (i : ℕ). get_or (store heading_length t w) i 0) e ∙ store_in heading_length t w rows_fit 0 x (omega (arith, length_tab (levels y 0) (entry_row_in sheet y))) ∙ get_or_tab (levels y 0) (entry_row_in sheet y) x 0 (omega arith)))
      (λ m. row_missed P c (λ x g e. omega arith) ∙ sym (store_behind heading_length t w rows_fit 0 P (omega (arith, length_tab (levels y 0) (entry_row_in sheet y)))))))
    where
      t : List ℕ
      t = tab (levels y 0) (entry_row_in sheet y)

-- ---- one entry, way out by way out of the code

module _ (y : Layout) (h : List ℕ) (col row v : ℕ) where
  pub put_none : length h ≤ nowhere → (block_of_row y y.k col ≡ 0 → block_of_row y y.k row ≡ 1 → ⊥) → h ≡ set h (row_place y col row) v
  put_none low q = sym (ap (λ (p : ℕ). set h p v) (place_other y col row (other (block_of_row y y.k col) (block_of_row y y.k row) q)) ∙ set_out h nowhere v low)
    where
      other : (i j : ℕ) → (i ≡ 0 → j ≡ 1 → ⊥) → (eqb i 0 && eqb j 1) ≡ false
      other i j q = step (eqb i 0) (eqb j 1) refl refl
        where
          step : (a b : Bool) → eqb i 0 ≡ a → eqb j 1 ≡ b → (a && b) ≡ false
          step true true e f = absurd (q (eqb-true i 0 e) (eqb-true j 1 f))
          step true false e f = refl
          step false b e f = refl

  pub put_one : (r c : ℕ) → block_of_row y y.k col ≡ 0 → block_of_row y y.k row ≡ 1 → c ≡ col - row_start y 0 → r ≡ row - row_start y 1
      → set h (heading_length + c) r ≡ set h (row_place y col row) (row - row_start y 1)
  put_one r c e f p q = ap₂ (λ (i x : ℕ). set h i x) (ap (λ (x : ℕ). heading_length + x) p ∙ sym (place_pair y col row e f)) q

-- the lines are not counted
pub any_number : (y : Layout) (read : ℕ → Line) (n i at : ℕ) (w : List ℕ) → spread (put_row y) read n i at w ≡ spread (put_row y) read n 0 at w
unfolding spread
any_number y read zero i at w = refl
any_number y read (suc n) i at w =
    any_number y read n (suc i) (read at).next (put_row y i (read at) w) ∙ sym (any_number y read n (suc 0) (read at).next (put_row y 0 (read at) w))

-- ---- a sheet that is ready

pub sparse_room : (b : Bool) (m n : ℕ) → b ≡ true → heading_length + cond b m 0 ≤ n → heading_length + m ≤ n
sparse_room true m n e h = h
sparse_room false m n e h = absurd (true_false e refl)

picked : (s : List ℕ) (sheet : Sheet) (z : Starts) (y : Layout) → Known sheet y → Whole s sheet z → (b : Bool) → y.sparse ≡ true → b ≡ true → (w : List ℕ) → length w ≤ nowhere
    → heading_length + cond b (levels y 0) 0 ≤ length w → spread (put_row y) (pair_line zz_tag s) (length sheet.zz) 0 z.zz w ≡ store heading_length (pick b (tab (levels y 0) (entry_row_in sheet y)) []) w
picked s sheet z y k h true q e w low fits = rows_made s sheet z y k h q w fits low
picked s sheet z y k h false q e w low fits = absurd (true_false e refl)

pub unpicked : (b : Bool) (l w : List ℕ) → b ≡ false → w ≡ store heading_length (pick b l []) w
unpicked true l w e = absurd (true_false refl e)
unpicked false l w e = sym (store_nil heading_length w)

pub rows_loaded : (s : List ℕ) (z : Starts) (y : Layout) (r : Ready s z y) → y.sparse ≡ true → (n : ℕ) → n ≡ length r.0.zz → (w w' : List ℕ) → length w ≤ nowhere → numbers_needed y ≤ length w
    → w' ≡ spread (put_row y) (pair_line zz_tag s) n 0 z.zz w → (x : Sheet) → read_sheet s ≡ accepted x z
    → w' ≡ store heading_length (pick y.sparse (tab (levels y 0) (entry_row_in x y)) []) w
rows_loaded s z y r q n e w w' low fits made x f =
    subst (λ (x : Sheet). w' ≡ store heading_length (pick y.sparse (tab (levels y 0) (entry_row_in x y)) []) w) (one_sheet s z y r x f)
    (made ∙ ap (λ (m : ℕ). spread (put_row y) (pair_line zz_tag s) m 0 z.zz w) e
    ∙ picked s r.0 z y (knows s z y r) (whole s z y r) y.sparse q q w low fits)
