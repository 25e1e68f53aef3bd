-- The prescribed indexes of a run of lines, and the zz lines, which are read back while they rise.
use Prim.Native.Nat.{ℕ, zero, suc, ◌+◌, ◌≤◌, ◌<◌}
use mathlib.Core.Path.{◌≡◌, refl, sym, ap₂}
use mathlib.Core.Bool.{true, false}
use mathlib.Core.List.{List, [], ◌∷◌, ◌++◌}
use mathlib.Core.Logic.{inl, inr, by_cases}
use native.Mathlib.Decide.{dec_lt}
use native.Mathlib.Omega.{arith}
use lib.ListN.{length}
use borrow.Author.Tests.{lt-ltb, le-ltb, le-leb, eq-eqb}
use Rattle.sheet.specs.declared.Counts.{Counts}
use Rattle.sheet.specs.declared.Line.{Line}
use Rattle.sheet.specs.Field.{cap}
use Rattle.sheet.specs.Line.{zz_tag, tag_to, in_form, pair_line}
use Rattle.sheet.specs.Run.{Cursor, Entry, Kind, row_from, rows_from, not_before, entry_verdict, entries_from}
use Rattle.sheet.specs.Sheet.{word_kinds}
use Rattle.sheet.specs.Whole.{Each, Both, InRange, EntryInRange, Earlier, Rising}
use Rattle.sheet.proofs.Entries.{each_map}
use Rattle.sheet_text.specs.written.Written.{entries_text, Word, Numbered}
use Rattle.sheet_text.proofs.written.Lines.{From, in_form_lem, tag_from, Reads, pair_from, Fits, pass_on, ReadBack}

-- ---- indexes
each_append : {A : Type 0} (P : A → Type 0) (xs ys : List A) → Each P xs → Each P ys → Each P (xs ++ ys)
each_append P [] ys a b = b
each_append P (x ∷ xs) ys a b = (a.0, each_append P xs ys a.1 b)

-- where row r has `width r` of them, and there are n rows
abbrev pub Within : (ℕ → ℕ) → ℕ → ℕ × ℕ → Type 0
Within width n i = (i.0 < n) × (i.1 < width i.0)

row_within : (width : ℕ → ℕ) (end r c n : ℕ) → r < end → c + n ≤ width r → Each (Within width end) (row_from r c n)
unfolding row_from
row_within width end r c zero h g = tt
row_within width end r c (suc n) h g = ((h, omega arith), row_within width end r (c + 1) n h (omega arith))

pub rows_within : (width : ℕ → ℕ) (end r n : ℕ) → r + n ≤ end → Each (Within width end) (rows_from width r n)
unfolding rows_from
rows_within width end r zero h = tt
rows_within width end r (suc n) h =
    each_append (Within width end) (row_from r 0 (width r)) _ (row_within width end r 0 (width r) (omega arith) (omega arith))
    (rows_within width end (r + 1) n (omega arith))

-- what the indexes of each row have, all have
pub rows_each : (width : ℕ → ℕ) (n : ℕ) (Q : ℕ × ℕ → Type 0) → ((i : ℕ × ℕ) → i.0 < n → i.1 < width i.0 → Q i) → Each Q (rows_from width 0 n)
rows_each width n Q f = each_map (rows_from width 0 n) (λ i h. f i h.0 h.1) (rows_within width n 0 n (omega arith))

-- two lists side by side
pub both_each : {A B : Type 0} (P : A → Type 0) (W : B → Type 0) (xs : List A) (ys : List B) → length xs ≡ length ys → Each P xs → Each W ys → Both (λ x y. P x × W y) xs ys
both_each P W [] [] e a b = tt
both_each P W [] (y ∷ ys) e a b = omega arith
both_each P W (x ∷ xs) [] e a b = omega arith
both_each P W (x ∷ xs) (y ∷ ys) e a b = ((a.0, b.0), both_each P W xs ys (omega arith) a.1 b.1)

-- ---- the kinds of a sheet have a tag, and their lines can have their indexes
abbrev pub Sound : Kind → Type 0
Sound kind = (0 < length kind.tag) × Each (Fits kind.numbers) kind.indexes

pub kinds_sound : (z : Counts) → InRange z → Each Sound (word_kinds z)
kinds_sound z h =
    let few : z.q < cap = omega (arith, h.q) in
    let thin : z.p < cap = omega (arith, h.p.1) in (
      (omega arith, rows_each (λ r. z.p) z.q (Fits 2) (λ i x y. (omega arith, omega arith))),
      (
        (omega arith, rows_each (λ r. 1) z.q (Fits 1) (λ i x y. (omega arith, omega arith))),
        (
          (omega arith, rows_each (λ r. r + 1) z.p (Fits 2) (λ i x y. (omega arith, omega arith))),
          ((omega arith, rows_each (λ r. 1) z.p (Fits 1) (λ i x y. (omega arith, omega arith))), ((omega arith, ((refl, refl), tt)), tt)),
        ),
      ),
    )

-- ---- entries
-- the first entry comes no earlier than (col, row)
abbrev Reached : ℕ → ℕ → List Entry → Type 0
Reached col row [] = Unit {0}
Reached col row (e ∷ es) = not_before col row e.col e.row ≡ true

first_reached : (es : List Entry) → Reached 0 0 es
first_reached [] = tt
first_reached (e ∷ es) =
    by_cases (dec_lt 0 e.col) (λ l. rw (lt-ltb 0 e.col l)) (λ l. rw (le-ltb 0 e.col (omega arith), eq-eqb 0 e.col (omega arith), le-leb 0 e.row (omega arith)))

later : (a b : Entry) → Earlier a b → not_before a.col (a.row + 1) b.col b.row ≡ true
later a b (inl h) = rw (lt-ltb a.col b.col h)
later a b (inr h) = rw (le-ltb a.col b.col (omega arith), eq-eqb a.col b.col h.0, le-leb (a.row + 1) b.row (omega arith))

next_reached : (e : Entry) (es : List Entry) → Each (Earlier e) es → Reached e.col (e.row + 1) es
next_reached e [] h = tt
next_reached e (x ∷ es) h = later e x h.0

entry_same : (e : Entry) (n : ℕ) → e.line ≡ n → record { line = n; col = e.col; row = e.row; word = e.word } ≡ e
entry_same e n h = rw (sym h)

module _ (s : List ℕ) (short : length s ≤ 16777216) (q : ℕ) (few : q ≤ 524280) where
  entry_passes : (e : Entry) (l : Line) (col row : ℕ) {rest : List ℕ} → EntryInRange q e → Word e.word → not_before col row e.col e.row ≡ true
      → Reads s l e.col e.row e.word rest → entry_verdict q col row l ≡ 0
  entry_passes e l col row h w g r =
      rw (in_form_lem short r.past, r.first, r.second, r.word, g, w.1, lt-ltb e.col q h.col, lt-ltb e.row q h.row)

  entries_from_lem : (es : List Entry) (left col row : ℕ) (c : Cursor) (rest : List ℕ) → length es ≤ left → c.number ≡ 0
      → Each (EntryInRange q) es → Each (λ (e : Entry). Word e.word) es → Numbered c.line es → Rising es → Reached col row es
      → ((at : ℕ) → From s at rest → in_form (tag_to zz_tag s at).next ≡ false)
      → From s c.at (entries_text es rest) → ReadBack s (entries_from left s q col row c) es c.line rest
  unfolding entries_from entries_text
  entries_from_lem [] zero col row c rest h e r w n u g stop f = record { items = refl; number = e; line = omega arith; past = f }
  entries_from_lem [] (suc left) col row c rest h e r w n u g stop f =
      rw (eq-eqb c.number 0 e, stop c.at f) (record { items = refl; number = e; line = omega arith; past = f })
  entries_from_lem (x ∷ es) zero col row c rest h e r w n u g stop f = absurd (omega arith)
  entries_from_lem (x ∷ es) (suc left) col row c rest h e r w n u g stop f =
      let l = pair_line zz_tag s c.at in
      let o = pair_from zz_tag x.col x.row x.word (omega arith) (omega arith) w.0.0 f in
      let v = entry_passes x l col row r.0 w.0 g o in
      let m = entries_from_lem es left x.col (x.row + 1) (record { at = l.next; line = c.line + 1; number = 0 }) rest (omega arith) refl r.1 w.1 n.1 u.1 (next_reached x es u.0) stop o.past in
      rw (eq-eqb c.number 0 e, in_form_lem short (tag_from zz_tag f), pass_on c (entry_verdict q col row l) l.next e v, o.first, o.second, o.word)
      (record {
        items = ap₂ (λ (a : Entry) (b : List Entry). a ∷ b) (entry_same x c.line n.0) m.items;
        number = m.number;
        line = omega (arith, m.line);
        past = m.past;
      })

  pub entries_back : (es : List Entry) (left : ℕ) (c : Cursor) (rest : List ℕ) → length es ≤ left → c.number ≡ 0
      → Each (EntryInRange q) es → Each (λ (e : Entry). Word e.word) es → Numbered c.line es → Rising es
      → ((at : ℕ) → From s at rest → in_form (tag_to zz_tag s at).next ≡ false)
      → From s c.at (entries_text es rest) → ReadBack s (entries_from left s q 0 0 c) es c.line rest
  entries_back es left c rest h e r w n u = entries_from_lem es left 0 0 c rest h e r w n u (first_reached es)
