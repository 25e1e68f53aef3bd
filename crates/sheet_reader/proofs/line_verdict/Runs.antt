-- The turns of the loops that read runs of lines: what is left of a run still ends as the whole does, and its line numbers have room.
use Rattle.std.specs.Prelude.{Result, Ok, Err}
use Rattle.std.proofs.Common.{◌≡◌, ℕ, zero, suc, ◌+◌, ◌-◌, ◌*◌, ◌<◌, ◌≤◌, min, Bool, true, false, cond, ◌&&◌, eqb, ltb, List, [], ◌∷◌, ◌++◌, length, drop, sym, ap, refl, ◌∙◌, arith, length-append, eq-eqb, ne_eqb, eqb-true}
use Rattle.std.proofs.lemmas.Bool.{eqb-false}
use Rattle.sheet.specs.declared.Field.{Field}
use Rattle.sheet.specs.declared.Line.{Line}
use Rattle.sheet.specs.declared.LineStart.{LineStart}
use Rattle.sheet.specs.declared.SheetRefusal.{SheetRefusal}
use Rattle.sheet.specs.Field.{nowhere, unfound, found, on_digit, cap, digit_of, digits_from, number_at}
use Rattle.sheet.specs.Line.{zz_tag, tab, tag_to, number_to, in_form, block_line, pair_line, single_line, bare_line, word_line}
use Rattle.sheet.specs.Run.{Cursor, cursor_at, reached, ended, before, block_in, entry_in, word_in, block_verdict, prescribed_verdict, pass_of, lines_of, row_from, rows_from, entry_verdict, entries_from, blocks_of}
use Rattle.sheet.proofs.Lines.{lines_stay, lines_append, row_length, grid_length}
use Rattle.sheet.proofs.Enough.{refused_ends}

-- ---- what a reader answers, read back to its cursor
pub ok_reached : (c : Cursor) (p : LineStart) → Ok p ≡ reached c → c ≡ cursor_at p
ok_reached c p e = go (eqb c.number 0) refl e
  where
    go : (t : Bool) → eqb c.number 0 ≡ t → ◌≡◌ {A = Result LineStart SheetRefusal} (Ok p) (cond t (Ok (record { at = c.at; line = c.line })) (Err (record { number = c.number; line = c.line }))) → c ≡ cursor_at p
    go true u q =
        let n : c.number ≡ 0 = eqb-true c.number 0 u in
        let r : ◌≡◌ {A = LineStart} p (record { at = c.at; line = c.line }) = cc in
        rw (r, ← n) refl
    go false u q = let z : ◌≡◌ {A = ℕ} 0 1 = cc in absurd (omega arith)

pub err_reached : (c : Cursor) (e : SheetRefusal) → Err e ≡ reached c → (c.number ≡ 0 → ⊥) × ◌≡◌ {A = SheetRefusal} e (record { number = c.number; line = c.line })
err_reached c e q = go (eqb c.number 0) refl q
  where
    go : (t : Bool) → eqb c.number 0 ≡ t → ◌≡◌ {A = Result LineStart SheetRefusal} (Err e) (cond t (Ok (record { at = c.at; line = c.line })) (Err (record { number = c.number; line = c.line }))) → (c.number ≡ 0 → ⊥) × ◌≡◌ {A = SheetRefusal} e (record { number = c.number; line = c.line })
    go true u q = let z : ◌≡◌ {A = ℕ} 0 1 = cc in absurd (omega arith)
    go false u q = (eqb-false c.number 0 u, cc)

-- ---- one line
module _ (c : Cursor) (number next : ℕ) where
  -- the number of the next line is at most one more
  pub pass_line : (pass_of c number next).line ≤ c.line + 1
  unfolding pass_of
  pass_line = go (eqb c.number 0) (eqb number 0)
    where
      go : (t u : Bool) → (cond t (cond u (record { at = next; line = c.line + 1; number = 0 }) (record { at = c.at; line = c.line; number = number })) c).line ≤ c.line + 1
      go true true = omega arith
      go true false = omega arith
      go false u = omega arith

-- ---- a line by how many numbers it has
module _ (t s : List ℕ) (at : ℕ) (l : Line) where
  pub word_pair : (numbers : ℕ) → 1 < numbers → l ≡ pair_line t s at → l ≡ word_line numbers t s at
  word_pair zero h e = absurd (omega arith)
  word_pair (suc zero) h e = absurd (omega arith)
  word_pair (suc (suc n)) h e = e

  pub word_single : (numbers : ℕ) → numbers ≡ 1 → l ≡ single_line t s at → l ≡ word_line numbers t s at
  word_single numbers h e = rw h e

  pub word_bare : (numbers : ℕ) → numbers ≤ 1 → (numbers ≡ 1 → ⊥) → l ≡ bare_line t s at → l ≡ word_line numbers t s at
  word_bare numbers g h e = let z : numbers ≡ 0 = omega arith in rw z e

-- ---- a run of lines whose indexes are listed
module _ {A : Type 0} (read : ℕ → Line) (verdict : ℕ × ℕ → Line → ℕ) (keep : ℕ → Line → A) where
  -- at most one more for each line
  pub lines_line : (is : List (ℕ × ℕ)) (c : Cursor) → (lines_of read verdict keep is c).past.line ≤ c.line + length is
  unfolding lines_of
  lines_line [] c = omega arith
  lines_line (i ∷ is) c =
      let l = read c.at in
      let d = pass_of c (verdict i l) l.next in
      omega (arith, lines_line is d, pass_line c (verdict i l) l.next)

-- `is` are left at c, still to end at X
pub record Left {A : Type 0} (read : ℕ → Line) (verdict : ℕ × ℕ → Line → ℕ) (keep : ℕ → Line → A) (X : Cursor) (is : List (ℕ × ℕ)) (c : Cursor) : Type 0 where
  pub same : (lines_of read verdict keep is c).past ≡ X
  pub room : c.line + length is < 9223372036854775808

module _ {A : Type 0} {read : ℕ → Line} {verdict : ℕ × ℕ → Line → ℕ} {keep : ℕ → Line → A} {X : Cursor} where
  -- a refused line ends the run
  left_refused : {is : List (ℕ × ℕ)} {c : Cursor} → Left read verdict keep X is c → (c.number ≡ 0 → ⊥) → c ≡ X
  left_refused {is} {c} e h = sym (lines_stay read verdict keep is c h) ∙ e.same

  left_none : {c : Cursor} → Left read verdict keep X [] c → c ≡ X
  unfolding lines_of
  left_none e = e.same

  left_next : {i : ℕ × ℕ} {is : List (ℕ × ℕ)} {c : Cursor} → Left read verdict keep X (i ∷ is) c → Left read verdict keep X is (pass_of c (verdict i (read c.at)) (read c.at).next)
  unfolding lines_of
  left_next {i} {is} {c} e = let l = read c.at in record { same = e.same; room = omega (arith, e.room, pass_line c (verdict i l) l.next) }

  left_run : (is js : List (ℕ × ℕ)) {c : Cursor} → Left read verdict keep X (is ++ js) c → Left read verdict keep X js (lines_of read verdict keep is c).past
  left_run is js {c} e =
      record {
        same = sym (lines_append read verdict keep is js c) ∙ e.same;
        room = omega (arith, e.room, lines_line read verdict keep is c, length-append is js);
      }

-- ---- the loop of one row: its lines from `col` to n are left
pub record Row {A : Type 0} (read : ℕ → Line) (verdict : ℕ × ℕ → Line → ℕ) (keep : ℕ → Line → A) (X : Cursor) (r col n : ℕ) (c : Cursor) : Type 0 where
  pub left : Left read verdict keep X (row_from r col (n - col)) c

-- ---- the loop of rows: those from r to n are left
pub record Rows {A : Type 0} (read : ℕ → Line) (verdict : ℕ × ℕ → Line → ℕ) (keep : ℕ → Line → A) (width : ℕ → ℕ) (X : Cursor) (r n : ℕ) (c : Cursor) : Type 0 where
  pub left : Left read verdict keep X (rows_from width r (n - r)) c

-- one index less
one_less : (i n : ℕ) → i < n → n - i ≡ suc (n - (i + 1))
one_less i n h = omega arith

module _ {A : Type 0} {read : ℕ → Line} {verdict : ℕ × ℕ → Line → ℕ} {keep : ℕ → Line → A} {n : ℕ} {c : Cursor} where
  pub row_starts : {r : ℕ} → c.line + n < 9223372036854775808 → Row read verdict keep (lines_of read verdict keep (row_from r 0 n) c).past r 0 n c
  row_starts {r} h = let z : n - 0 ≡ n = omega arith in record { left = record { same = rw z; room = rw z (omega (arith, row_length r 0 n)) } }

  pub rows_start : {width : ℕ → ℕ} → c.line + length (rows_from width 0 n) < 9223372036854775808
      → Rows read verdict keep width (lines_of read verdict keep (rows_from width 0 n) c).past 0 n c
  rows_start h = let z : n - 0 ≡ n = omega arith in record { left = record { same = rw z; room = rw z h } }

module _ {A : Type 0} {read : ℕ → Line} {verdict : ℕ × ℕ → Line → ℕ} {keep : ℕ → Line → A} {X : Cursor} {n : ℕ} {p : LineStart} where
  -- what is left of a row, past its next line
  row_after : {r col : ℕ} {l : Line} {d : Cursor} → Row read verdict keep X r col n (cursor_at p) → col < n → l ≡ read p.at → d ≡ pass_of (cursor_at p) (verdict (r, col) l) l.next
      → Row read verdict keep X r (col + 1) n d
  unfolding row_from
  row_after {r} {col} e h q d = record { left = rw (d, q) (left_next (rw (one_less col n h) at e.left)) }

  pub row_next : {r col : ℕ} {l : Line} {next : LineStart} → Row read verdict keep X r col n (cursor_at p) → col < n → l ≡ read p.at
      → Ok next ≡ reached (pass_of (cursor_at p) (verdict (r, col) l) l.next) → Row read verdict keep X r (col + 1) n (cursor_at next)
  row_next e h q a = row_after e h q (sym (ok_reached _ _ a))

  -- a refused line ends the run
  pub row_refused : {r col : ℕ} {l : Line} {f : SheetRefusal} → Row read verdict keep X r col n (cursor_at p) → col < n → l ≡ read p.at
      → Err f ≡ reached (pass_of (cursor_at p) (verdict (r, col) l) l.next) → Err f ≡ reached X
  row_refused e h q a = a ∙ ap reached (left_refused (row_after e h q refl).left (err_reached _ _ a).0)

  -- the room for the next line
  pub row_room : {r col : ℕ} → Row read verdict keep X r col n (cursor_at p) → col < n → p.line < 9223372036854775808
  row_room {r} {col} e h = omega (arith, e.left.room, row_length r col (n - col))

  pub row_ends : {r col : ℕ} → Row read verdict keep X r col n (cursor_at p) → n ≤ col → Ok p ≡ reached X
  unfolding row_from
  row_ends {r} {col} e h = let z : n - col ≡ 0 = omega arith in ap reached (left_none (rw z at e.left))

  -- what is left of the rows, past the next
  rows_after : {width : ℕ → ℕ} {r : ℕ} {d : Cursor} → Rows read verdict keep width X r n (cursor_at p) → r < n
      → d ≡ (lines_of read verdict keep (row_from r 0 (width r)) (cursor_at p)).past → Rows read verdict keep width X (r + 1) n d
  unfolding rows_from
  rows_after {width} {r} e h q = record { left = rw q (left_run (row_from r 0 (width r)) (rows_from width (r + 1) (n - (r + 1))) (rw (one_less r n h) at e.left)) }

  pub rows_next : {width : ℕ → ℕ} {r : ℕ} {next : LineStart} → Rows read verdict keep width X r n (cursor_at p) → r < n
      → Ok next ≡ reached (lines_of read verdict keep (row_from r 0 (width r)) (cursor_at p)).past → Rows read verdict keep width X (r + 1) n (cursor_at next)
  rows_next e h a = rows_after e h (sym (ok_reached _ _ a))

  pub rows_refused : {width : ℕ → ℕ} {r : ℕ} {f : SheetRefusal} → Rows read verdict keep width X r n (cursor_at p) → r < n
      → Err f ≡ reached (lines_of read verdict keep (row_from r 0 (width r)) (cursor_at p)).past → Err f ≡ reached X
  rows_refused e h a = a ∙ ap reached (left_refused (rows_after e h refl).left (err_reached _ _ a).0)

  -- the room for the next row
  pub rows_room : {width : ℕ → ℕ} {r : ℕ} → Rows read verdict keep width X r n (cursor_at p) → r < n → p.line + width r < 9223372036854775808
  unfolding rows_from
  rows_room {width} {r} e h =
      let m : p.line + length (row_from r 0 (width r) ++ rows_from width (r + 1) (n - (r + 1))) < 9223372036854775808 = rw (one_less r n h) at e.left.room in
      omega (arith, length-append (row_from r 0 (width r)) (rows_from width (r + 1) (n - (r + 1))), row_length r 0 (width r))

  pub rows_end : {width : ℕ → ℕ} {r : ℕ} → Rows read verdict keep width X r n (cursor_at p) → n ≤ r → Ok p ≡ reached X
  unfolding rows_from
  rows_end {width} {r} e h = let z : n - r ≡ 0 = omega arith in ap reached (left_none (rw z at e.left))

  -- rows of one line
  module _ {r : ℕ} {l : Line} (e : Rows read verdict keep (λ i. 1) X r n (cursor_at p)) (h : r < n) (q : l ≡ read p.at) where
    pub ones_next : {next : LineStart} → Ok next ≡ reached (pass_of (cursor_at p) (verdict (r, 0) l) l.next) → Rows read verdict keep (λ i. 1) X (r + 1) n (cursor_at next)
    unfolding lines_of row_from
    ones_next a = rows_next e h (rw q at a)

    pub ones_refused : {f : SheetRefusal} → Err f ≡ reached (pass_of (cursor_at p) (verdict (r, 0) l) l.next) → Err f ≡ reached X
    unfolding lines_of row_from
    ones_refused a = rows_refused e h (rw q at a)

-- ---- the numbers of a line are held at the cap
cond_cap : (t : Bool) (f : Field) → f.value ≤ cap → (cond t f unfound).value ≤ cap
cond_cap true f h = h
cond_cap false f h = omega arith

digit_cap : (t z : Bool) (more done : Field) → more.value ≤ cap → done.value ≤ cap → (on_digit t z more done).value ≤ cap
digit_cap true true more done g h = omega arith
digit_cap true false more done g h = g
digit_cap false z more done g h = h

digits_cap : (end v at : ℕ) (l : List ℕ) → (digits_from end v at l).value ≤ cap
unfolding digits_from
digits_cap end v at [] = omega arith
digits_cap end v at (b ∷ rest) =
    digit_cap (ltb (digit_of b) 10) (eqb v 0) _ _ (digits_cap end (v * 10 + digit_of b) (at + 1) rest) (cond_cap (eqb b end) (found (min v cap) (at + 1)) (omega arith))

number_cap : (end at : ℕ) (l : List ℕ) → (number_at end at l).value ≤ cap
unfolding number_at
number_cap end at [] = omega arith
number_cap end at (b ∷ rest) = cond_cap (ltb (digit_of b) 10) _ (digits_cap end (digit_of b) (at + 1) rest)

pub second_cap : (t s : List ℕ) (at : ℕ) (l : Line) → l ≡ pair_line t s at → l.second ≤ cap
unfolding pair_line
second_cap t s at l e =
    let a = number_to tab s (tag_to t s at).next in
    rw e (number_cap tab a.next (drop a.next s))

-- ---- the loop of zz lines: of n at most, i are read, and what is left from (col, row) on is still to end at X
pub record Entries (X : Cursor) (s : List ℕ) (q i n col row : ℕ) (c : Cursor) : Type 0 where
  pub same : (entries_from (n - i) s q col row c).past ≡ X
  pub room : c.line + (n - i) < 9223372036854775808

pub entries_start : {s : List ℕ} {q n : ℕ} {c : Cursor} → c.line + n < 9223372036854775808 → Entries (entries_from n s q 0 0 c).past s q 0 n 0 0 c
entries_start {n} h = let z : n - 0 ≡ n = omega arith in record { same = rw z; room = rw z h }

module _ {X : Cursor} {s : List ℕ} {q i n col row : ℕ} {p : LineStart} (e : Entries X s q i n col row (cursor_at p)) where
  pub entries_end : n ≤ i → Ok p ≡ reached X
  unfolding entries_from
  entries_end h = let z : n - i ≡ 0 = omega arith in ap reached (rw z at e.same)

  module _ {t : Field} (h : i < n) (o : t ≡ tag_to zz_tag s p.at) where
    pub entries_other : t.next ≡ nowhere → Ok p ≡ reached X
    unfolding entries_from
    entries_other w = ap reached (simp (← o, eq-eqb t.next nowhere w) at (rw (one_less i n h) at e.same))

    module _ {l : Line} (w : t.next ≡ nowhere → ⊥) (r : l ≡ pair_line zz_tag s p.at) where
      -- what is left past the next line
      entries_after : {d : Cursor} → d ≡ pass_of (cursor_at p) (entry_verdict q col row l) l.next → Entries X s q (i + 1) n l.first (l.second + 1) d
      unfolding entries_from
      entries_after {d} a =
          record {
            same = rw a (simp (← o, ne_eqb t.next nowhere w, ← r) at (rw (one_less i n h) at e.same));
            room = omega (arith, e.room, pass_line (cursor_at p) (entry_verdict q col row l) l.next, ap (λ (x : Cursor). x.line) a);
          }

      pub entries_next : {next : LineStart} → Ok next ≡ reached (pass_of (cursor_at p) (entry_verdict q col row l) l.next)
          → Entries X s q (i + 1) n l.first (l.second + 1) (cursor_at next)
      entries_next a = entries_after (sym (ok_reached _ _ a))

      pub entries_refused : {f : SheetRefusal} → Err f ≡ reached (pass_of (cursor_at p) (entry_verdict q col row l) l.next) → Err f ≡ reached X
      entries_refused a =
          let m = entries_after refl in
          let d = pass_of (cursor_at p) (entry_verdict q col row l) l.next in
          a ∙ ap reached (rw (refused_ends s q (n - (i + 1)) l.first (l.second + 1) d (err_reached d _ a).0) at m.same)

-- at most one more for each line
entries_line : (s : List ℕ) (q n col row : ℕ) (c : Cursor) → (entries_from n s q col row c).past.line ≤ c.line + n
unfolding entries_from
entries_line s q zero col row c = omega arith
entries_line s q (suc n) col row c =
    let l = pair_line zz_tag s c.at in
    let d = pass_of c (entry_verdict q col row l) l.next in
    go (eqb c.number 0 && in_form (tag_to zz_tag s c.at).next) (entries_line s q n l.first (l.second + 1) d)
  where
    go : let l = pair_line zz_tag s c.at in
        let more = entries_from n s q l.first (l.second + 1) (pass_of c (entry_verdict q col row l) l.next) in
        (t : Bool) → more.past.line ≤ (pass_of c (entry_verdict q col row l) l.next).line + n → (cond t (before (entry_in c.line l) more) (ended c)).past.line ≤ c.line + suc n
    go true h = let l = pair_line zz_tag s c.at in omega (arith, pass_line c (entry_verdict q col row l) l.next)
    go false h = omega arith

-- ---- past a run that was in order, whose lines are few
module _ (s : List ℕ) (c : Cursor) (p : LineStart) where
  pub blocks_few : (k : ℕ) → Ok p ≡ reached (blocks_of s k c).past → p.line ≤ c.line + k
  blocks_few k e =
      omega (arith, ap (λ (x : Cursor). x.line) (ok_reached _ _ e), lines_line (block_line s) block_verdict block_in (rows_from (λ r. 1) 0 k) c, grid_length 1 0 k)

  pub entries_few : (n q : ℕ) → Ok p ≡ reached (entries_from n s q 0 0 c).past → p.line ≤ c.line + n
  entries_few n q e = omega (arith, ap (λ (x : Cursor). x.line) (ok_reached _ _ e), entries_line s q n 0 0 c)

pub rows_most : (first step r n : ℕ) → length (rows_from (λ i. first + step * i) r n) ≤ n * (first + step * (r + n))
unfolding rows_from
rows_most first step r zero = omega arith
rows_most first step r (suc n) =
    let w = first + step * r in
    omega (arith, rows_most first step (r + 1) n, length-append (row_from r 0 w) (rows_from (λ i. first + step * i) (r + 1) n), row_length r 0 w)

pub words_few : (read : ℕ → Line) (first step n : ℕ) (c : Cursor) (p : LineStart) → n * (first + step * n) ≤ 16777216
    → Ok p ≡ reached (lines_of read prescribed_verdict word_in (rows_from (λ i. first + step * i) 0 n) c).past → p.line ≤ c.line + 16777216
words_few read first step n c p few e =
    omega (arith, ap (λ (x : Cursor). x.line) (ok_reached _ _ e), rows_most first step 0 n, lines_line read prescribed_verdict word_in (rows_from (λ i. first + step * i) 0 n) c)
