-- The runs of a sheet in their sequence: the outcome is read off the cursors between them.
use Rattle.std.specs.Prelude.{Result, Ok, Err}
use Rattle.std.proofs.Common.{◌≡◌, ℕ, zero, suc, ◌+◌, ◌*◌, ◌<◌, ◌≤◌, Bool, true, false, cond, eqb, List, [], ◌∷◌, length, sym, refl, ap, ap₂, ◌∙◌, mul-le-mul, arith, le-ltb, lt-ltb, eq-eqb, ne_eqb}
use Rattle.sheet.specs.declared.Counts.{Counts}
use Rattle.sheet.specs.declared.LineStart.{LineStart}
use Rattle.sheet.specs.declared.SheetRefusal.{SheetRefusal}
use Rattle.sheet.specs.declared.Size.{Size}
use Rattle.sheet.specs.declared.Starts.{Starts}
use Rattle.sheet.specs.Field.{nowhere}
use Rattle.sheet.specs.Line.{zx_tag, zy_tag, xx_tag, xy_tag, yy_tag, size_line}
use Rattle.sheet.specs.Run.{Run, Entry, Kind, Cursor, cursor_at, reached, row_from, rows_from, blocks_of, entries_from, word_kind, words_of, runs_of, kind_line, prescribed_verdict, word_in}
use Rattle.sheet.specs.Sheet.{Sheet, Outcome, accepted, refused, counts_within, word_kinds, outcome_at, read_lines, read_sheet, alone, sheet_of}
use Rattle.sheet.specs.Answer.{reading_of, refused_with}
use Rattle.sheet.proofs.Whole.{counts_in_range}
use Rattle.sheet.proofs.Lines.{lines_stay}
use Rattle.sheet.proofs.Enough.{refused_ends}
use Rattle.sheet_reader.proofs.line_verdict.Runs.{ok_reached, err_reached}
use Rattle.sheet_reader.specs.sheet_lines.Lines.{Small}

-- ---- rows by first + step * r
rows_same : (u v : ℕ → ℕ) → ((i : ℕ) → u i ≡ v i) → (r n : ℕ) → rows_from u r n ≡ rows_from v r n
unfolding rows_from
rows_same u v e r zero = refl
rows_same u v e r (suc n) = cc (e r, rows_same u v e (r + 1) n)

-- all of one width, and one more from row to row
grid : (w n : ℕ) → rows_from (λ i. w + 0 * i) 0 n ≡ rows_from (λ i. w) 0 n
grid w n = rows_same _ _ (λ i. omega arith) 0 n

triangle : (n : ℕ) → rows_from (λ i. 1 + 1 * i) 0 n ≡ rows_from (λ i. i + 1) 0 n
triangle n = rows_same _ _ (λ i. omega arith) 0 n

one : rows_from (λ i. 1 + 0 * i) 0 1 ≡ (0, 0) ∷ []
unfolding rows_from row_from
one = refl

-- ---- the counts that bound the number of lines
pub counts_small : (z : Counts) (w : Bool) → w ≡ counts_within z → w ≡ true → Small z
counts_small z w e v = let h = counts_in_range z (sym e ∙ v) in record { p = h.p.1; q = h.q; k = h.k }

-- the products that bound the lines of a kind
pub zx_few : (z : Counts) → Small z → z.q * (z.p + 0 * z.q) ≤ 16777216
zx_few z h = omega (arith, mul-le-mul h.q h.p)

pub xx_few : (z : Counts) → Small z → z.p * (1 + 1 * z.p) ≤ 16777216
xx_few z h = omega (arith, mul-le-mul h.p h.p, h.p)

-- ---- a refused line ends every run behind it
words_stay : (s : List ℕ) (kinds : List Kind) (c : Cursor) → (c.number ≡ 0 → ⊥) → (runs_of s kinds c).past ≡ c
unfolding runs_of
words_stay s [] c h = refl
words_stay s (kind ∷ kinds) c h =
    let e : (words_of s kind c).past ≡ c = lines_stay (kind_line kind s) prescribed_verdict word_in kind.indexes c h in
    ap (λ (x : Cursor). (runs_of s kinds x).past) e ∙ words_stay s kinds c h

-- ---- the outcome at the end
abbrev reading_at : Cursor → Starts → Result Starts SheetRefusal
reading_at c starts = cond (eqb c.number 0) (Ok starts) (refused_with c.number c.line)

read_off : (c : Cursor) (sheet : Sheet) (starts : Starts) → reading_of (outcome_at c sheet starts) ≡ reading_at c starts
read_off c sheet starts = go (eqb c.number 0)
  where
    go : (t : Bool) → reading_of (cond t (accepted sheet starts) (refused c.number c.line)) ≡ cond t (Ok starts) (refused_with c.number c.line)
    go true = refl
    go false = refl

-- ---- the runs of words, of which those of `kinds` are still to come at p
module _ (s : List ℕ) (z : Counts) (c : Cursor) where
  abbrev zz_past : Cursor
  zz_past = (entries_from (length s) s z.q 0 0 (blocks_of s z.k c).past).past

  pub record At (kinds : List Kind) (p : LineStart) : Type 0 where
    pub same : (runs_of s (word_kinds z) zz_past).past ≡ (runs_of s kinds (cursor_at p)).past

-- the kinds as the code reads them, in their sequence
abbrev pub kinds_read : Counts → List Kind
kinds_read z =
    word_kind zx_tag 2 (rows_from (λ i. z.p + 0 * i) 0 z.q)
    ∷ word_kind zy_tag 1 (rows_from (λ i. 1 + 0 * i) 0 z.q)
    ∷ word_kind xx_tag 2 (rows_from (λ i. 1 + 1 * i) 0 z.p)
    ∷ word_kind xy_tag 1 (rows_from (λ i. 1 + 0 * i) 0 z.p)
    ∷ word_kind yy_tag 0 (rows_from (λ i. 1 + 0 * i) 0 1)
    ∷ []

kinds_same : (z : Counts) → word_kinds z ≡ kinds_read z
kinds_same z = cc (grid z.p z.q, grid 1 z.q, triangle z.p, grid 1 z.p, one)

module _ (s : List ℕ) (z : Counts) (c : Cursor) where
  -- a refusal at a cursor where all ends
  ends_refused : (d : Cursor) (f : SheetRefusal) → (runs_of s (word_kinds z) (zz_past s z c)).past ≡ d → Err f ≡ reached d → Err f ≡ reading_of (read_lines s z c)
  unfolding read_lines
  ends_refused d f e q =
      let r = err_reached d f q in
      rw (read_off, e, ne_eqb d.number 0 r.0) (ap Err r.1)

  pub blocks_refused : {f : SheetRefusal} → Err f ≡ reached (blocks_of s z.k c).past → Err f ≡ reading_of (read_lines s z c)
  blocks_refused {f} q =
      let d = (blocks_of s z.k c).past in
      let r = err_reached d f q in
      let e : zz_past s z c ≡ d = ap (λ (x : Run Entry). x.past) (refused_ends s z.q (length s) 0 0 d r.0) in
      ends_refused d f (ap (λ (x : Cursor). (runs_of s (word_kinds z) x).past) e ∙ words_stay s (word_kinds z) d r.0) q

  module _ {zz : LineStart} (b : Ok zz ≡ reached (blocks_of s z.k c).past) where
    pub zz_refused : {f : SheetRefusal} → Err f ≡ reached (entries_from (length s) s z.q 0 0 (cursor_at zz)).past → Err f ≡ reading_of (read_lines s z c)
    zz_refused {f} q =
        let d = (entries_from (length s) s z.q 0 0 (cursor_at zz)).past in
        let e : zz_past s z c ≡ d = ap (λ (x : Cursor). (entries_from (length s) s z.q 0 0 x).past) (ok_reached (blocks_of s z.k c).past zz b) in
        ends_refused d f (ap (λ (x : Cursor). (runs_of s (word_kinds z) x).past) e ∙ words_stay s (word_kinds z) d (err_reached d f q).0) q

    pub at_words : {zx : LineStart} → Ok zx ≡ reached (entries_from (length s) s z.q 0 0 (cursor_at zz)).past → At s z c (kinds_read z) zx
    at_words {zx} q =
        let d = (entries_from (length s) s z.q 0 0 (cursor_at zz)).past in
        let e : zz_past s z c ≡ cursor_at zx = ap (λ (x : Cursor). (entries_from (length s) s z.q 0 0 x).past) (ok_reached (blocks_of s z.k c).past zz b) ∙ ok_reached d zx q in
        record { same = ap₂ (λ (k : List Kind) (x : Cursor). (runs_of s k x).past) (kinds_same z) e }

module _ {s : List ℕ} {z : Counts} {c : Cursor} where
  module _ {kind : Kind} {kinds : List Kind} {p : LineStart} (a : At s z c (kind ∷ kinds) p) where
    pub words_refused : {f : SheetRefusal} → Err f ≡ reached (words_of s kind (cursor_at p)).past → Err f ≡ reading_of (read_lines s z c)
    unfolding runs_of
    words_refused {f} q =
        let d = (words_of s kind (cursor_at p)).past in
        ends_refused s z c d f (a.same ∙ words_stay s kinds d (err_reached d f q).0) q

    pub past_words : {next : LineStart} → Ok next ≡ reached (words_of s kind (cursor_at p)).past → At s z c kinds next
    unfolding runs_of
    past_words {next} q =
        let d = (words_of s kind (cursor_at p)).past in
        record { same = a.same ∙ ap (λ (x : Cursor). (runs_of s kinds x).past) (ok_reached d next q) }

-- where the runs start and end
pub record Runs (s : List ℕ) (z : Counts) (c zz zx zy xx xy yy end : Cursor) : Type 0 where
  pub blocks : zz ≡ (blocks_of s z.k c).past
  pub entries : zx ≡ (entries_from (length s) s z.q 0 0 zz).past
  pub zx_words : zy ≡ (words_of s (word_kind zx_tag 2 (rows_from (λ i. z.p + 0 * i) 0 z.q)) zx).past
  pub zy_words : xx ≡ (words_of s (word_kind zy_tag 1 (rows_from (λ i. 1 + 0 * i) 0 z.q)) zy).past
  pub xx_words : xy ≡ (words_of s (word_kind xx_tag 2 (rows_from (λ i. 1 + 1 * i) 0 z.p)) xx).past
  pub xy_words : yy ≡ (words_of s (word_kind xy_tag 1 (rows_from (λ i. 1 + 0 * i) 0 z.p)) xy).past
  pub yy_words : end ≡ (words_of s (word_kind yy_tag 0 (rows_from (λ i. 1 + 0 * i) 0 1)) yy).past

module _ {s : List ℕ} {z : Counts} {c zz zx zy xx xy yy end : Cursor} (e : Runs s z c zz zx zy xx xy yy end) where
  pub all_read : {r : Result Starts SheetRefusal} → r
      ≡ reading_at end
      (record {
        counts = z;
        block = c.at;
        zz = zz.at;
        zx = zx.at;
        zy = zy.at;
        xx = xx.at;
        xy = xy.at;
        yy = yy.at;
        end = end.at;
        line = end.line;
      })
      → r ≡ reading_of (read_lines s z c)
  unfolding read_lines runs_of
  all_read h =
      rw read_off
      (cc (h, grid z.p z.q, grid 1 z.q, triangle z.p, grid 1 z.p, one, e.blocks, e.entries, e.zx_words, e.zy_words, e.xx_words, e.xy_words, e.yy_words))

-- ---- the whole sheet
pub too_long : (s : List ℕ) → 16777216 < length s → refused_with 1 0 ≡ reading_of (read_sheet s)
unfolding read_sheet
too_long s h = simp (lt-ltb 16777216 (length s) h)

module _ (s : List ℕ) (z : Size) (short : length s ≤ 16777216) (e : z ≡ size_line s 0) where
  pub no_size : z.next ≡ nowhere → refused_with 2 1 ≡ reading_of (read_sheet s)
  unfolding read_sheet
  no_size h = simp (le-ltb 16777216 (length s) short, ← e, eq-eqb z.next nowhere h)

  pub out_of_range : (w : Bool) → (z.next ≡ nowhere → ⊥) → w ≡ counts_within z.counts → w ≡ false → refused_with 4 1 ≡ reading_of (read_sheet s)
  unfolding read_sheet
  out_of_range w h q v = simp (le-ltb 16777216 (length s) short, ← e, ne_eqb z.next nowhere h, sym q ∙ v)

  pub in_range : (w : Bool) (r : Result Starts SheetRefusal) → (z.next ≡ nowhere → ⊥) → w ≡ counts_within z.counts → w ≡ true
      → r ≡ reading_of (read_lines s z.counts (record { at = z.next; line = 2; number = 0 })) → r ≡ reading_of (read_sheet s)
  unfolding read_sheet
  in_range w r h q v p = simp (le-ltb 16777216 (length s) short, ← e, ne_eqb z.next nowhere h, sym q ∙ v) p

-- ---- the sheet alone
module _ (s : List ℕ) where
  behind : (starts : Starts) (t : Bool) → Ok starts ≡ reading_of (read_sheet s) → eqb starts.end (length s) ≡ t → cond t (Ok starts) (refused_with 2 starts.line) ≡ reading_of (sheet_of s)
  unfolding sheet_of
  behind starts t e u = go (read_sheet s) e
    where
      go : (o : Outcome) → Ok starts ≡ reading_of o → cond t (Ok starts) (refused_with 2 starts.line) ≡ reading_of (alone s o)
      go (accepted sheet found) q = let x : found ≡ starts = cc in rw (x, u) (off t)
        where
          off : (v : Bool) → cond v (Ok starts) (refused_with 2 starts.line) ≡ reading_of (cond v (accepted sheet starts) (refused 2 starts.line))
          off true = refl
          off false = refl
      go (refused number line) q = let x : ◌≡◌ {A = ℕ} 0 1 = cc in absurd (omega arith)

  pub ends_there : (starts : Starts) → Ok starts ≡ reading_of (read_sheet s) → starts.end ≡ length s → Ok starts ≡ reading_of (sheet_of s)
  ends_there starts e h = behind starts true e (eq-eqb starts.end (length s) h)

  pub goes_on : (starts : Starts) → Ok starts ≡ reading_of (read_sheet s) → (starts.end ≡ length s → ⊥) → refused_with 2 starts.line ≡ reading_of (sheet_of s)
  goes_on starts e h = behind starts false e (ne_eqb starts.end (length s) h)

  pub stays_refused : (f : SheetRefusal) → Err f ≡ reading_of (read_sheet s) → Err f ≡ reading_of (sheet_of s)
  unfolding sheet_of
  stays_refused f e = go (read_sheet s) e
    where
      go : (o : Outcome) → Err f ≡ reading_of o → Err f ≡ reading_of (alone s o)
      go (accepted sheet found) q = let x : ◌≡◌ {A = ℕ} 0 1 = cc in absurd (omega arith)
      go (refused m l) q = q
