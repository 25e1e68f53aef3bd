-- THE CLAIM: the reader accepts the text of every sheet in form, and reads that sheet out of it.
use Prim.Native.Nat.{ℕ, ◌+◌, ◌≤◌}
use mathlib.Core.Path.{◌≡◌, refl, sym, ap, ap₂, subst, ◌∙◌}
use mathlib.Core.Bool.{true, false}
use mathlib.Core.List.{List, [], ◌∷◌, ◌++◌}
use native.Mathlib.Omega.{arith}
use lib.ListN.{length, length-append}
use borrow.Author.Tests.{le-ltb, le-leb, eq-eqb}
use Rattle.sheet.specs.declared.Counts.{Counts}
use Rattle.sheet.specs.declared.Line.{Line}
use Rattle.sheet.specs.declared.Starts.{Starts}
use Rattle.sheet.specs.Field.{tag_at}
use Rattle.sheet.specs.Line.{tab, lf, size_tag, zz_tag, zx_tag, zy_tag, xx_tag, xy_tag, yy_tag, in_form, size_line, block_line}
use Rattle.sheet.specs.Run.{Cursor, Block, Entry, Kind, block_in, block_verdict, blocks_of, words_of, runs_of, rows_from, entries_from}
use Rattle.sheet.specs.Sheet.{Sheet, accepted, counts_within, word_lists, word_kinds, outcome_at, read_lines, read_sheet, sheet_of}
use Rattle.sheet.specs.Whole.{Each, Both, InRange, BlockInRange}
use Rattle.factor_output.specs.Print.{number, hexadecimal}
use Rattle.sheet.proofs.Lines.{grid_length}
use Rattle.sheet_text.specs.written.Written.{number_text, word_text, size_text, block_text, pair_text, single_text, bare_text, lines_text, kinds_text, entries_text, words_text, lines_after_size, sheet_text, text_of, Word, WordEach, Numbered, InForm}
use Rattle.sheet_text.proofs.written.Fields.{tab_ends, lf_ends}
use Rattle.sheet_text.proofs.written.Lines.{From, from_drop, from_length, in_form_lem, number_from, tag_from, Reads, block_from, Fits, ReadBack, lines_back, words_back}
use Rattle.sheet_text.proofs.written.Runs.{rows_each, both_each, Sound, kinds_sound, entries_back}

-- ---- the size line
size_from : {s : List ℕ} {at : ℕ} (z : Counts) {rest : List ℕ} → InRange z → From s at (size_text z rest) → ((size_line s at).counts ≡ z) × From s (size_line s at).next rest
unfolding size_line
size_from z h f =
    let n = number_from z.n tab tab_ends (omega (arith, h.n.1)) (tag_from size_tag f) in
    let p = number_from z.p tab tab_ends (omega (arith, h.p.1)) n.1 in
    let q = number_from z.q tab tab_ends (omega (arith, h.q)) p.1 in
    let k = number_from z.k tab tab_ends (omega (arith, h.k)) q.1 in
    let g = number_from z.flag lf lf_ends (omega (arith, h.flag)) k.1 in
    (rw (n.0, p.0, q.0, k.0, g.0), g.1)

within_true : (z : Counts) → InRange z → counts_within z ≡ true
within_true z h =
    rw (le-leb 1 z.n h.n.0, le-leb z.n 1000000000 h.n.1, le-leb 1 z.p h.p.0, le-leb z.p 32 h.p.1, le-leb 0 z.q (omega arith), le-leb z.q 524280 h.q, le-leb 0 z.k (omega arith), le-leb z.k 8 h.k, le-leb 0 z.flag (omega arith), le-leb z.flag 1 h.flag)

-- ---- block lines
block_passes : (s : List ℕ) (short : length s ≤ 16777216) (i : ℕ × ℕ) (b : Block) (l : Line) {rest : List ℕ} → BlockInRange b → Reads s l b.m b.e 0 rest
    → block_verdict i l ≡ 0
block_passes s short i b l h r =
    rw (in_form_lem short r.past, r.first, r.second, le-leb 1 b.m h.m.0, le-leb b.m 65535 h.m.1, le-leb 1 b.e h.e.0, le-leb b.e 16 h.e.1)

block_same : (b : Block) (n : ℕ) (l : Line) → l.first ≡ b.m → l.second ≡ b.e → block_in n l ≡ b
block_same b n l x y = rw (x, y)

-- ---- what follows the zz lines is no zz line
abbrev Other : List ℕ → Type 0
Other l = (at : ℕ) → in_form (tag_at zz_tag at l).next ≡ false

lines_other : (line : ℕ × ℕ → ℕ → List ℕ → List ℕ) → ((i : ℕ × ℕ) (w : ℕ) (rest : List ℕ) → Other (line i w rest))
    → (is : List (ℕ × ℕ)) (ws rest : List ℕ) → Other rest → Other (lines_text line is ws rest)
unfolding lines_text
lines_other line o [] ws rest h = h
lines_other line o (i ∷ is) [] rest h = h
lines_other line o (i ∷ is) (w ∷ ws) rest h = o i w _

last_other : (w : ℕ) (rest : List ℕ) → Other (lines_text (bare_text yy_tag) ((0, 0) ∷ []) (w ∷ []) rest)
unfolding tag_at lines_text
last_other w rest at = refl

words_other : (s : Sheet) (rest : List ℕ) → Other (words_text s rest)
unfolding tag_at
words_other s rest =
    lines_other (pair_text zx_tag) (λ i w r at. refl) _ s.zx _
    (lines_other (single_text zy_tag) (λ i w r at. refl) _ s.zy _
    (lines_other (pair_text xx_tag) (λ i w r at. refl) _ s.xx _ (lines_other (single_text xy_tag) (λ i w r at. refl) _ s.xy _ (last_other s.yy rest))))

-- ---- as many bytes as entries
tail_short : (l r : List ℕ) → length r ≤ length (l ++ r)
tail_short l r = omega (arith, length-append l r)

entries_short : (es : List Entry) (rest : List ℕ) → length es ≤ length (entries_text es rest)
unfolding entries_text
entries_short [] rest = omega arith
entries_short (e ∷ es) rest =
    let r = entries_text es rest in
    omega (arith, entries_short es rest, tail_short (hexadecimal 16 e.word) (lf ∷ r), tail_short (number e.row) (tab ∷ word_text e.word r), tail_short (number e.col) (tab ∷ number_text e.row tab (word_text e.word r)))

outcome_at_lem : (c : Cursor) (a sheet : Sheet) (b : Starts) → c.number ≡ 0 → a ≡ sheet → outcome_at c a b ≡ accepted sheet b
outcome_at_lem c a sheet b e h = rw (eq-eqb c.number 0 e, h)

-- ---- the runs of a sheet, wherever they stand in the bytes
module _ (s : List ℕ) (short : length s ≤ 16777216) where
  blocks_back : (k : ℕ) (bs : List Block) (c : Cursor) (rest : List ℕ) → length bs ≡ k → Each BlockInRange bs → c.number ≡ 0
      → From s c.at (lines_text block_text (rows_from (λ r. 1) 0 k) bs rest) → ReadBack s (blocks_of s k c) bs c.line rest
  blocks_back k bs c rest e h =
      lines_back s (block_line s) block_verdict block_in block_text (λ i b. Unit {0} × BlockInRange b)
      (λ n at i b rest q f.
      let r = block_from i b (omega (arith, q.1.m)) (omega (arith, q.1.e)) f in
      (block_passes s short i b (block_line s at) q.1 r, block_same b n (block_line s at) r.first r.second, r.past))
      (rows_from (λ r. 1) 0 k) bs c rest
      (both_each (λ i. Unit {0}) BlockInRange (rows_from (λ r. 1) 0 k) bs (omega (arith, grid_length 1 0 k)) (rows_each (λ r. 1) k (λ i. Unit {0}) (λ i x y. tt)) h)

  kinds_back : (kinds : List Kind) (words : List (List ℕ)) (c : Cursor) (rest : List ℕ) → Each Sound kinds
      → Both WordEach kinds words → c.number ≡ 0 → From s c.at (kinds_text kinds words rest)
      → let r = runs_of s kinds c in (r.words ≡ words) × (r.past.number ≡ 0) × From s r.past.at rest
  unfolding runs_of
  kinds_back [] [] c rest k h e f = (refl, e, f)
  kinds_back [] (ws ∷ words) c rest k h e f = absurd h
  kinds_back (kind ∷ kinds) [] c rest k h e f = absurd h
  kinds_back (kind ∷ kinds) (ws ∷ words) c rest k h e f =
      let b = words_back s short kind ws c _ (both_each (Fits kind.numbers) Word kind.indexes ws (sym h.0.0) k.0.1 h.0.1) e f in
      let m = kinds_back kinds words (words_of s kind c).past rest k.1 h.1 b.number b.past in
      (ap₂ (λ (x : List ℕ) (y : List (List ℕ)). x ∷ y) b.items m.0, m.1, m.2)

  -- the lines after the size line
  lines_read : (sheet : Sheet) (at : ℕ) (rest : List ℕ) → InForm sheet → From s at (lines_after_size sheet rest)
      → (starts : Starts) × (read_lines s sheet.counts (record { at = at; line = 2; number = 0 }) ≡ accepted sheet starts) × From s starts.end rest
  unfolding read_lines
  lines_read sheet at rest h f =
      let z = sheet.counts in
      let c : Cursor = record { at = at; line = 2; number = 0 } in
      let blocks = blocks_of s z.k c in
      let zz = entries_from (length s) s z.q 0 0 blocks.past in
      let runs = runs_of s (word_kinds z) zz.past in
      let b = blocks_back z.k sheet.blocks c _ h.blocks_length h.blocks refl f in
      let line : z.k + 2 ≡ blocks.past.line = omega (arith, b.line, h.blocks_length) in
      let e =
      entries_back s short z.q h.counts.q sheet.zz (length s) blocks.past (words_text sheet rest)
      (omega (arith, entries_short sheet.zz (words_text sheet rest), from_length b.past))
      b.number h.zz h.zz_words (subst (λ (n : ℕ). Numbered n sheet.zz) line h.zz_lines) h.zz_rising
      (λ at g. ap (λ (l : List ℕ). in_form (tag_at zz_tag at l).next) (from_drop g) ∙ words_other sheet rest at)
      b.past in
      let w = kinds_back (word_kinds z) (word_lists sheet) zz.past rest (kinds_sound z h.counts) h.words e.number e.past in
      (_, outcome_at_lem runs.past _ sheet _ w.1 (rw (b.items, e.items, w.0)), w.2)

  read_at : (sheet : Sheet) (rest : List ℕ) → InForm sheet → From s 0 (sheet_text sheet rest)
      → (starts : Starts) × (read_sheet s ≡ accepted sheet starts) × From s starts.end rest
  unfolding read_sheet
  read_at sheet rest h f =
      let size = size_from sheet.counts h.counts f in
      let r = lines_read sheet (size_line s 0).next rest h size.1 in
      (r.0, rw (le-ltb 16777216 (length s) short, in_form_lem short size.1, size.0, within_true sheet.counts h.counts) r.1, r.2)

-- ---- a sheet and what follows it; and a sheet alone
pub written_before : (sheet : Sheet) (rest : List ℕ) → InForm sheet → length (sheet_text sheet rest) ≤ 16777216
    → let s = sheet_text sheet rest in (starts : Starts) × (read_sheet s ≡ accepted sheet starts) × From s starts.end rest
written_before sheet rest h short = read_at (sheet_text sheet rest) short sheet rest h (record { front = []; so = refl; long = refl })

pub written_read : (sheet : Sheet) → InForm sheet → length (text_of sheet) ≤ 16777216 → (starts : Starts) × (sheet_of (text_of sheet) ≡ accepted sheet starts)
unfolding sheet_of
written_read sheet h short =
    let r = written_before sheet [] h short in
    (r.0, rw r.1 (rw (eq-eqb r.0.end (length (text_of sheet)) (omega (arith, from_length r.2)))))
