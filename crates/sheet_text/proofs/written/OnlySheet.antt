-- THE CLAIM: what the reader accepts is the text of a sheet in form, the sheet that it reads.
use Prim.Native.Nat.{ℕ, zero, suc, ◌+◌, ◌^◌, ◌≤◌, ◌<◌}
use mathlib.Core.Path.{◌≡◌, refl, sym, ap, subst, ◌∙◌}
use mathlib.Core.Bool.{Bool, true, false, ◌&&◌, cond}
use mathlib.Core.List.{List, [], ◌∷◌}
use native.Mathlib.Omega.{arith}
use lib.ListN.{length, drop, drop_of_length-le}
use lib.Dec.{ltb, eqb}
use borrow.Author.Tests.{ltb-true, ltb-false, eqb-true}
use Rattle.sheet.specs.declared.Counts.{Counts}
use Rattle.sheet.specs.declared.Line.{Line}
use Rattle.sheet.specs.declared.Starts.{Starts}
use Rattle.sheet.specs.Line.{zz_tag, tag_to, in_form, size_line, block_line, pair_line, word_line}
use Rattle.sheet.specs.Run.{Cursor, Block, Entry, Kind, Run, ended, before, pass_of, lines_of, entry_in, not_before, entry_tests, entry_verdict, entries_from, block_in, block_tests, block_verdict, is_between, word_in, prescribed_tests, prescribed_verdict, blocks_of, kind_line, words_of, runs_of, rows_from}
use Rattle.sheet.specs.Sheet.{Sheet, accepted, refused, size_tests, size_verdict, word_kinds, read_lines, after_size, read_sheet, sheet_of}
use Rattle.sheet.specs.Whole.{Each, Both, InRange, Finite, Whole}
use Rattle.sheet.proofs.Lines.{both, between, in_order_lem, passed, ran, lines_length, grid_length}
use Rattle.sheet.proofs.Entries.{listed}
use Rattle.sheet.proofs.Opened.{blocks_run, zz_run, sheet_read, opened}
use Rattle.sheet.proofs.Whole.{ran_kinds, counts_in_range, not_accepted, read_whole, alone_read}
use Rattle.sheet_text.specs.written.Written.{size_text, block_text, pair_text, kind_text, lines_text, kinds_text, entries_text, words_text, lines_after_size, sheet_text, text_of, Word, WordEach, Numbered, InForm}
use Rattle.sheet_text.proofs.written.Lines.{From, from_drop, Fits}
use Rattle.sheet_text.proofs.written.Runs.{Within, rows_within, Sound, kinds_sound}
use Rattle.sheet_text.proofs.written.OnlyLines.{from_here, pair_at, single_at, bare_at, block_at, size_at}

-- ---- a run of lines
-- from `at` to `to` stands what is written for xs, each with W
pub record Stands {A : Type 0} (s : List ℕ) (text : List A → List ℕ → List ℕ) (W : A → Type 0) (at to : ℕ) (xs : List A) : Type 0 where
  pub so : From s at (text xs (drop to s))
  pub within : to ≤ length s
  pub each : Each W xs

-- what follows is known
follow : {A : Type 0} {s : List ℕ} {text : List A → List ℕ → List ℕ} {W : A → Type 0} {at to : ℕ} {xs : List A} {l : List ℕ}
    → Stands s text W at to xs → From s to l → From s at (text xs l)
follow {s} {text} {at} {xs} f g = subst (λ (x : List ℕ). From s at (text xs x)) (from_drop g) f.so

module _ {A : Type 0} (s : List ℕ) (read : ℕ → Line) (verdict : ℕ × ℕ → Line → ℕ) (keep : ℕ → Line → A) (line : ℕ × ℕ → A → List ℕ → List ℕ)
    (P : ℕ × ℕ → Type 0) (W : A → Type 0)
    (one : (n at : ℕ) (i : ℕ × ℕ) → P i → verdict i (read at) ≡ 0
    → From s at (line i (keep n (read at)) (drop (read at).next s)) × ((read at).next ≤ length s) × W (keep n (read at))) where
  pub lines_only : (is : List (ℕ × ℕ)) (c : Cursor) → Each P is → c.at ≤ length s → (lines_of read verdict keep is c).past.number ≡ 0
      → Stands s (lines_text line is) W c.at (lines_of read verdict keep is c).past.at (lines_of read verdict keep is c).items
  unfolding lines_of lines_text
  lines_only [] c b h e = record { so = from_here s c.at h; within = h; each = tt }
  lines_only (i ∷ is) c b h e =
      let l = read c.at in
      let d = pass_of c (verdict i l) l.next in
      let p = passed c (verdict i l) l.next (ran read verdict keep is d e).open_before in
      let o = one c.line c.at i b.0 p.verdict in
      let next : d.at ≡ l.next = ap (λ (x : Cursor). x.at) p.after in
      let m = lines_only is d b.1 (omega (arith, o.1)) e in
      record {
        so = subst (λ (x : List ℕ). From s c.at (line i (keep c.line l) x)) (ap (λ (n : ℕ). drop n s) (sym next) ∙ from_drop m.so) o.0;
        within = m.within;
        each = (o.2, m.each);
      }

-- ---- words whose indexes are prescribed
prescribed_says : (i : ℕ × ℕ) (l : Line) → prescribed_verdict i l ≡ 0 → (in_form l.next ≡ true) × (l.first ≡ i.0) × (l.second ≡ i.1) × Finite l.word
prescribed_says i l v =
    let o = in_order_lem (prescribed_tests i l) refl v in
    let x = both _ (eqb l.second i.1) o.0 in
    let y = both (in_form l.next) (eqb l.first i.0) x.0 in
    (y.0, eqb-true _ _ y.1, eqb-true _ _ x.1, o.1.0)

module _ (s : List ℕ) (short : length s ≤ 16777216) where
  kind_at : (numbers : ℕ) (t : List ℕ) (at : ℕ) (i : ℕ × ℕ) → 0 < length t → Fits numbers i → let l = word_line numbers t s at in
      in_form l.next ≡ true → l.first ≡ i.0 → l.second ≡ i.1
      → From s at (kind_text numbers t i l.word (drop l.next s)) × (l.next ≤ length s) × (l.word < 2 ^ 64)
  kind_at zero t at i long fit h a b = bare_at s short t at long h
  kind_at (suc zero) t at i long fit h a b = rw (sym a) (single_at s short t at long h (omega (arith, fit.0)))
  kind_at (suc (suc n)) t at i long fit h a b = rw (sym a, sym b) (pair_at s short t at long h (omega (arith, fit.0)) (omega (arith, fit.1)))

  kinds_only : (kinds : List Kind) (c : Cursor) → Each Sound kinds → c.at ≤ length s → (runs_of s kinds c).past.number ≡ 0 → let r = runs_of s kinds c in
      From s c.at (kinds_text kinds r.words (drop r.past.at s)) × (r.past.at ≤ length s)
      × Both WordEach kinds r.words
  unfolding runs_of
  kinds_only [] c k h e = (from_here s c.at h, h, tt)
  kinds_only (kind ∷ kinds) c k h e =
      let d = (words_of s kind c).past in
      let f =
      lines_only s (kind_line kind s) prescribed_verdict word_in (kind_text kind.numbers kind.tag) (Fits kind.numbers) Word
      (λ n at i p v.
      let g = prescribed_says i (kind_line kind s at) v in
      let o = kind_at kind.numbers kind.tag at i k.0.0 p g.0 g.1 g.2 in
      (o.0, o.1, (o.2, g.3)))
      kind.indexes c k.0.1 h (ran_kinds s kinds d e).open_before in
      let m = kinds_only kinds d k.1 f.within e in
      (follow f m.0, m.1, ((lines_length (kind_line kind s) prescribed_verdict word_in kind.indexes c, f.each), m.2))

  blocks_only : (k : ℕ) (c : Cursor) → c.at ≤ length s → (blocks_of s k c).past.number ≡ 0
      → Stands s (lines_text block_text (rows_from (λ r. 1) 0 k)) (λ (b : Block). Unit {0}) c.at (blocks_of s k c).past.at (blocks_of s k c).items
  blocks_only k c =
      lines_only s (block_line s) block_verdict block_in block_text (Within (λ r. 1) k) (λ (b : Block). Unit {0})
      (λ n at i p v.
      let l = block_line s at in
      let w = in_order_lem (block_tests l) refl v in
      let x = both (is_between 1 l.first 65535) (is_between 1 l.second 16) w.1.0 in
      let o = block_at s short i at w.0 (omega (arith, (between 1 l.first 65535 x.0).1)) (omega (arith, (between 1 l.second 16 x.1).1)) in
      (o.0, o.1, tt))
      (rows_from (λ r. 1) 0 k) c (rows_within (λ r. 1) k 0 k (omega arith))

  -- ---- zz lines
  record StandsFrom (c : Cursor) (run : Run Entry) : Type 0 where
    stands : Stands s entries_text (λ (e : Entry). Word e.word) c.at run.past.at run.items
    numbered : Numbered c.line run.items

  entries_only : (q left col row : ℕ) (c : Cursor) → q ≤ 524280 → c.at ≤ length s → (entries_from left s q col row c).past.number ≡ 0
      → StandsFrom c (entries_from left s q col row c)
  unfolding entries_from entries_text
  entries_only q zero col row c few h e = record { stands = record { so = from_here s c.at h; within = h; each = tt }; numbered = tt }
  entries_only q (suc left) col row c few h e =
      let l = pair_line zz_tag s c.at in
      let d = pass_of c (entry_verdict q col row l) l.next in
      go (entries_only q left l.first (l.second + 1) d few) (eqb c.number 0 && in_form (tag_to zz_tag s c.at).next) e
    where
      go : let l = pair_line zz_tag s c.at in
          let d = pass_of c (entry_verdict q col row l) l.next in
          let more = entries_from left s q l.first (l.second + 1) d in
          let run = before (entry_in c.line l) more in
          (d.at ≤ length s → more.past.number ≡ 0 → StandsFrom d more) → (t : Bool) → (cond t run (ended c)).past.number ≡ 0 → StandsFrom c (cond t run (ended c))
      go rest true g =
          let l = pair_line zz_tag s c.at in
          let v = entry_verdict q col row l in
          let d = pass_of c v l.next in
          let p = passed c v l.next (listed s q left l.first (l.second + 1) d g).open_before in
          let o = in_order_lem (entry_tests q col row l) refl p.verdict in
          let w = both (ltb l.first q) (ltb l.second q) o.1.1.0 in
          let a = ltb-true l.first q w.0 in
          let b = ltb-true l.second q w.1 in
          let x = pair_at s short zz_tag c.at (omega arith) (both (in_form l.next) (not_before col row l.first l.second) o.0).0 (omega arith) (omega arith) in
          let next : d.at ≡ l.next = ap (λ (y : Cursor). y.at) p.after in
          let m = rest (omega (arith, x.1)) g in
          record {
            stands = record {
              so = subst (λ (y : List ℕ). From s c.at (pair_text zz_tag (l.first, l.second) l.word y)) (ap (λ (n : ℕ). drop n s) (sym next) ∙ from_drop m.stands.so) x.0;
              within = m.stands.within;
              each = ((x.2, o.1.0), m.stands.each);
            };
            numbered = (refl, subst (λ (n : ℕ). Numbered n (entries_from left s q l.first (l.second + 1) d).items) (ap (λ (y : Cursor). y.line) p.after) m.numbered);
          }
      go rest false g = record { stands = record { so = from_here s c.at h; within = h; each = tt }; numbered = tt }

  -- ---- the lines after the size line
  lines_text_lem : (z : Counts) (at : ℕ) (sheet : Sheet) (starts : Starts) → InRange z → at ≤ length s
      → read_lines s z (record { at = at; line = 2; number = 0 }) ≡ accepted sheet starts → Whole s sheet starts
      → From s at (lines_after_size sheet (drop starts.end s)) × InForm sheet × (z ≡ sheet.counts) × (starts.end ≤ length s)
  unfolding runs_of lines_of
  lines_text_lem z at sheet starts h here e whole =
      let c : Cursor = record { at = at; line = 2; number = 0 } in
      let o = opened s z at sheet starts e in
      let blocks = blocks_run s z at in
      let zz = zz_run s z at in
      let r = ran_kinds s (word_kinds z) zz.past o.0 in
      let rz = listed s z.q (length s) 0 0 blocks.past r.open_before in
      let rb = ran (block_line s) block_verdict block_in (rows_from (λ r. 1) 0 z.k) c rz.open_before in
      let s1 = blocks_only z.k c here rz.open_before in
      let s2 = entries_only z.q (length s) 0 0 blocks.past h.q s1.within r.open_before in
      let s3 = kinds_only (word_kinds z) zz.past (kinds_sound z h) s2.stands.within o.0 in
      let shape = (subst (λ (x : Sheet). Whole s x starts) (sym o.1) whole).shape in
      let line : blocks.past.line ≡ z.k + 2 = omega (arith, rb.line, grid_length 1 0 z.k) in
      subst (λ (x : Sheet). From s at (lines_after_size x (drop starts.end s)) × InForm x × (z ≡ x.counts) × (starts.end ≤ length s)) o.1 (
        follow s1 (follow s2.stands (subst (λ (x : Starts). From s zz.past.at (words_text (sheet_read s z at) (drop x.end s))) o.2 s3.0)),
        record {
          counts = h;
          blocks = shape.blocks;
          blocks_length = shape.blocks_length;
          zz = shape.zz;
          zz_words = s2.stands.each;
          zz_rising = shape.zz_rising;
          zz_lines = subst (λ (n : ℕ). Numbered n zz.items) line s2.numbered;
          words = s3.2;
        },
        refl,
        subst (λ (x : Starts). x.end ≤ length s) o.2 s3.1,
      )

-- ---- a sheet and what follows it; and a sheet alone
pub read_before : (s : List ℕ) (sheet : Sheet) (starts : Starts) → read_sheet s ≡ accepted sheet starts → (s ≡ sheet_text sheet (drop starts.end s)) × InForm sheet × (starts.end ≤ length s)
unfolding read_sheet
read_before s sheet starts e =
    go (ltb 16777216 (length s)) (size_verdict (size_line s 0)) refl refl e (read_whole s sheet starts e)
  where
    go : (t : Bool) (v : ℕ) → ltb 16777216 (length s) ≡ t → size_verdict (size_line s 0) ≡ v
        → cond t (refused 1 0) (after_size v s (size_line s 0)) ≡ accepted sheet starts → Whole s sheet starts
        → (s ≡ sheet_text sheet (drop starts.end s)) × InForm sheet × (starts.end ≤ length s)
    go true v u w g whole = absurd (not_accepted 1 0 sheet starts g)
    go false (suc v) u w g whole = absurd (not_accepted (suc v) 1 sheet starts g)
    go false zero u w g whole =
        let z = (size_line s 0).counts in
        let short = ltb-false 16777216 (length s) u in
        let o = in_order_lem (size_tests (size_line s 0)) refl w in
        let h = counts_in_range z o.1.0 in
        let x = size_at s short 0 o.0 (omega (arith, h.n.1)) (omega (arith, h.p.1)) (omega (arith, h.q)) (omega (arith, h.k)) (omega (arith, h.flag)) in
        let l = lines_text_lem s short z (size_line s 0).next sheet starts h x.1 g whole in
        let rest = lines_after_size sheet (drop starts.end s) in
        let f : From s 0 (size_text z rest) = subst (λ (y : List ℕ). From s 0 (size_text z y)) (from_drop l.0) x.0 in
        (from_drop (subst (λ (y : Counts). From s 0 (size_text y rest)) l.2 f), l.1, l.3)

pub read_written : (s : List ℕ) (sheet : Sheet) (starts : Starts) → sheet_of s ≡ accepted sheet starts → (s ≡ text_of sheet) × InForm sheet
read_written s sheet starts e =
    let r = alone_read s sheet starts e in
    let t = read_before s sheet starts r.0 in
    let all : length s ≤ starts.end = omega (arith, r.1) in
    let none : drop starts.end s ≡ [] = drop_of_length-le s all in
    (t.0 ∙ ap (sheet_text sheet) none, t.1)
