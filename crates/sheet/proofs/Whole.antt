-- An accepted sheet is whole: it has its ranges, lengths and number of lines, rising zz lines, and its words where its lines start.
use Prim.Native.Nat.{ℕ, zero, suc, ◌+◌, ◌*◌, ◌/◌, ◌≤◌}
use mathlib.Core.Path.{◌≡◌, refl, sym, ◌∙◌, ap, subst}
use mathlib.Core.Bool.{Bool, true, false, cond}
use mathlib.Core.List.{List, [], ◌∷◌}
use native.Mathlib.Omega.{arith}
use borrow.Author.Tests.{ltb-false, eqb-true}
use lib.Dec.{ltb, eqb}
use lib.ListN.{length, get_or}
use Rattle.sheet.specs.declared.Counts.{Counts}
use Rattle.sheet.specs.declared.Line.{Line}
use Rattle.sheet.specs.declared.Starts.{Starts}
use Rattle.sheet.specs.Line.{zz_tag, size_line, block_line, pair_line}
use Rattle.sheet.specs.Run.{Cursor, Kind, is_between, block_in, entry_in, word_in, prescribed_tests, prescribed_verdict, block_tests, block_verdict, kind_line, words_of, runs_of, lines_of, rows_from, kept_from, past_from}
use Rattle.sheet.specs.Sheet.{Sheet, Outcome, accepted, refused, counts_within, size_tests, size_verdict, word_kinds, read_lines, after_size, read_sheet, sheet_of, alone}
use Rattle.sheet.specs.Whole.{InRange, BlockInRange, Finite, lines_in, RunsPlaced, Whole}
use Rattle.sheet.proofs.Lines.{both, between, in_order_lem, ran, each, lines_length, grid_length, triangle_length}
use Rattle.sheet.proofs.Entries.{listed}
use Rattle.sheet.proofs.Opened.{blocks_run, zz_run, sheet_read, opened}

-- ---- one run of words
any_line : (read : ℕ → Line) (n line at : ℕ) → kept_from read word_in n line at ≡ kept_from read word_in n 0 at
unfolding kept_from
any_line read zero line at = refl
any_line read (suc n) line at = ap (λ (l : List ℕ). (read at).word ∷ l) (any_line read n (line + 1) (read at).next ∙ sym (any_line read n (0 + 1) (read at).next))

word_finite : (i : ℕ × ℕ) (line : ℕ) (l : Line) → prescribed_verdict i l ≡ 0 → Finite (word_in line l)
word_finite i line l v = (in_order_lem (prescribed_tests i l) refl v).1.0

-- ---- kinds of words, one after the other
pub record RanKinds (s : List ℕ) (kinds : List Kind) (c : Cursor) : Type 0 where
  pub open_before : c.number ≡ 0
  pub line : (runs_of s kinds c).past.line ≡ c.line + lines_in kinds
  pub placed : RunsPlaced s kinds (runs_of s kinds c).places (runs_of s kinds c).words

first_place : (s : List ℕ) (kinds : List Kind) (c : Cursor) → get_or (runs_of s kinds c).places 0 0 ≡ c.at
unfolding runs_of
first_place s [] c = refl
first_place s (kind ∷ kinds) c = refl

pub ran_kinds : (s : List ℕ) (kinds : List Kind) (c : Cursor) → (runs_of s kinds c).past.number ≡ 0 → RanKinds s kinds c
unfolding runs_of
ran_kinds s [] c e = record { open_before = e; line = omega arith; placed = tt }
ran_kinds s (kind ∷ kinds) c e =
    let is = kind.indexes in
    let read = kind_line kind s in
    let run = words_of s kind c in
    let m = ran_kinds s kinds run.past e in
    let r = ran read prescribed_verdict word_in is c m.open_before in
    let k : length run.items ≡ length is = lines_length read prescribed_verdict word_in is c in
    record {
      open_before = r.open_before;
      line = omega (arith, m.line, r.line);
      placed = (
        record {
          count = k;
          finite = each read prescribed_verdict word_in Finite word_finite is c m.open_before;
          kept = r.items ∙ any_line read (length is) c.line c.at ∙ ap (λ (n : ℕ). kept_from read word_in n 0 c.at) (sym k);
          end = first_place s kinds run.past ∙ r.at ∙ ap (λ (n : ℕ). past_from read n c.at) (sym k);
        },
        m.placed,
      );
    }

block_in_range : (i : ℕ × ℕ) (line : ℕ) (l : Line) → block_verdict i l ≡ 0 → BlockInRange (block_in line l)
block_in_range i line l v =
    let x = both (is_between 1 l.first 65535) (is_between 1 l.second 16) (in_order_lem (block_tests l) refl v).1.0 in
    record { m = between 1 l.first 65535 x.0; e = between 1 l.second 16 x.1 }

pub counts_in_range : (z : Counts) → counts_within z ≡ true → InRange z
counts_in_range z e =
    let flag = both _ (is_between 0 z.flag 1) e in
    let k = both _ (is_between 0 z.k 8) flag.0 in
    let q = both _ (is_between 0 z.q 524280) k.0 in
    let p = both (is_between 1 z.n 1000000000) (is_between 1 z.p 32) q.0 in
    record {
      n = between 1 z.n 1000000000 p.0;
      p = between 1 z.p 32 p.1;
      q = (between 0 z.q 524280 q.1).1;
      k = (between 0 z.k 8 k.1).1;
      flag = (between 0 z.flag 1 flag.1).1;
    }

-- ---- the lines after the size line
lines_whole : (s : List ℕ) (z : Counts) (at : ℕ) (sheet : Sheet) (starts : Starts) → length s ≤ 16777216 → InRange z
    → read_lines s z (record { at = at; line = 2; number = 0 }) ≡ accepted sheet starts → Whole s sheet starts
unfolding runs_of lines_of
lines_whole s z at sheet starts short h e =
    let c : Cursor = record { at = at; line = 2; number = 0 } in
    let o = opened s z at sheet starts e in
    let blocks = blocks_run s z at in
    let zz = zz_run s z at in
    let r = ran_kinds s (word_kinds z) zz.past o.0 in
    let rzz = listed s z.q (length s) 0 0 blocks.past r.open_before in
    let is = rows_from (λ r. 1) 0 z.k in
    let rb = ran (block_line s) block_verdict block_in is c rzz.open_before in
    let k : length is ≡ z.k = omega (arith, grid_length 1 0 z.k) in
    let lb : blocks.past.line ≡ z.k + 2 = omega (arith, rb.line) in
    subst (λ (x : Sheet). Whole s x starts) o.1
    (subst (λ (x : Starts). Whole s (sheet_read s z at) x) o.2
    (record {
      short = short;
      shape = record {
        same_counts = refl;
        counts = h;
        blocks = each (block_line s) block_verdict block_in BlockInRange block_in_range is c rzz.open_before;
        blocks_length = lines_length (block_line s) block_verdict block_in is c ∙ k;
        zz = rzz.within;
        zz_rising = rzz.rising;
        lines = omega (arith, r.line, rzz.line);
      };
      placed = record {
        blocks = rb.items ∙ ap (λ (n : ℕ). kept_from (block_line s) block_in n 2 at) k;
        blocks_end = rb.at ∙ ap (λ (n : ℕ). past_from (block_line s) n at) k;
        zz = rzz.items ∙ ap (λ (n : ℕ). kept_from (pair_line zz_tag s) entry_in (length zz.items) n blocks.past.at) lb;
        zz_end = rzz.at;
        words = r.placed;
      };
    }))

-- how many words each kind has, and the number of lines
module _ {s : List ℕ} {sheet : Sheet} {starts : Starts} (h : Whole s sheet starts) where
  pub zx_length : length sheet.zx ≡ sheet.counts.q * sheet.counts.p
  zx_length = h.placed.words.0.count ∙ grid_length sheet.counts.p 0 sheet.counts.q

  pub zy_length : length sheet.zy ≡ sheet.counts.q
  zy_length = h.placed.words.1.0.count ∙ omega (arith, grid_length 1 0 sheet.counts.q)

  pub xx_length : length sheet.xx ≡ sheet.counts.p * (sheet.counts.p + 1) / 2
  xx_length = h.placed.words.1.1.0.count ∙ triangle_length sheet.counts.p

  pub xy_length : length sheet.xy ≡ sheet.counts.p
  xy_length = h.placed.words.1.1.1.0.count ∙ omega (arith, grid_length 1 0 sheet.counts.p)

  pub all_lines : starts.line
      ≡ 3 + sheet.counts.k + length sheet.zz + sheet.counts.q * sheet.counts.p + sheet.counts.q
      + sheet.counts.p * (sheet.counts.p + 1) / 2 + sheet.counts.p
  all_lines =
      let p = sheet.counts.p in
      let q = sheet.counts.q in
      omega (arith, h.shape.lines, grid_length p 0 q, grid_length 1 0 q, triangle_length p, grid_length 1 0 p)

-- ---- the sheet
pub not_accepted : (number line : ℕ) (sheet : Sheet) (starts : Starts) → refused number line ≡ accepted sheet starts → ⊥
not_accepted number line sheet starts e = let z : ◌≡◌ {A = ℕ} 0 1 = cc in omega arith

-- THE CLAIM: a sheet that is read, whatever stands behind it, is whole.
pub read_whole : (s : List ℕ) (sheet : Sheet) (starts : Starts) → read_sheet s ≡ accepted sheet starts → Whole s sheet starts
unfolding read_sheet
read_whole s sheet starts e = go (ltb 16777216 (length s)) (size_verdict (size_line s 0)) refl refl e
  where
    go : (t : Bool) (v : ℕ) → ltb 16777216 (length s) ≡ t → size_verdict (size_line s 0) ≡ v
        → cond t (refused 1 0) (after_size v s (size_line s 0)) ≡ accepted sheet starts → Whole s sheet starts
    go true v u w g = absurd (not_accepted 1 0 sheet starts g)
    go false zero u w g =
        lines_whole s (size_line s 0).counts (size_line s 0).next sheet starts (ltb-false _ _ u)
        (counts_in_range _ (in_order_lem (size_tests (size_line s 0)) refl w).1.0) g
    go false (suc v) u w g = absurd (not_accepted (suc v) 1 sheet starts g)

-- what load accepts is read, and ends with its yy line
pub alone_read : (s : List ℕ) (sheet : Sheet) (starts : Starts) → sheet_of s ≡ accepted sheet starts → (read_sheet s ≡ accepted sheet starts) × (starts.end ≡ length s)
unfolding sheet_of
alone_read s sheet starts e = go (read_sheet s) refl e
  where
    ends : (a : Sheet) (b : Starts) (t : Bool) → eqb b.end (length s) ≡ t → cond t (accepted a b) (refused 2 b.line) ≡ accepted sheet starts → (accepted a b ≡ accepted sheet starts) × (starts.end ≡ length s)
    ends a b true u g = let x : b ≡ starts = cc in (g, subst (λ (y : Starts). y.end ≡ length s) x (eqb-true _ _ u))
    ends a b false u g = absurd (not_accepted 2 b.line sheet starts g)

    go : (o : Outcome) → read_sheet s ≡ o → alone s o ≡ accepted sheet starts → (read_sheet s ≡ accepted sheet starts) × (starts.end ≡ length s)
    go (accepted a b) u g = let r = ends a b (eqb b.end (length s)) refl g in (u ∙ r.0, r.1)
    go (refused number line) u g = absurd (not_accepted number line sheet starts g)
