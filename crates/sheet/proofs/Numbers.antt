-- Reading refuses with 1 and no line, or with 2, 3 or 4 and a line.
use Prim.Native.Nat.{ℕ, zero, suc, ◌+◌, ◌≤◌, ◌<◌}
use mathlib.Core.Path.{◌≡◌, refl, sym, ◌∙◌, subst}
use mathlib.Core.Logic.{◌⊎◌, inl, inr}
use mathlib.Core.Bool.{Bool, true, false, not, ◌&&◌, cond}
use mathlib.Core.List.{List, [], ◌∷◌}
use native.Mathlib.Omega.{arith}
use borrow.Author.Tests.{eqb-false, lt-ltb}
use lib.Dec.{ltb, eqb}
use lib.ListN.{length}
use Rattle.sheet.specs.declared.Counts.{Counts}
use Rattle.sheet.specs.declared.Starts.{Starts}
use Rattle.sheet.specs.Line.{zz_tag, tag_to, in_form, size_line, block_line, pair_line, Test, verdict_of}
use Rattle.sheet.specs.Run.{Cursor, Kind, ended, before, entry_in, is_between, block_in, word_in, prescribed_tests, prescribed_verdict, block_tests, block_verdict, entry_tests, entry_verdict, blocks_of, entries_from, kind_line, words_of, runs_of, rows_from, pass_of}
use Rattle.sheet.specs.Sheet.{Sheet, Outcome, accepted, refused, size_tests, size_verdict, word_kinds, outcome_at, read_lines, after_size, read_sheet, sheet_of, alone}
use Rattle.sheet.specs.Fault.{fault_number, has_slope, covers_rows, any_faulty}
use Rattle.sheet.proofs.Lines.{both, between, of_line, lines_keep}
use Rattle.sheet.proofs.Opened.{zz_run, word_runs, sheet_read, starts_read}
use Rattle.sheet.proofs.Whole.{read_whole}

-- 0, or a refusal of a line
abbrev OfLine : ℕ → Type 0
OfLine n = (n ≡ 0) ⊎ ((2 ≤ n) × (n ≤ 4))

verdict_of_line : (tests : List Test) → of_line tests ≡ true → OfLine (verdict_of tests)
verdict_of_line [] o = inl refl
verdict_of_line ((true, n) ∷ rest) o = verdict_of_line rest (both (is_between 2 n 4) (of_line rest) o).1
verdict_of_line ((false, n) ∷ rest) o = inr (between 2 n 4 (both (is_between 2 n 4) (of_line rest) o).0)

-- the cursor's number is such a one, and its line is counted from 1
abbrev Sound : Cursor → Type 0
Sound c = OfLine c.number × (1 ≤ c.line)

pass_sound : (c : Cursor) (number next : ℕ) → OfLine number → Sound c → Sound (pass_of c number next)
unfolding pass_of
pass_sound c number next v h = go (eqb c.number 0) (eqb number 0)
  where
    go : (t u : Bool) → Sound (cond t (cond u (record { at = next; line = c.line + 1; number = 0 }) (record { at = c.at; line = c.line; number = number })) c)
    go true true = (inl refl, omega (arith, h.1))
    go true false = (v, h.1)
    go false u = h

module _ (s : List ℕ) where
  blocks_sound : (k : ℕ) (c : Cursor) → Sound c → Sound (blocks_of s k c).past
  blocks_sound k =
      lines_keep (block_line s) block_verdict block_in Sound
      (λ c i l. pass_sound c (block_verdict i l) l.next (verdict_of_line (block_tests l) refl))
      (rows_from (λ r. 1) 0 k)

  entries_sound : (left q col row : ℕ) (c : Cursor) → Sound c → Sound (entries_from left s q col row c).past
  unfolding entries_from
  entries_sound zero q col row c h = h
  entries_sound (suc left) q col row c h =
      let l = pair_line zz_tag s c.at in
      let v = verdict_of_line (entry_tests q col row l) refl in
      go (entries_sound left q l.first (l.second + 1) (pass_of c (entry_verdict q col row l) l.next) (pass_sound c (entry_verdict q col row l) l.next v h))
      (eqb c.number 0 && in_form (tag_to zz_tag s c.at).next)
    where
      go : let l = pair_line zz_tag s c.at in
          let more = entries_from left s q l.first (l.second + 1) (pass_of c (entry_verdict q col row l) l.next) in
          Sound more.past → (t : Bool) → Sound (cond t (before (entry_in c.line l) more) (ended c)).past
      go m true = m
      go m false = h

  words_sound : (kinds : List Kind) (c : Cursor) → Sound c → Sound (runs_of s kinds c).past
  unfolding runs_of
  words_sound [] c h = h
  words_sound (kind ∷ kinds) c h =
      words_sound kinds (words_of s kind c).past
      (lines_keep (kind_line kind s) prescribed_verdict word_in Sound
      (λ c i l. pass_sound c (prescribed_verdict i l) l.next (verdict_of_line (prescribed_tests i l) refl)) kind.indexes c h)

-- a refusal and its line
abbrev OnLine : ℕ → ℕ → Type 0
OnLine number line = (2 ≤ number) × (number ≤ 4) × (1 ≤ line)

abbrev pub Refusal : ℕ → ℕ → Type 0
Refusal number line = ((number ≡ 1) × (line ≡ 0)) ⊎ OnLine number line

of_cursor : (number line : ℕ) → (number ≡ 0 → ⊥) → OfLine number × (1 ≤ line) → OnLine number line
of_cursor number line h (inl z, l) = absurd (h z)
of_cursor number line h (inr r, l) = (r.0, r.1, l)

outcome_refusal : (c : Cursor) (sheet : Sheet) (starts : Starts) (number line : ℕ) → Sound c → outcome_at c sheet starts ≡ refused number line → OnLine number line
outcome_refusal c sheet starts number line h e = go (eqb c.number 0) refl e
  where
    go : (t : Bool) → eqb c.number 0 ≡ t → cond t (accepted sheet starts) (refused c.number c.line) ≡ refused number line → OnLine number line
    go true u g = let z : ◌≡◌ {A = ℕ} 0 1 = cc in absurd (omega arith)
    go false u g =
        let n : c.number ≡ number = cc in
        let l : c.line ≡ line = cc in
        subst (λ (x : ℕ). OnLine x line) n (subst (λ (x : ℕ). OnLine c.number x) l (of_cursor c.number c.line (eqb-false _ 0 u) h))

-- below the size line a refusal is of a line
pub lines_refusal : (s : List ℕ) (z : Counts) (at number line : ℕ) → read_lines s z (record { at = at; line = 2; number = 0 }) ≡ refused number line → OnLine number line
unfolding read_lines
lines_refusal s z at number line e =
    let c : Cursor = record { at = at; line = 2; number = 0 } in
    let hz : Sound (zz_run s z at).past = entries_sound s (length s) z.q 0 0 _ (blocks_sound s z.k c (inl refl, omega arith)) in
    outcome_refusal (word_runs s z at).past (sheet_read s z at) (starts_read s z at) number line (words_sound s (word_kinds z) _ hz) e

-- THE CLAIM
pub read_refusal : (s : List ℕ) (number line : ℕ) → read_sheet s ≡ refused number line → Refusal number line
unfolding read_sheet
read_refusal s number line e =
    go (ltb 16777216 (length s)) (size_verdict (size_line s 0)) (verdict_of_line (size_tests (size_line s 0)) refl) e
  where
    go : (t : Bool) (v : ℕ) → OfLine v → cond t (refused 1 0) (after_size v s (size_line s 0)) ≡ refused number line → Refusal number line
    go true v h g = let n : 1 ≡ number = cc in let l : 0 ≡ line = cc in inl (sym n, sym l)
    go false zero h g = inr (lines_refusal s (size_line s 0).counts (size_line s 0).next number line g)
    go false (suc v) h g =
        let n : suc v ≡ number = cc in
        let l : 1 ≡ line = cc in
        inr (subst (λ (x : ℕ). OnLine x line) n (subst (λ (x : ℕ). OnLine (suc v) x) l (of_cursor (suc v) 1 (λ z. omega arith) (h, omega arith))))

-- the sheet that load is given
pub alone_refusal : (s : List ℕ) (number line : ℕ) → sheet_of s ≡ refused number line → Refusal number line
unfolding sheet_of
alone_refusal s number line e = go (read_sheet s) refl e
  where
    left_over : (sheet : Sheet) (starts : Starts) (t : Bool) → read_sheet s ≡ accepted sheet starts
        → cond t (accepted sheet starts) (refused 2 starts.line) ≡ refused number line → Refusal number line
    left_over sheet starts true u g = let z : ◌≡◌ {A = ℕ} 0 1 = cc in absurd (omega arith)
    left_over sheet starts false u g =
        let n : 2 ≡ number = cc in
        let l : starts.line ≡ line = cc in
        inr (omega arith, omega arith, omega (arith, (read_whole s sheet starts u).shape.lines))

    go : (o : Outcome) → read_sheet s ≡ o → alone s o ≡ refused number line → Refusal number line
    go (accepted sheet starts) u g = left_over sheet starts (eqb starts.end (length s)) u g
    go (refused m k) u g = read_refusal s number line (u ∙ g)

-- 1: of bytes that are too long no line is looked at
pub long_refused : (s : List ℕ) → 16777216 < length s → sheet_of s ≡ refused 1 0
unfolding sheet_of read_sheet
long_refused s h = rw (lt-ltb 16777216 (length s) h) refl

-- 5 to 9, or none
pub few_faults : (sheet : Sheet) → fault_number sheet ≤ 9
unfolding fault_number
few_faults sheet = go (eqb sheet.counts.flag 0) (eqb sheet.counts.k 0) (has_slope sheet) (covers_rows sheet) (any_faulty sheet)
  where
    go : (a b c d f : Bool) → cond a 5 (cond b 6 (cond c 7 (cond (not d) 8 (cond f 9 0)))) ≤ 9
    go true b c d f = omega arith
    go false true c d f = omega arith
    go false false true d f = omega arith
    go false false false false f = omega arith
    go false false false true true = omega arith
    go false false false true false = omega arith
