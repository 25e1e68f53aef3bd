-- The zz lines of an accepted sheet by where they start: each starts past the one before it, and the last ends within the bytes.
use Prim.Native.Nat.{ℕ, zero, suc, ◌+◌, ◌*◌, ◌≤◌, ◌<◌}
use mathlib.Core.Path.{◌≡◌, refl, sym, ◌∙◌, ap, subst}
use mathlib.Core.Logic.{◌⊎◌, inl, inr}
use mathlib.Core.Bool.{Bool, true, false, not, ◌&&◌, cond, false≢true}
use mathlib.Core.List.{List, [], ◌∷◌}
use native.Mathlib.Omega.{arith}
use borrow.Author.Tests.{eq-eqb}
use lib.Dec.{ltb, eqb}
use lib.ListN.{length, drop, length-drop}
use Rattle.sheet.specs.declared.Counts.{Counts}
use Rattle.sheet.specs.declared.Field.{Field}
use Rattle.sheet.specs.declared.Starts.{Starts}
use Rattle.sheet.specs.Field.{nowhere, found, unfound, digit_of, end_at, word_at}
use Rattle.sheet.specs.Line.{zz_tag, tab, lf, tag_to, number_to, word_to, in_form, size_line, pair_line}
use Rattle.sheet.specs.Run.{Cursor, ended, before, entry_in, not_before, entry_tests, entry_verdict, entries_from, pass_of, past_from}
use Rattle.sheet.specs.Sheet.{Sheet, accepted, refused, word_kinds, size_verdict, read_lines, after_size, read_sheet}
use Rattle.sheet.proofs.Lines.{both, in_order_lem, Passed, passed}
use Rattle.sheet.proofs.Entries.{listed}
use Rattle.sheet.proofs.Opened.{blocks_run, zz_run, opened}
use Rattle.sheet.proofs.Whole.{ran_kinds, not_accepted}
use Rattle.sheet.proofs.Enough.{pair_beyond}

-- ---- a word that begins at `at`, with the bytes l from there on, ends within them, or nowhere
abbrev Within : ℕ → List ℕ → ℕ → Type 0
Within at l next = (next ≡ nowhere) ⊎ ((0 < length l) × (next ≤ at + length l))

within_on : (at b : ℕ) (rest : List ℕ) (next : ℕ) → Within (at + 1) rest next → Within at (b ∷ rest) next
within_on at b rest next (inl e) = inl e
within_on at b rest next (inr h) = inr (omega arith, omega (arith, h.1))

cond_within : (at : ℕ) (l : List ℕ) (t : Bool) (f : Field) → Within at l f.next → Within at l (cond t f unfound).next
cond_within at l true f h = h
cond_within at l false f h = inl refl

word_within : (end n v at : ℕ) (l : List ℕ) → Within at l (word_at end n v at l).next
unfolding word_at end_at
word_within end zero v at [] = inl refl
word_within end zero v at (b ∷ rest) = cond_within at (b ∷ rest) (eqb b end) (found v (at + 1)) (inr (omega arith, omega arith))
word_within end (suc n) v at [] = inl refl
word_within end (suc n) v at (b ∷ rest) =
    cond_within at (b ∷ rest) (ltb (digit_of b) 16) _ (within_on at b rest _ (word_within end n (v * 16 + digit_of b) (at + 1) rest))

-- a line in form ends past where it begins, and within the bytes
pub pair_in_form : (t s : List ℕ) (at : ℕ) → length s < nowhere → in_form (pair_line t s at).next ≡ true → (at < (pair_line t s at).next) × ((pair_line t s at).next ≤ length s)
unfolding pair_line
pair_in_form t s at short h = (omega (arith, pair_beyond t s at, low), low)
  where
    from : ℕ
    from = (number_to tab s (number_to tab s (tag_to t s at).next).next).next

    low : (word_to s from).next ≤ length s
    low = go (word_within lf 16 0 from (drop from s))
      where
        go : Within from (drop from s) (word_to s from).next → (word_to s from).next ≤ length s
        go (inl e) = absurd (false≢true (sym (ap not (eq-eqb (word_to s from).next nowhere e)) ∙ h))
        go (inr g) = omega (arith, g.0, g.1, length-drop from s)

-- ---- every zz line of an accepted run is in form
module _ (s : List ℕ) (q : ℕ) where
  abbrev Formed : ℕ → ℕ → Type 0
  Formed n at = (t : ℕ) → t < n → in_form (pair_line zz_tag s (past_from (pair_line zz_tag s) t at)).next ≡ true

  one_more_lem : (n at : ℕ) → in_form (pair_line zz_tag s at).next ≡ true → Formed n (pair_line zz_tag s at).next → Formed (suc n) at
  unfolding past_from
  one_more_lem n at h more zero k = h
  one_more_lem n at h more (suc t) k = more t (omega arith)

  entries_formed : (left col row : ℕ) (c : Cursor) → (entries_from left s q col row c).past.number ≡ 0 → Formed (length (entries_from left s q col row c).items) c.at
  unfolding entries_from
  entries_formed zero col row c e = λ t h. absurd (omega arith)
  entries_formed (suc left) col row c e =
      let l = pair_line zz_tag s c.at in
      let d = pass_of c (entry_verdict q col row l) l.next in
      go (λ g. entries_formed left l.first (l.second + 1) d g) (eqb c.number 0 && in_form (tag_to zz_tag s c.at).next) e
    where
      go : let l = pair_line zz_tag s c.at in
          let d = pass_of c (entry_verdict q col row l) l.next in
          let more = entries_from left s q l.first (l.second + 1) d in
          let run = before (entry_in c.line l) more in
          (more.past.number ≡ 0 → Formed (length more.items) d.at) → (u : Bool) → (cond u run (ended c)).past.number ≡ 0 → Formed (length (cond u run (ended c)).items) c.at
      go rest false g = λ t h. absurd (omega arith)
      go rest true g =
          let l = pair_line zz_tag s c.at in
          let d = pass_of c (entry_verdict q col row l) l.next in
          let more = entries_from left s q l.first (l.second + 1) d in
          let p : Passed c (entry_verdict q col row l) l.next = passed c (entry_verdict q col row l) l.next (listed s q left l.first (l.second + 1) d g).open_before in
          one_more_lem (length more.items) c.at (both (in_form l.next) (not_before col row l.first l.second) (in_order_lem (entry_tests q col row l) refl p.verdict).0).0
          (subst (Formed (length more.items)) (ap (λ (x : Cursor). x.at) p.after) (rest g))

-- and so is every zz line of an accepted sheet
lines_formed : (s : List ℕ) (z : Counts) (at : ℕ) (sheet : Sheet) (starts : Starts)
    → read_lines s z (record { at = at; line = 2; number = 0 }) ≡ accepted sheet starts → Formed s z.q (length sheet.zz) starts.zz
lines_formed s z at sheet starts e =
    let o = opened s z at sheet starts e in
    let zz = zz_run s z at in
    let r = ran_kinds s (word_kinds z) zz.past o.0 in
    subst (λ (n : ℕ). Formed s z.q n starts.zz) (ap (λ (x : Sheet). length x.zz) o.1)
    (subst (Formed s z.q (length zz.items)) (ap (λ (x : Starts). x.zz) o.2) (entries_formed s z.q (length s) 0 0 (blocks_run s z at).past r.open_before))

pub sheet_formed : (s : List ℕ) (sheet : Sheet) (starts : Starts) → read_sheet s ≡ accepted sheet starts
    → (t : ℕ) → t < length sheet.zz → in_form (pair_line zz_tag s (past_from (pair_line zz_tag s) t starts.zz)).next ≡ true
unfolding read_sheet
sheet_formed s sheet starts e = go (ltb 16777216 (length s)) (size_verdict (size_line s 0)) e
  where
    go : (t : Bool) (v : ℕ) → cond t (refused 1 0) (after_size v s (size_line s 0)) ≡ accepted sheet starts → Formed s (size_line s 0).counts.q (length sheet.zz) starts.zz
    go true v g = absurd (not_accepted 1 0 sheet starts g)
    go false zero g = lines_formed s (size_line s 0).counts (size_line s 0).next sheet starts g
    go false (suc v) g = absurd (not_accepted (suc v) 1 sheet starts g)
