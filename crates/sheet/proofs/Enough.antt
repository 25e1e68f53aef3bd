-- Every zz line moves on in the bytes, so that as many lines as there are bytes are enough for all of them.
use Prim.Native.Nat.{ℕ, zero, suc, ◌+◌, ◌*◌, ◌≤◌, ◌<◌, min}
use mathlib.Core.Path.{◌≡◌, refl, sym, ◌∙◌, ap}
use mathlib.Core.Bool.{Bool, true, false, ◌&&◌, cond}
use mathlib.Core.List.{List, [], ◌∷◌}
use native.Mathlib.Omega.{arith}
use borrow.Author.Tests.{ltb-true, ltb-false, ne_eqb, eqb-true, eqb-false}
use lib.Dec.{ltb, eqb}
use lib.ListN.{length, drop, drop_of_length-le}
use Rattle.sheet.specs.declared.Field.{Field}
use Rattle.sheet.specs.Field.{nowhere, found, unfound, on_digit, cap, digit_of, digits_from, number_at, end_at, word_at, tag_at}
use Rattle.sheet.specs.Line.{zz_tag, tab, lf, tag_to, number_to, in_form, pair_line}
use Rattle.sheet.specs.Run.{Cursor, Run, Entry, ended, before, entry_in, entry_verdict, entries_from, pass_of}
use Rattle.sheet.proofs.Lines.{passed}

-- ---- a field that begins at `at` ends past it, or nowhere
abbrev pub Beyond : ℕ → ℕ → Type 0
Beyond at next = min (at + 1) nowhere ≤ next

cond_beyond : (at : ℕ) (t : Bool) (f : Field) → Beyond at f.next → Beyond at (cond t f unfound).next
cond_beyond at true f h = h
cond_beyond at false f h = omega arith

digit_beyond : (at : ℕ) (t z : Bool) (more done : Field) → Beyond at more.next → Beyond at done.next → Beyond at (on_digit t z more done).next
digit_beyond at true true more done g h = omega arith
digit_beyond at true false more done g h = g
digit_beyond at false z more done g h = h

digits_beyond : (end v at : ℕ) (l : List ℕ) → Beyond at (digits_from end v at l).next
unfolding digits_from
digits_beyond end v at [] = omega arith
digits_beyond end v at (b ∷ rest) =
    digit_beyond at (ltb (digit_of b) 10) (eqb v 0) _ _ (omega (arith, digits_beyond end (v * 10 + digit_of b) (at + 1) rest))
    (cond_beyond at (eqb b end) (found (min v cap) (at + 1)) (omega arith))

number_beyond : (end at : ℕ) (l : List ℕ) → Beyond at (number_at end at l).next
unfolding number_at
number_beyond end at [] = omega arith
number_beyond end at (b ∷ rest) = cond_beyond at (ltb (digit_of b) 10) _ (omega (arith, digits_beyond end (digit_of b) (at + 1) rest))

end_beyond : (end v at : ℕ) (l : List ℕ) → Beyond at (end_at end v at l).next
unfolding end_at
end_beyond end v at [] = omega arith
end_beyond end v at (b ∷ rest) = cond_beyond at (eqb b end) (found v (at + 1)) (omega arith)

word_beyond : (end n v at : ℕ) (l : List ℕ) → Beyond at (word_at end n v at l).next
unfolding word_at
word_beyond end zero v at l = end_beyond end v at l
word_beyond end (suc n) v at [] = omega arith
word_beyond end (suc n) v at (b ∷ rest) = cond_beyond at (ltb (digit_of b) 16) _ (omega (arith, word_beyond end n (v * 16 + digit_of b) (at + 1) rest))

-- a tag ends at or past where it begins, or nowhere
tag_stays : (t : List ℕ) (at : ℕ) (l : List ℕ) → min at nowhere ≤ (tag_at t at l).next
unfolding tag_at
tag_stays [] at l = omega arith
tag_stays (x ∷ t) at [] = omega arith
tag_stays (x ∷ t) at (b ∷ rest) = go (eqb b x) (tag_stays t (at + 1) rest)
  where
    go : (u : Bool) → min (at + 1) nowhere ≤ (tag_at t (at + 1) rest).next → min at nowhere ≤ (cond u (tag_at t (at + 1) rest) unfound).next
    go true g = omega arith
    go false g = omega arith

pub pair_beyond : (t s : List ℕ) (at : ℕ) → Beyond at (pair_line t s at).next
unfolding pair_line
pair_beyond t s at =
    let o = tag_to t s at in
    let a = number_to tab s o.next in
    let b = number_to tab s a.next in
    omega (arith, tag_stays t at (drop at s), number_beyond tab o.next (drop o.next s), number_beyond tab a.next (drop a.next s), word_beyond lf 16 0 b.next (drop b.next s))

-- ---- no line stands past the end
no_line : (s : List ℕ) (at : ℕ) → length s ≤ at → in_form (tag_to zz_tag s at).next ≡ false
unfolding tag_at
no_line s at h = rw (drop_of_length-le s h)

-- ---- any more than that changes nothing
not_run : {A : Type 0} (t u : Bool) (run end : Run A) → u ≡ false → cond (t && u) run end ≡ end
not_run true u run end e = rw e
not_run false u run end e = refl

module _ (s : List ℕ) (q : ℕ) where
  pub refused_ends : (left col row : ℕ) (c : Cursor) → (c.number ≡ 0 → ⊥) → entries_from left s q col row c ≡ ended c
  unfolding entries_from
  refused_ends zero col row c h = refl
  refused_ends (suc left) col row c h = simp (ne_eqb c.number 0 h)

  past_ends : (left col row : ℕ) (c : Cursor) → length s ≤ c.at → entries_from left s q col row c ≡ ended c
  unfolding entries_from
  past_ends zero col row c h = refl
  past_ends (suc left) col row c h = not_run (eqb c.number 0) (in_form (tag_to zz_tag s c.at).next) _ (ended c) (no_line s c.at h)

  -- the lines after one that begins before the end
  after : (f g col row : ℕ) (c d : Cursor) (number next : ℕ) → c.at < length s → length s < nowhere → Beyond c.at next → d ≡ pass_of c number next
      → (length s ≤ d.at + f → length s ≤ d.at + g → entries_from f s q col row d ≡ entries_from g s q col row d)
      → length s ≤ c.at + suc f → length s ≤ c.at + suc g → entries_from f s q col row d ≡ entries_from g s q col row d
  after f g col row c d number next h short b e more p r = go (eqb d.number 0) refl
    where
      go : (t : Bool) → eqb d.number 0 ≡ t → entries_from f s q col row d ≡ entries_from g s q col row d
      go true u =
          let z : (pass_of c number next).number ≡ 0 = ap (λ (x : Cursor). x.number) (sym e) ∙ eqb-true d.number 0 u in
          let a : d.at ≡ next = ap (λ (x : Cursor). x.at) (e ∙ (passed c number next z).after) in
          more (omega arith) (omega arith)
      go false u = let z = eqb-false d.number 0 u in refused_ends f col row d z ∙ sym (refused_ends g col row d z)

  same : (f g col row : ℕ) (c : Cursor) → length s < nowhere → length s ≤ c.at + f → length s ≤ c.at + g → entries_from f s q col row c ≡ entries_from g s q col row c
  unfolding entries_from
  same zero g col row c short p r = sym (past_ends g col row c (omega arith))
  same (suc f) zero col row c short p r = past_ends (suc f) col row c (omega arith)
  same (suc f) (suc g) col row c short p r =
      let l = pair_line zz_tag s c.at in
      let d = pass_of c (entry_verdict q col row l) l.next in
      go (same f g l.first (l.second + 1) d short) (ltb c.at (length s)) refl
    where
      go : let l = pair_line zz_tag s c.at in
          let d = pass_of c (entry_verdict q col row l) l.next in
          (length s ≤ d.at + f → length s ≤ d.at + g → entries_from f s q l.first (l.second + 1) d ≡ entries_from g s q l.first (l.second + 1) d)
          → (t : Bool) → ltb c.at (length s) ≡ t → entries_from (suc f) s q col row c ≡ entries_from (suc g) s q col row c
      go more true u =
          let l = pair_line zz_tag s c.at in
          let d = pass_of c (entry_verdict q col row l) l.next in
          let e = after f g l.first (l.second + 1) c d (entry_verdict q col row l) l.next (ltb-true c.at (length s) u) short (pair_beyond zz_tag s c.at) refl more p r in
          ap (λ (run : Run Entry). cond (eqb c.number 0 && in_form (tag_to zz_tag s c.at).next) (before (entry_in c.line l) run) (ended c)) e
      go more false u =
          let h = ltb-false c.at (length s) u in
          past_ends (suc f) col row c h ∙ sym (past_ends (suc g) col row c h)

-- THE CLAIM: the bound on the number of zz lines never shows.
pub entries_enough : (s : List ℕ) (more q : ℕ) (c : Cursor) → length s ≤ 16777216 → entries_from (length s) s q 0 0 c ≡ entries_from (length s + more) s q 0 0 c
entries_enough s more q c h = same s q (length s) (length s + more) 0 0 c (omega arith) (omega arith) (omega arith)
