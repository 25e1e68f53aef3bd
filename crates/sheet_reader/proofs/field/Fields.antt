-- What the definitions of fields say at a position of the bytes s, and the turns of the loops that read them.
use Rattle.std.proofs.Common.{◌≡◌, ℕ, zero, suc, ◌+◌, ◌-◌, ◌*◌, ◌/◌, ◌%◌, ◌^◌, ◌<◌, ◌≤◌, min, Bool, true, false, cond, eqb, ltb, List, [], ◌∷◌, length, get_or, drop, sym, refl, ◌∙◌, add-one, arith, drop_of_length-le, drop-cons, le-ltb, lt-ltb, eq-eqb, ne_eqb}
use mathlib.Core.Logic.{by_cases}
use native.Mathlib.Decide.{dec_lt}
use Rattle.sheet_reader.specs.word_field.Mark.{mark}
use Rattle.sheet_reader.proofs.field.Table.{mark_digit, mark_other, mark_most}
use Rattle.sheet.specs.declared.Field.{Field}
use Rattle.sheet.specs.Field.{found, unfound, digit_of, digits_from, number_at, cap, end_at, word_at, tag_at}

-- the bytes from a position on: its byte, and those from the next
drop_at : (s : List ℕ) (i : ℕ) → i < length s → drop i s ≡ get_or s i 0 ∷ drop (i + 1) s
drop_at s i h = rw (add-one, drop-cons s i 0)

-- ---- a value held at the cap reads on as the value does, so the definition's exact value is never needed
zero_capped : (v : ℕ) → eqb v 0 ≡ eqb (min v cap) 0
zero_capped zero = refl
zero_capped (suc v) = ne_eqb (suc v) 0 (omega arith) ∙ sym (ne_eqb (min (suc v) cap) 0 (omega arith))

capped : (end v at : ℕ) (l : List ℕ) → digits_from end v at l ≡ digits_from end (min v cap) at l
unfolding digits_from
capped end v at [] = refl
capped end v at (b ∷ rest) =
    let d = digit_of b in
    let u : min (min v cap * 10 + d) cap ≡ min (v * 10 + d) cap = omega arith in
    let w : min (min v cap) cap ≡ min v cap = omega arith in
    cc (zero_capped v, capped end (v * 10 + d) (at + 1) rest, capped end (min v cap * 10 + d) (at + 1) rest)

-- ---- the loop of digits: v so far at i, still to end in X; d is the digit of the byte at i
pub record Digits (X : Field) (s : List ℕ) (end v i : ℕ) : Type 0 where
  pub same : digits_from end v i (drop i s) ≡ X
  pub small : v ≤ cap

pub digits_short : {X : Field} {s : List ℕ} {end v i : ℕ} → Digits X s end v i → length s ≤ i → unfound ≡ X
unfolding digits_from
digits_short {s} e h = rw (drop_of_length-le s h) at e.same

module _ {X : Field} {s : List ℕ} {end v i d : ℕ} (e : Digits X s end v i) (h : i < length s) (q : d ≡ digit_of (get_or s i 0)) where
  pub digits_leading : d < 10 → v ≡ 0 → unfound ≡ X
  unfolding digits_from
  digits_leading hd z = simp (drop_at s i h, lt-ltb (digit_of (get_or s i 0)) 10 (omega arith), eq-eqb v 0 z) at e.same

  pub digits_more : {w : ℕ} → d < 10 → (v ≡ 0 → ⊥) → w ≡ min (v * 10 + d) cap → Digits X s end w (i + 1)
  unfolding digits_from
  digits_more hd z f =
      let m : digits_from end (v * 10 + digit_of (get_or s i 0)) (i + 1) (drop (i + 1) s) ≡ X =
      simp (drop_at s i h, lt-ltb (digit_of (get_or s i 0)) 10 (omega arith), ne_eqb v 0 z) at e.same in
      record { same = cc (capped end (v * 10 + digit_of (get_or s i 0)) (i + 1) (drop (i + 1) s)); small = omega arith }

  pub digits_done : 10 ≤ d → get_or s i 0 ≡ end → found v (i + 1) ≡ X
  unfolding digits_from
  digits_done hd z =
      let m : min v cap ≡ v = omega arith in
      rw m at (simp (drop_at s i h, le-ltb (digit_of (get_or s i 0)) 10 (omega arith), eq-eqb (get_or s i 0) end z) at e.same)

  pub digits_other : 10 ≤ d → (get_or s i 0 ≡ end → ⊥) → unfound ≡ X
  unfolding digits_from
  digits_other hd z = simp (drop_at s i h, le-ltb (digit_of (get_or s i 0)) 10 (omega arith), ne_eqb (get_or s i 0) end z) at e.same

-- ---- a number, by its first byte
pub number_short : (s : List ℕ) (end at : ℕ) → length s ≤ at → unfound ≡ number_at end at (drop at s)
unfolding number_at
number_short s end at h = rw (drop_of_length-le s h)

module _ (s : List ℕ) (end at d : ℕ) (h : at < length s) (q : d ≡ digit_of (get_or s at 0)) where
  pub number_more : (r : Field) → d < 10 → r ≡ digits_from end d (at + 1) (drop (at + 1) s) → r ≡ number_at end at (drop at s)
  unfolding number_at
  number_more r hd e = simp (drop_at s at h, ← q, lt-ltb d 10 hd) e

  pub number_other : 10 ≤ d → unfound ≡ number_at end at (drop at s)
  unfolding number_at
  number_other hd = simp (drop_at s at h, le-ltb (digit_of (get_or s at 0)) 10 (omega arith))

-- ---- the byte that ends a word
pub end_short : (s : List ℕ) (end v at : ℕ) → length s ≤ at → unfound ≡ end_at end v at (drop at s)
unfolding end_at
end_short s end v at h = rw (drop_of_length-le s h)

module _ (s : List ℕ) (end v at : ℕ) (h : at < length s) where
  pub end_found : get_or s at 0 ≡ end → found v (at + 1) ≡ end_at end v at (drop at s)
  unfolding end_at
  end_found q = simp (drop_at s at h, eq-eqb (get_or s at 0) end q)

  pub end_other : (get_or s at 0 ≡ end → ⊥) → unfound ≡ end_at end v at (drop at s)
  unfolding end_at
  end_other q = simp (drop_at s at h, ne_eqb (get_or s at 0) end q)

-- ---- the loop of a word
-- 2 ^ 64 over 16 to the n: what is below it has room for n digits more
unfoldable pub room : ℕ → ℕ
room zero = 2 ^ 64
room (suc n) = room n / 16

room_most : (n : ℕ) → room n ≤ 2 ^ 64
unfolding room
room_most zero = omega arith
room_most (suc n) = omega (arith, room_most n)

-- n digits, and the byte that ends them, need as many bytes and one more
pub word_short : (s : List ℕ) (end n v i : ℕ) → length s < i + n + 1 → unfound ≡ word_at end n v i (drop i s)
unfolding word_at end_at
word_short s end zero v i h = let e : length s ≤ i = omega arith in rw (drop_of_length-le s e)
word_short s end (suc n) v i h =
    by_cases (dec_lt i (length s))
    (λ (l : i < length s).
    let more = word_short s end n (v * 16 + digit_of (get_or s i 0)) (i + 1) (omega arith) in
    either (ltb (digit_of (get_or s i 0)) 16) more ∙ sym (rw (drop_at s i l)))
    (λ l. let e : length s ≤ i = omega arith in rw (drop_of_length-le s e))
  where
    either : (b : Bool) {x : Field} → unfound ≡ x → unfound ≡ cond b x unfound
    either true e = e
    either false e = refl

-- one digit more of n + 1, or none where d is no digit
word_digit : (s : List ℕ) (end n v i d : ℕ) → i < length s → d ≡ digit_of (get_or s i 0) → d < 16
    → word_at end (suc n) v i (drop i s) ≡ word_at end n (v * 16 + d) (i + 1) (drop (i + 1) s)
unfolding word_at
word_digit s end n v i d h q l = simp (drop_at s i h, ← q, lt-ltb d 16 l)

word_other : (s : List ℕ) (end n v i d : ℕ) → i < length s → d ≡ digit_of (get_or s i 0) → 16 ≤ d → word_at end (suc n) v i (drop i s) ≡ unfound
unfolding word_at
word_other s end n v i d h q l = simp (drop_at s i h, ← q, le-ltb d 16 l)

-- k of 16 digits were read from `at` on, v so far, and `sum` is the sum of their entries, at least 255 where one was no digit: it still ends in X
pub record Word (X : Field) (s : List ℕ) (end at k v sum : ℕ) : Type 0 where
  pub same : sum < 255 → word_at end (16 - k) v (at + k) (drop (at + k) s) ≡ X
  pub none : 255 ≤ sum → unfound ≡ X
  pub small : sum < 255 → v < room (16 - k)
  pub low : sum < 255 → sum ≤ 15 * k
  pub count : sum ≤ 255 * k
  pub most : k ≤ 16

pub word_begun : (s : List ℕ) (end at : ℕ) → Word (word_at end 16 0 at (drop at s)) s end at 0 0 0
unfolding room
word_begun s end at =
    let i : at + 0 ≡ at = omega arith in
    record {
      same = λ z. rw i refl;
      none = λ z. absurd (omega arith);
      small = λ z. omega arith;
      low = λ z. omega arith;
      count = omega arith;
      most = omega arith;
    }

module _ {X : Field} {s : List ℕ} {end at k v sum : ℕ} (e : Word X s end at k v sum) where
  pub word_more : {d w : ℕ} → k < 16 → at + 16 < length s → d ≡ mark (get_or s (at + k) 0) → w ≡ (v % 2 ^ 60 * 16 + d) % 2 ^ 64
      → Word X s end at (k + 1) w (sum + d)
  unfolding room
  word_more {d} {w} p h q f =
      let n = 15 - k in
      let b = get_or s (at + k) 0 in
      let r : 16 - k ≡ suc n = omega arith in
      let r' : 16 - (k + 1) ≡ n = omega arith in
      let i' : at + (k + 1) ≡ at + k + 1 = omega arith in
      let top = mark_most b q in
      let count : sum + d ≤ 255 * (k + 1) = omega (arith, e.count, top) in
      by_cases (dec_lt sum 255)
      (λ (o : sum < 255).
      by_cases (dec_lt (digit_of b) 16)
      (λ (l : digit_of b < 16).
      let q' : d ≡ digit_of b = q ∙ mark_digit b l in
      let small : v < room n / 16 = rw r at (e.small o) in
      let w' : w ≡ v * 16 + d = omega (arith, room_most n, f, small, q', l) in
      record {
        same = λ z. rw (r', i', w') (sym (word_digit s end n v (at + k) d (omega arith) q' (omega (arith, q', l))) ∙ (rw r at (e.same o)));
        none = λ z. absurd (omega (arith, e.low o, q', l));
        small = λ z. rw r' (omega (arith, small, w', q', l));
        low = λ z. omega (arith, e.low o, q', l);
        count = count;
        most = omega arith;
      })
      (λ l.
      let q' : d ≡ 255 = q ∙ mark_other b (omega arith) in
      record {
        same = λ z. absurd (omega (arith, q'));
        none = λ z. sym (word_other s end n v (at + k) (digit_of b) (omega arith) refl (omega arith)) ∙ (rw r at (e.same o));
        small = λ z. absurd (omega (arith, q'));
        low = λ z. absurd (omega (arith, q'));
        count = count;
        most = omega arith;
      }))
      (λ o.
      record {
        same = λ z. absurd (omega arith);
        none = λ z. e.none (omega arith);
        small = λ z. absurd (omega arith);
        low = λ z. absurd (omega arith);
        count = count;
        most = omega arith;
      })

  pub word_count : (d : ℕ) → k < 16 → d ≡ mark (get_or s (at + k) 0) → sum + d < 2 ^ 64
  word_count d p q = omega (arith, e.count, mark_most (get_or s (at + k) 0) q)

  pub word_done : {r : Field} → 16 ≤ k → sum < 255 → r ≡ end_at end v (at + 16) (drop (at + 16) s) → r ≡ X
  unfolding word_at
  word_done l z q =
      let k' : k ≡ 16 = omega (arith, e.most) in
      q ∙ (rw k' at (e.same z))

-- ---- the loop of a tag: k bytes of t were found up to i
pub record Tag (X : Field) (s t : List ℕ) (k i : ℕ) : Type 0 where
  pub same : tag_at (drop k t) i (drop i s) ≡ X

module _ {X : Field} {s t : List ℕ} {k i : ℕ} (e : Tag X s t k i) where
  pub tag_short : k < length t → length s ≤ i → unfound ≡ X
  unfolding tag_at
  tag_short p h = simp (drop_at t k p, drop_of_length-le s h) at e.same

  pub tag_other : k < length t → i < length s → (get_or s i 0 ≡ get_or t k 0 → ⊥) → unfound ≡ X
  unfolding tag_at
  tag_other p h q = simp (drop_at t k p, drop_at s i h, ne_eqb _ _ q) at e.same

  pub tag_more : k < length t → i < length s → get_or s i 0 ≡ get_or t k 0 → Tag X s t (k + 1) (i + 1)
  unfolding tag_at
  tag_more p h q = record { same = simp (drop_at t k p, drop_at s i h, eq-eqb _ _ q) at e.same }

  pub tag_done : length t ≤ k → found 0 i ≡ X
  unfolding tag_at
  tag_done p = rw (drop_of_length-le t p) at e.same
