-- Nothing else is read as a line, or as a run of lines: the bytes are those that are written for what was read.
use Prim.Native.Nat.{ℕ, ◌+◌, ◌^◌, ◌≤◌, ◌<◌}
use mathlib.Core.Path.{◌≡◌, sym, ap, subst}
use mathlib.Core.Bool.{true}
use mathlib.Core.List.{List, [], ◌∷◌, ◌++◌}
use native.Mathlib.Omega.{arith}
use lib.ListN.{length, take, drop, length-take, length-drop, length-append, take-append-drop}
use lib.Dec.{eqb}
use borrow.Author.Tests.{eqb-false, not-true}
use Rattle.sheet.specs.Field.{cap, nowhere}
use Rattle.sheet.specs.Line.{tab, lf, size_tag, block_tag, tag_to, number_to, word_to, in_form, size_line, block_line, pair_line, single_line, bare_line}
use Rattle.factor_output.specs.Print.{number, hexadecimal}
use Rattle.text_output.proofs.Numbers.{hexadecimal_length}
use Rattle.sheet_text.specs.written.Written.{number_text, word_text, size_text, block_text, pair_text, single_text, bare_text}
use Rattle.sheet_text.proofs.written.Lines.{From, from_drop, from_length, from_more, in_form_lem}
use Rattle.sheet_text.proofs.written.Only.{number_only, word_only, tag_only}

-- ---- positions
pub from_here : (s : List ℕ) (at : ℕ) → at ≤ length s → From s at (drop at s)
from_here s at h = record { front = take at s; so = sym (take-append-drop at s); long = omega (arith, length-take at s) }

-- bytes that are there begin before the end
within : (s : List ℕ) (at : ℕ) (l : List ℕ) → 0 < length l → drop at s ≡ l → at ≤ length s
within s at l h e = omega (arith, ap length e, length-drop at s)

from_bytes : (s : List ℕ) (at : ℕ) (l : List ℕ) → 0 < length l → drop at s ≡ l → From s at l
from_bytes s at l h e = subst (λ (x : List ℕ). From s at x) e (from_here s at (within s at l h e))

-- ---- fields: what is written for the value, and then the bytes from the field's end on
formed : (next : ℕ) → in_form next ≡ true → next ≡ nowhere → ⊥
formed next h = eqb-false next nowhere (not-true (eqb next nowhere) h)

-- a field's bytes l, the byte that ends it, and what stands behind
ends_at : (s : List ℕ) (at next end : ℕ) (l rest : List ℕ) → drop at s ≡ l ++ (end ∷ rest) → next ≡ at + length l + 1
    → From s at (l ++ (end ∷ drop next s)) × (next ≤ length s)
ends_at s at next end l rest e n =
    let f : From s at (l ++ (end ∷ rest)) = from_bytes s at (l ++ (end ∷ rest)) (omega (arith, length-append l (end ∷ rest))) e in
    let g : From s next rest = rw n (from_more (end ∷ []) (from_more l f)) in
    (subst (λ (x : List ℕ). From s at (l ++ (end ∷ x))) (sym (from_drop g)) f, omega (arith, from_length g))

-- a tag's bytes, and what stands behind
goes_on : (s : List ℕ) (at next : ℕ) (t rest : List ℕ) → 0 < length t → drop at s ≡ t ++ rest → next ≡ at + length t → From s at (t ++ drop next s)
goes_on s at next t rest h e n =
    let f : From s at (t ++ rest) = from_bytes s at (t ++ rest) (omega (arith, length-append t rest)) e in
    let g : From s next rest = rw n (from_more t f) in
    subst (λ (x : List ℕ). From s at (t ++ x)) (sym (from_drop g)) f

module _ (s : List ℕ) where
  number_at : (end at : ℕ) → in_form (number_to end s at).next ≡ true → (number_to end s at).value < cap
      → From s at (number_text (number_to end s at).value end (drop (number_to end s at).next s)) × ((number_to end s at).next ≤ length s)
  number_at end at h g =
      let m = number_only end at (drop at s) (formed _ h) g in
      ends_at s at _ end (number (number_to end s at).value) m.rest m.so m.next

  word_at : (at : ℕ) → in_form (word_to s at).next ≡ true
      → From s at (word_text (word_to s at).value (drop (word_to s at).next s)) × ((word_to s at).next ≤ length s) × ((word_to s at).value < 2 ^ 64)
  word_at at h =
      let m = word_only at (drop at s) (formed _ h) in
      let e = ends_at s at (word_to s at).next lf (hexadecimal 16 (word_to s at).value) m.rest m.so (omega (arith, m.next, hexadecimal_length 16 (word_to s at).value)) in
      (e.0, e.1, m.below)

  tag_at : (t : List ℕ) (at : ℕ) → 0 < length t → in_form (tag_to t s at).next ≡ true → From s at (t ++ drop (tag_to t s at).next s)
  tag_at t at long h =
      let m = tag_only t at (drop at s) (formed _ h) in
      goes_on s at _ t m.rest long m.so m.next

-- ---- lines
module _ (s : List ℕ) (short : length s ≤ 16777216) where
  pub pair_at : (t : List ℕ) (at : ℕ) → 0 < length t → let l = pair_line t s at in
      in_form l.next ≡ true → l.first < cap → l.second < cap
      → From s at (pair_text t (l.first, l.second) l.word (drop l.next s)) × (l.next ≤ length s) × (l.word < 2 ^ 64)
  unfolding pair_line
  pair_at t at long h ha hb =
      let o = tag_to t s at in
      let a = number_to tab s o.next in
      let b = number_to tab s a.next in
      let w = word_at s b.next h in
      let y = number_at s tab a.next (in_form_lem short w.0) hb in
      let x = number_at s tab o.next (in_form_lem short y.0) ha in
      let v = tag_at s t at long (in_form_lem short x.0) in
      (rw (sym (from_drop w.0), sym (from_drop y.0), sym (from_drop x.0)) v, w.1, w.2)

  pub single_at : (t : List ℕ) (at : ℕ) → 0 < length t → let l = single_line t s at in
      in_form l.next ≡ true → l.first < cap
      → From s at (single_text t (l.first, 0) l.word (drop l.next s)) × (l.next ≤ length s) × (l.word < 2 ^ 64)
  unfolding single_line
  single_at t at long h ha =
      let o = tag_to t s at in
      let a = number_to tab s o.next in
      let w = word_at s a.next h in
      let x = number_at s tab o.next (in_form_lem short w.0) ha in
      let v = tag_at s t at long (in_form_lem short x.0) in
      (rw (sym (from_drop w.0), sym (from_drop x.0)) v, w.1, w.2)

  pub bare_at : (t : List ℕ) (at : ℕ) → 0 < length t → let l = bare_line t s at in
      in_form l.next ≡ true → From s at (bare_text t (0, 0) l.word (drop l.next s)) × (l.next ≤ length s) × (l.word < 2 ^ 64)
  unfolding bare_line
  bare_at t at long h =
      let w = word_at s (tag_to t s at).next h in
      let v = tag_at s t at long (in_form_lem short w.0) in
      (rw (sym (from_drop w.0)) v, w.1, w.2)

  pub block_at : (i : ℕ × ℕ) (at : ℕ) → let l = block_line s at in
      in_form l.next ≡ true → l.first < cap → l.second < cap
      → From s at (block_text i (record { m = l.first; e = l.second }) (drop l.next s)) × (l.next ≤ length s)
  unfolding block_line
  block_at i at h hm he =
      let o = tag_to block_tag s at in
      let m = number_to tab s o.next in
      let y = number_at s lf m.next h he in
      let x = number_at s tab o.next (in_form_lem short y.0) hm in
      let v = tag_at s block_tag at (omega arith) (in_form_lem short x.0) in
      (rw (sym (from_drop y.0), sym (from_drop x.0)) v, y.1)

  pub size_at : (at : ℕ) → let z = size_line s at in
      in_form z.next ≡ true → z.counts.n < cap → z.counts.p < cap → z.counts.q < cap → z.counts.k < cap → z.counts.flag < cap
      → From s at (size_text z.counts (drop z.next s)) × (z.next ≤ length s)
  unfolding size_line
  size_at at h hn hp hq hk hf =
      let o = tag_to size_tag s at in
      let n = number_to tab s o.next in
      let p = number_to tab s n.next in
      let q = number_to tab s p.next in
      let k = number_to tab s q.next in
      let xf = number_at s lf k.next h hf in
      let xk = number_at s tab q.next (in_form_lem short xf.0) hk in
      let xq = number_at s tab p.next (in_form_lem short xk.0) hq in
      let xp = number_at s tab n.next (in_form_lem short xq.0) hp in
      let xn = number_at s tab o.next (in_form_lem short xp.0) hn in
      let v = tag_at s size_tag at (omega arith) (in_form_lem short xn.0) in
      (rw (sym (from_drop xf.0), sym (from_drop xk.0), sym (from_drop xq.0), sym (from_drop xp.0), sym (from_drop xn.0)) v, xf.1)
