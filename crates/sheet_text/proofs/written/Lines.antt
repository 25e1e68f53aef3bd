-- A line that stands in the bytes is read as it was written, and so is a run of lines.
use Prim.Native.Nat.{ℕ, zero, suc, ◌+◌, ◌^◌, ◌≤◌, ◌<◌}
use mathlib.Core.Path.{◌≡◌, refl, sym, ap, ap₂, subst, ◌∙◌}
use mathlib.Core.Bool.{true, false}
use mathlib.Core.List.{List, [], ◌∷◌, ◌++◌, append_assoc}
use native.Mathlib.Omega.{arith}
use lib.ListN.{length, length-append, drop}
use lib.Seq.{drop-append_seam}
use lib.Dec.{ltb}
use borrow.Author.Tests.{ne_eqb, eq-eqb}
use Rattle.sheet.specs.declared.Line.{Line}
use Rattle.sheet.specs.Field.{cap, nowhere, digit_of, number_at, word_at, tag_at}
use Rattle.sheet.specs.Line.{tab, lf, block_tag, tag_to, number_to, word_to, in_form, block_line, pair_line, single_line, bare_line, word_line}
use Rattle.sheet.specs.Run.{Cursor, Block, Kind, Run, pass_of, lines_of, prescribed_verdict, word_in, kind_line, words_of}
use Rattle.sheet.specs.Whole.{Both, Finite}
use Rattle.factor_output.specs.Print.{number, hexadecimal}
use Rattle.text_output.proofs.Numbers.{hexadecimal_length}
use Rattle.sheet_text.specs.written.Written.{number_text, word_text, block_text, pair_text, single_text, bare_text, kind_text, lines_text, Word}
use Rattle.sheet_text.proofs.written.Fields.{tab_ends, lf_ends, number_read, word_read, tag_read}

-- the bytes from a position on
pub record From (s : List ℕ) (at : ℕ) (l : List ℕ) : Type 0 where
  pub front : List ℕ
  pub so : s ≡ front ++ l
  pub long : length front ≡ at

module _ {s : List ℕ} {at : ℕ} where
  pub from_drop : {l : List ℕ} → From s at l → drop at s ≡ l
  from_drop {l} f = ap₂ drop (sym f.long) f.so ∙ drop-append_seam f.front l

  pub from_more : (l : List ℕ) {r : List ℕ} → From s at (l ++ r) → From s (at + length l) r
  from_more l {r} f =
      record {
        front = f.front ++ l;
        so = f.so ∙ sym (append_assoc f.front l r);
        long = length-append f.front l ∙ ap (λ (n : ℕ). n + length l) f.long;
      }

  pub from_length : {l : List ℕ} → From s at l → at + length l ≡ length s
  from_length {l} f = ap (λ (n : ℕ). n + length l) (sym f.long) ∙ sym (length-append f.front l) ∙ ap length (sym f.so)

  -- a line that ends there is in form
  pub in_form_lem : {l : List ℕ} → length s ≤ 16777216 → From s at l → in_form at ≡ true
  in_form_lem h f = rw (ne_eqb at nowhere (λ e. omega (arith, from_length f)))

-- ---- fields
module _ {s : List ℕ} {at : ℕ} where
  pub number_from : (x end : ℕ) {rest : List ℕ} → ltb (digit_of end) 10 ≡ false → x ≤ cap → From s at (number_text x end rest)
      → ((number_to end s at).value ≡ x) × From s (number_to end s at).next rest
  number_from x end {rest} e h f =
      let g : number_to end s at ≡ _ = ap (number_at end at) (from_drop f) ∙ number_read end at x rest e h in
      let k : From s (at + length (number x)) (end ∷ rest) = from_more (number x) f in
      rw g (refl, from_more (end ∷ []) k)

  word_from : (w : ℕ) {rest : List ℕ} → w < 2 ^ 64 → From s at (word_text w rest) → ((word_to s at).value ≡ w) × From s (word_to s at).next rest
  word_from w {rest} h f =
      let g : word_to s at ≡ _ = ap (word_at lf 16 0 at) (from_drop f) ∙ word_read at w rest h in
      let k : From s (at + length (hexadecimal 16 w)) (lf ∷ rest) = from_more (hexadecimal 16 w) f in
      let m : at + length (hexadecimal 16 w) + 1 ≡ at + 17 = omega (arith, hexadecimal_length 16 w) in
      rw g (refl, subst (λ (n : ℕ). From s n rest) m (from_more (lf ∷ []) k))

  pub tag_from : (t : List ℕ) {rest : List ℕ} → From s at (t ++ rest) → From s (tag_to t s at).next rest
  tag_from t {rest} f =
      let g : tag_to t s at ≡ _ = ap (tag_at t at) (from_drop f) ∙ tag_read t at rest in
      rw g (from_more t f)

-- ---- lines
-- a line is read as two indexes and a word, and `rest` follows it
pub record Reads (s : List ℕ) (l : Line) (a b w : ℕ) (rest : List ℕ) : Type 0 where
  pub first : l.first ≡ a
  pub second : l.second ≡ b
  pub word : l.word ≡ w
  pub past : From s l.next rest

module _ {s : List ℕ} {at : ℕ} where
  pub pair_from : (t : List ℕ) (a b w : ℕ) {rest : List ℕ} → a ≤ cap → b ≤ cap → w < 2 ^ 64 → From s at (pair_text t (a, b) w rest)
      → Reads s (pair_line t s at) a b w rest
  unfolding pair_line
  pair_from t a b w ha hb hw f =
      let x = number_from a tab tab_ends ha (tag_from t f) in
      let y = number_from b tab tab_ends hb x.1 in
      let z = word_from w hw y.1 in
      record { first = x.0; second = y.0; word = z.0; past = z.1 }

  pub single_from : (t : List ℕ) (a w : ℕ) {rest : List ℕ} → a ≤ cap → w < 2 ^ 64 → From s at (single_text t (a, 0) w rest)
      → Reads s (single_line t s at) a 0 w rest
  unfolding single_line
  single_from t a w ha hw f =
      let x = number_from a tab tab_ends ha (tag_from t f) in
      let z = word_from w hw x.1 in
      record { first = x.0; second = refl; word = z.0; past = z.1 }

  pub bare_from : (t : List ℕ) (w : ℕ) {rest : List ℕ} → w < 2 ^ 64 → From s at (bare_text t (0, 0) w rest) → Reads s (bare_line t s at) 0 0 w rest
  unfolding bare_line
  bare_from t w hw f =
      let z = word_from w hw (tag_from t f) in
      record { first = refl; second = refl; word = z.0; past = z.1 }

  pub block_from : (i : ℕ × ℕ) (b : Block) {rest : List ℕ} → b.m ≤ cap → b.e ≤ cap → From s at (block_text i b rest)
      → Reads s (block_line s at) b.m b.e 0 rest
  unfolding block_line
  block_from i b hm he f =
      let x = number_from b.m tab tab_ends hm (tag_from block_tag f) in
      let y = number_from b.e lf lf_ends he x.1 in
      record { first = x.0; second = y.0; word = refl; past = y.1 }

-- the indexes that a line of so many numbers can have
abbrev pub Fits : ℕ → ℕ × ℕ → Type 0
Fits zero i = (i.0 ≡ 0) × (i.1 ≡ 0)
Fits (suc zero) i = (i.0 < cap) × (i.1 ≡ 0)
Fits (suc (suc n)) i = (i.0 < cap) × (i.1 < cap)

pub kind_from : {s : List ℕ} {at : ℕ} (numbers : ℕ) (t : List ℕ) (i : ℕ × ℕ) (w : ℕ) {rest : List ℕ} → Fits numbers i → w < 2 ^ 64
    → From s at (kind_text numbers t i w rest) → Reads s (word_line numbers t s at) i.0 i.1 w rest
kind_from zero t i w h b f = rw (h.0, h.1) (bare_from t w b f)
kind_from (suc zero) t i w h b f = rw h.1 (single_from t i.0 w (omega (arith, h.0)) b f)
kind_from (suc (suc n)) t i w h b f = pair_from t i.0 i.1 w (omega (arith, h.0)) (omega (arith, h.1)) b f

-- ---- a run of lines
pub pass_on : (c : Cursor) (v next : ℕ) → c.number ≡ 0 → v ≡ 0 → pass_of c v next ≡ record { at = next; line = c.line + 1; number = 0 }
unfolding pass_of
pass_on c v next e h = rw (eq-eqb c.number 0 e, eq-eqb v 0 h)

-- the run's items are those written, nothing is refused, and `rest` follows
pub record ReadBack {A : Type 0} (s : List ℕ) (run : Run A) (xs : List A) (n : ℕ) (rest : List ℕ) : Type 0 where
  pub items : run.items ≡ xs
  pub number : run.past.number ≡ 0
  pub line : run.past.line ≡ n + length xs
  pub past : From s run.past.at rest

module _ {A : Type 0} (s : List ℕ) (read : ℕ → Line) (verdict : ℕ × ℕ → Line → ℕ) (keep : ℕ → Line → A) (line : ℕ × ℕ → A → List ℕ → List ℕ)
    (P : ℕ × ℕ → A → Type 0)
    (one : (n at : ℕ) (i : ℕ × ℕ) (x : A) (rest : List ℕ) → P i x → From s at (line i x rest)
    → (verdict i (read at) ≡ 0) × (keep n (read at) ≡ x) × From s (read at).next rest) where
  pub lines_back : (is : List (ℕ × ℕ)) (xs : List A) (c : Cursor) (rest : List ℕ) → Both P is xs → c.number ≡ 0
      → From s c.at (lines_text line is xs rest) → ReadBack s (lines_of read verdict keep is c) xs c.line rest
  unfolding lines_of lines_text
  lines_back [] [] c rest b e f = record { items = refl; number = e; line = omega arith; past = f }
  lines_back [] (x ∷ xs) c rest b e f = absurd b
  lines_back (i ∷ is) [] c rest b e f = absurd b
  lines_back (i ∷ is) (x ∷ xs) c rest b e f =
      let l = read c.at in
      let o = one c.line c.at i x (lines_text line is xs rest) b.0 f in
      let r = lines_back is xs (record { at = l.next; line = c.line + 1; number = 0 }) rest b.1 refl o.2 in
      rw (pass_on c (verdict i l) l.next e o.0)
      (record {
        items = ap₂ (λ (a : A) (r : List A). a ∷ r) o.1 r.items;
        number = r.number;
        line = omega (arith, r.line);
        past = r.past;
      })

-- ---- words whose indexes are prescribed
prescribed_passes : (s : List ℕ) (l : Line) (i : ℕ × ℕ) (w : ℕ) {rest : List ℕ} → length s ≤ 16777216 → Finite w → Reads s l i.0 i.1 w rest → prescribed_verdict i l ≡ 0
prescribed_passes s l i w short fin r =
    rw (in_form_lem short r.past, r.first, r.second, r.word, eq-eqb i.0 i.0 refl, eq-eqb i.1 i.1 refl, fin)

pub words_back : (s : List ℕ) → length s ≤ 16777216 → (kind : Kind) (ws : List ℕ) (c : Cursor) (rest : List ℕ)
    → Both (λ i w. Fits kind.numbers i × Word w) kind.indexes ws → c.number ≡ 0
    → From s c.at (lines_text (kind_text kind.numbers kind.tag) kind.indexes ws rest) → ReadBack s (words_of s kind c) ws c.line rest
words_back s short kind =
    lines_back s (kind_line kind s) prescribed_verdict word_in (kind_text kind.numbers kind.tag) (λ i w. Fits kind.numbers i × Word w)
    (λ n at i w rest q f.
    let r = kind_from kind.numbers kind.tag i w q.0 q.1.0 f in
    (prescribed_passes s (kind_line kind s at) i w short q.1.1 r, r.word, r.past))
    kind.indexes
