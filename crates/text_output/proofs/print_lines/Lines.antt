-- The lines: their lengths, and that their parts written one behind the other are the line.
use Prim.Native.Nat.{ℕ, ◌+◌, ◌≤◌, ◌<◌}
use mathlib.Core.Path.{◌≡◌, refl, sym, ap, subst, ◌∙◌}
use mathlib.Core.List.{List, [], ◌∷◌, ◌++◌}
use native.Mathlib.Omega.{arith}
use lib.Dec.{lit<}
use lib.ListN.{length, length-append}
use lib.Ieee.{Float, binary64, to_bits}
use Rattle.storage.specs.Part.{store}
use Rattle.sheet.specs.Line.{tab, lf}
use Rattle.factor_output.specs.Print.{number, word, pivot_tag, refused_tag, pivot_line, refused_line}
use Rattle.text_output.proofs.Numbers.{number_length, number_short, hexadecimal_length}
use Rattle.text_output.specs.Written.{Put}
use Rattle.text_output.proofs.Written.{put_then, put_field}

-- a double's word has 16 digits
pub word_length : (x : Float) → length (word x) ≡ 16
word_length x = hexadecimal_length 16 (to_bits binary64 x)

-- ---- a tag t and three fields, whatever they are
abbrev line : List ℕ → List ℕ → List ℕ → List ℕ → List ℕ
line t a b c = t ++ a ++ (tab ∷ b) ++ (tab ∷ c) ++ (lf ∷ [])

-- its bytes are those of its parts, two tabs and LF
line_length : (t a b c : List ℕ) → length (line t a b c) ≡ length t + length a + length b + length c + 3
line_length t a b c = simp length-append (omega arith)

-- its parts written one behind the other
line_put : (at : ℕ) (t a b c w : List ℕ) {p q r s u v z : ℕ} {w₁ w₂ w₃ w₄ w₅ w₆ w₇ : List ℕ} → at + length (line t a b c) ≤ length w → Put at t w p w₁
    → Put p a w₁ q w₂ → Put q (tab ∷ []) w₂ r w₃ → Put r b w₃ s w₄ → Put s (tab ∷ []) w₄ u w₅ → Put u c w₅ v w₆ → Put v (lf ∷ []) w₆ z w₇
    → Put at (line t a b c) w z w₇
line_put at t a b c w fits p q r s u v y =
    let n = line_length t a b c in
    let two = put_then at t a w (omega arith) p q in
    let four = put_field at (t ++ a) tab b w (simp length-append (omega arith)) two r s in
    let six = put_field at (t ++ a ++ (tab ∷ b)) tab c w (simp length-append (omega arith)) four u v in
    put_then at (t ++ a ++ (tab ∷ b) ++ (tab ∷ c)) (lf ∷ []) w (simp length-append (omega arith)) six y

-- ---- the line of a pivot

-- it is such a line
pivot_line_lem : (j r : ℕ) (x : Float) → pivot_line j r x ≡ line pivot_tag (number j) (number r) (word x)
unfolding pivot_line
pivot_line_lem j r x = refl

-- its tag, two tabs, LF and the word are 25 bytes
pub pivot_length : (j r : ℕ) (x : Float) → length (pivot_line j r x) ≡ 25 + length (number j) + length (number r)
pivot_length j r x = ap length (pivot_line_lem j r x) ∙ line_length pivot_tag (number j) (number r) (word x) ∙ omega (arith, word_length x)

-- with any numbers it has at most 65
pub pivot_long : (j r : ℕ) (x : Float) → length (pivot_line j r x) ≤ 65
pivot_long j r x = omega (arith, pivot_length j r x, number_length j, number_length r)

-- with a block below 10 and a row below 10000 it has at most 31
pub pivot_short : (block row : ℕ) (x : Float) → block < 10 → row < 10000 → length (pivot_line block row x) ≤ 31
pivot_short block row x h k = omega (arith, pivot_length block row x, number_short 1 block (lit< tt) h, number_short 4 row (lit< tt) k)

-- what `put_pivot` writes, part by part
pub pivot_put : (at j r : ℕ) (x : Float) (w : List ℕ) {p q s u v y z : ℕ} {w₁ w₂ w₃ w₄ w₅ w₆ w₇ : List ℕ} → at + 65 ≤ length w → Put at pivot_tag w p w₁
    → Put p (number j) w₁ q w₂ → Put q (tab ∷ []) w₂ s w₃ → Put s (number r) w₃ u w₄ → Put u (tab ∷ []) w₄ v w₅ → (y ≡ v + 16) × (w₆ ≡ store v (word x) w₅) → Put y (lf ∷ []) w₆ z w₇
    → Put at (pivot_line j r x) w z w₇
pivot_put at j r x w {z = z} {w₇ = w₇} fits p q s u v y e =
    subst (λ (l : List ℕ). Put at l w z w₇) (sym (pivot_line_lem j r x))
    (line_put at pivot_tag (number j) (number r) (word x) w (omega (arith, ap length (pivot_line_lem j r x), pivot_long j r x)) p q s u v (omega (arith, y.0, word_length x), y.1) e)

-- ---- the line of a refusal

-- it is such a line
refused_line_lem : (n a b : ℕ) → refused_line n a b ≡ line refused_tag (number n) (number a) (number b)
unfolding refused_line
refused_line_lem n a b = refl

-- its tag, two tabs and LF are 11 bytes
pub refused_length : (n a b : ℕ) → length (refused_line n a b) ≡ 11 + length (number n) + length (number a) + length (number b)
refused_length n a b = ap length (refused_line_lem n a b) ∙ line_length refused_tag (number n) (number a) (number b) ∙ omega arith

-- with any numbers it has at most 71
pub refused_long : (n a b : ℕ) → length (refused_line n a b) ≤ 71
refused_long n a b = omega (arith, refused_length n a b, number_length n, number_length a, number_length b)

-- what `put_refused` writes, part by part
pub refused_put : (at n a b : ℕ) (w : List ℕ) {p q s u v y z : ℕ} {w₁ w₂ w₃ w₄ w₅ w₆ w₇ : List ℕ} → at + 71 ≤ length w → Put at refused_tag w p w₁
    → Put p (number n) w₁ q w₂ → Put q (tab ∷ []) w₂ s w₃ → Put s (number a) w₃ u w₄ → Put u (tab ∷ []) w₄ v w₅ → Put v (number b) w₅ y w₆ → Put y (lf ∷ []) w₆ z w₇
    → Put at (refused_line n a b) w z w₇
refused_put at n a b w {z = z} {w₇ = w₇} fits p q s u v y e =
    subst (λ (l : List ℕ). Put at l w z w₇) (sym (refused_line_lem n a b))
    (line_put at refused_tag (number n) (number a) (number b) w (omega (arith, ap length (refused_line_lem n a b), refused_long n a b)) p q s u v y e)
