-- Two whole numbers of units, put together in floats with one rounding.
use Rattle.std.proofs.Common.{◌≡◌, ℕ, ◌+◌, ◌-◌, ◌*◌, ◌^◌, ◌<◌, ◌≤◌, Bool, true, false, cond, not, ◌&&◌, ltb, sym, refl, ap, ◌∙◌, subst, ap₂, lt_of_lt_of_le, mul_assoc, lt_of_mul-lt-mul_right, mul-lt-mul_of_pos_right, mul-pos, zero-mul, sub-add_cancel, arith, lit<, lit≤, pow_pos, ltb-false, ltb-true, le-ltb, lt-ltb}
use mathlib.Core.Bool.{beq}
use lib.Ieee.{Float, nan, inf, fin, binary64, up, down, round, neg, add, sub, sum, of_bits}
use lib.Ieee.Fits.{down_pos}
use lib.Ieee.Exact.{HasValue, round_exact, odd_sign}
use lib.Ieee.Scale.{round_same}
use Rattle.float_bits.proofs.wide_product.Tests.{same_test}
use Rattle.float_bits.proofs.double.Value.{rescale}
use Rattle.float_bits.proofs.double.Bits.{normal_bits}
use Rattle.logarithm.specs.exact_log.Log.{apart}

-- ---- sums of the same fractions
module _ (A B C a b c : ℕ) (P : 0 < C) (p : 0 < c) (e : A * c ≡ a * C) (f : B * c ≡ b * C) where
  same_order : ltb A B ≡ ltb a b
  same_order =
      same_test A B a b (λ (h : A < B). lt_of_mul-lt-mul_right C (omega (arith, mul-lt-mul_of_pos_right h p)))
      (λ (h : a < b). lt_of_mul-lt-mul_right c (omega (arith, mul-lt-mul_of_pos_right h P)))

  less_same : (A - B) * c ≡ (a - b) * C
  less_same = go (ltb A B) refl
    where
      nothing : (x y z : ℕ) → x ≤ y → (x - y) * z ≡ 0
      nothing x y z h = let q : x - y ≡ 0 = omega arith in ap (λ (n : ℕ). n * z) q ∙ zero-mul z

      go : (t : Bool) → ltb A B ≡ t → (A - B) * c ≡ (a - b) * C
      go true t =
          let h : A ≤ B = omega (arith, ltb-true A B t) in
          let k : a ≤ b = omega (arith, ltb-true a b (sym same_order ∙ t)) in
          nothing A B c h ∙ sym (nothing a b C k)
      go false t =
          let h : B ≤ A = ltb-false A B t in
          let k : b ≤ a = ltb-false a b (sym same_order ∙ t) in
          let q : A - B + B ≡ A = sub-add_cancel h in
          let r : a - b + b ≡ a = sub-add_cancel k in
          left (A - B) (a - b) q r
        where
          left : (g d : ℕ) → g + B ≡ A → d + b ≡ a → g * c ≡ d * C
          left g d q r = omega (arith, ap (λ (n : ℕ). n * c) q, ap (λ (n : ℕ). n * C) r)

sum_same : (s t : Bool) (A B C a b c : ℕ) → 0 < C → 0 < c → A * c ≡ a * C → B * c ≡ b * C → sum binary64 s A t B C ≡ sum binary64 s a t b c
unfolding sum
sum_same s t A B C a b c P p e f =
    ap₂ (λ (x y : Float). cond (beq s t) x y) (round_same binary64 s (A + B) C (a + b) c P p (omega arith))
    (ap₂ (λ (x y : Float). cond (ltb A B) x y) (round_same binary64 t (B - A) C (b - a) c P p (less_same B A C b a c P p f e))
    (round_same binary64 (s && ltb B A) (A - B) C (a - b) c P p (less_same A B C a b c P p e f))
    ∙ ap₂ (λ (u w : Bool). cond u (round binary64 t (b - a) c) (round binary64 (s && w) (a - b) c)) (same_order A B C a b c P p e f) (same_order B A C b a c P p f e))

-- the sum of two floats by their signs and sizes
cross : (X c a p q : ℕ) → X * c ≡ a * p → X * q * c ≡ a * (p * q)
cross X c a p q e = omega (arith, ap (λ (x : ℕ). x * q) e)

cross_right : (Y c b p q : ℕ) → Y * c ≡ b * q → Y * p * c ≡ b * (p * q)
cross_right Y c b p q e = omega (arith, ap (λ (x : ℕ). x * p) e)

add_is : (x y : Float) (s t : Bool) (a b c : ℕ) → 0 < c → HasValue x s a c → HasValue y t b c → add binary64 x y ≡ sum binary64 s a t b c
unfolding add
add_is nan y s t a b c C v w = absurd v
add_is (inf i) y s t a b c C v w = absurd v
add_is (fin i m e) nan s t a b c C v w = absurd w
add_is (fin i m e) (inf j) s t a b c C v w = absurd w
add_is (fin i m e) (fin j n k) s t a b c C v w =
    ap₂ (λ (i j : Bool). sum binary64 i (m * up e * down k) j (n * up k * down e) (down e * down k)) v.0 w.0
    ∙ sum_same s t (m * up e * down k) (n * up k * down e) (down e * down k) a b c (mul-pos (down_pos e) (down_pos k)) C (cross (m * up e) c a (down e) (down k) v.1) (cross_right (n * up k) c b (down e) (down k) w.1)

-- ---- an exact difference: a - b over c
less_is : (x : Float) (b c : ℕ) → HasValue x false b c → HasValue (neg x) true b c
unfolding neg
less_is nan b c v = absurd v
less_is (inf s) b c v = absurd v
less_is (fin s m e) b c v = (ap not v.0, v.1)

exact : (s : Bool) (n c j : ℕ) → 0 < c → n < 2 ^ 53 → n * 2 ^ 1074 ≡ n * 2 ^ j * c → 2 ^ 53 * 2 ^ j ≤ 2 ^ 2098 → HasValue (round binary64 s n c) s n c
exact s n c j C h e l = round_exact binary64 s n c n j C h (lt_of_lt_of_le (mul-lt-mul_of_pos_right h (pow_pos j)) l) e

difference : (a b c j : ℕ) → 0 < c → a < 2 ^ 53 → b < 2 ^ 53 → ((n : ℕ) → n * 2 ^ 1074 ≡ n * 2 ^ j * c) → 2 ^ 53 * 2 ^ j ≤ 2 ^ 2098
    → HasValue (sum binary64 false a true b c) (ltb a b) (apart a b) c
unfolding sum
difference a b c j C A B e l = go (ltb a b) refl
  where
    go : (t : Bool) → ltb a b ≡ t → HasValue (cond t (round binary64 true (b - a) c) (round binary64 false (a - b) c)) t (apart a b) c
    go true t = let q : b - a ≡ apart a b = omega (arith, ltb-true a b t) in subst (λ (n : ℕ). HasValue (round binary64 true (b - a) c) true n c) q (exact true (b - a) c j C (omega arith) (e (b - a)) l)
    go false t = let q : a - b ≡ apart a b = omega (arith, ltb-false a b t) in subst (λ (n : ℕ). HasValue (round binary64 false (a - b) c) false n c) q (exact false (a - b) c j C (omega arith) (e (a - b)) l)

minus : (x y : Float) (a b c j : ℕ) → 0 < c → a < 2 ^ 53 → b < 2 ^ 53 → ((n : ℕ) → n * 2 ^ 1074 ≡ n * 2 ^ j * c) → 2 ^ 53 * 2 ^ j ≤ 2 ^ 2098 → HasValue x false a c → HasValue y false b c
    → HasValue (sub binary64 x y) (ltb a b) (apart a b) c
unfolding sub
minus x y a b c j C A B e l v w = subst (λ (z : Float). HasValue z (ltb a b) (apart a b) c) (sym (add_is x (neg y) false true a b c C v (less_is y b c w))) (difference a b c j C A B e l)

-- ---- two differences together: M - N is P + Q, P - Q or Q - P
module _ (M N P Q : ℕ) where
  rounds : (t : Bool) (n : ℕ) → t ≡ ltb M N → n ≡ apart M N → round binary64 t n (2 ^ 62) ≡ round binary64 (ltb M N) (apart M N) (2 ^ 62)
  rounds t n p q = ap₂ (λ (u : Bool) (k : ℕ). round binary64 u k (2 ^ 62)) p q

  up_up : M ≡ N + (P + Q) → round binary64 false (P + Q) (2 ^ 62) ≡ round binary64 (ltb M N) (apart M N) (2 ^ 62)
  up_up h = rounds false (P + Q) (sym (le-ltb M N (omega arith))) (omega arith)

  down_down : M + (P + Q) ≡ N → 0 < Q → round binary64 true (P + Q) (2 ^ 62) ≡ round binary64 (ltb M N) (apart M N) (2 ^ 62)
  down_down h k = rounds true (P + Q) (sym (lt-ltb M N (omega arith))) (omega arith)

  up_down : M + Q ≡ N + P → (t : Bool) → ltb P Q ≡ t → cond t (round binary64 true (Q - P) (2 ^ 62)) (round binary64 false (P - Q) (2 ^ 62)) ≡ round binary64 (ltb M N) (apart M N) (2 ^ 62)
  up_down h true t = let l : P < Q = ltb-true P Q t in rounds true (Q - P) (sym (lt-ltb M N (omega arith))) (omega arith)
  up_down h false t = let l : Q ≤ P = ltb-false P Q t in rounds false (P - Q) (sym (le-ltb M N (omega arith))) (omega arith)

  down_up : M + P ≡ N + Q → (t : Bool) → ltb P Q ≡ t → cond t (round binary64 false (Q - P) (2 ^ 62)) (round binary64 (ltb Q P) (P - Q) (2 ^ 62)) ≡ round binary64 (ltb M N) (apart M N) (2 ^ 62)
  down_up h true t = let l : P < Q = ltb-true P Q t in rounds false (Q - P) (sym (le-ltb M N (omega arith))) (omega arith)
  down_up h false t = let l : Q ≤ P = ltb-false P Q t in rounds (ltb Q P) (P - Q) (same_test Q P M N (λ (x : Q < P). omega arith) (λ (x : M < N). omega arith)) (omega arith)

-- the first in units of 2^32
signed_sum : (a b d e : ℕ) → sum binary64 (ltb a b) (apart a b * 2 ^ 32) (ltb d e) (apart d e) (2 ^ 62) ≡ round binary64 (ltb (a * 2 ^ 32 + d) (b * 2 ^ 32 + e)) (apart (a * 2 ^ 32 + d) (b * 2 ^ 32 + e)) (2 ^ 62)
unfolding sum
signed_sum a b d e = go (ltb a b) (ltb d e) refl refl
  where
    M : ℕ
    M = a * 2 ^ 32 + d

    N : ℕ
    N = b * 2 ^ 32 + e

    P : ℕ
    P = apart a b * 2 ^ 32

    Q : ℕ
    Q = apart d e

    go : (s t : Bool) → ltb a b ≡ s → ltb d e ≡ t → cond (beq s t) (round binary64 s (P + Q) (2 ^ 62)) (cond (ltb P Q) (round binary64 t (Q - P) (2 ^ 62)) (round binary64 (s && ltb Q P) (P - Q) (2 ^ 62))) ≡ round binary64 (ltb M N) (apart M N) (2 ^ 62)
    go true true p q = down_down M N P Q (omega (arith, ltb-true a b p, ltb-true d e q)) (omega (arith, ltb-true d e q))
    go false false p q = up_up M N P Q (omega (arith, ltb-false a b p, ltb-false d e q))
    go false true p q = up_down M N P Q (omega (arith, ltb-false a b p, ltb-true d e q)) (ltb P Q) refl
    go true false p q = down_up M N P Q (omega (arith, ltb-true a b p, ltb-false d e q)) (ltb P Q) refl

-- ---- n as the last 52 digits of a double: 2^52 + n in units of 2^-30, or of 2^-62
at_30 : (n : ℕ) → n < 2 ^ 52 → HasValue (of_bits binary64 (4706261610602168320 + n)) false (4503599627370496 + n) (2 ^ 30)
at_30 n h =
    let e : 1044 * 4503599627370496 + (4503599627370496 + n) ≡ 4706261610602168320 + n = omega arith in
    subst (λ (k : ℕ). HasValue (of_bits binary64 k) false (4503599627370496 + n) (2 ^ 30)) e
    (rescale (of_bits binary64 (1044 * 4503599627370496 + (4503599627370496 + n))) false ((4503599627370496 + n) * 2 ^ 1044) (2 ^ 1074) (4503599627370496 + n) (2 ^ 30) (lit< tt) (sym (mul_assoc (4503599627370496 + n) (2 ^ 1044) (2 ^ 30)))
    (subst (λ (x : Float). HasValue x false ((4503599627370496 + n) * 2 ^ 1044) (2 ^ 1074)) (sym (normal_bits 1044 (4503599627370496 + n) (lit< tt) (omega arith) (omega arith))) (odd_sign 53 false (4503599627370496 + n) 1044 1074)))

at_62 : (n : ℕ) → n < 2 ^ 52 → HasValue (of_bits binary64 (4562146422526312448 + n)) false (4503599627370496 + n) (2 ^ 62)
at_62 n h =
    let e : 1012 * 4503599627370496 + (4503599627370496 + n) ≡ 4562146422526312448 + n = omega arith in
    subst (λ (k : ℕ). HasValue (of_bits binary64 k) false (4503599627370496 + n) (2 ^ 62)) e
    (rescale (of_bits binary64 (1012 * 4503599627370496 + (4503599627370496 + n))) false ((4503599627370496 + n) * 2 ^ 1012) (2 ^ 1074) (4503599627370496 + n) (2 ^ 62) (lit< tt) (sym (mul_assoc (4503599627370496 + n) (2 ^ 1012) (2 ^ 62)))
    (subst (λ (x : Float). HasValue x false ((4503599627370496 + n) * 2 ^ 1012) (2 ^ 1074)) (sym (normal_bits 1012 (4503599627370496 + n) (lit< tt) (omega arith) (omega arith))) (odd_sign 53 false (4503599627370496 + n) 1012 1074)))

-- in units of 2^-62 instead
finer : (x : Float) (s : Bool) (n : ℕ) → HasValue x s n (2 ^ 30) → HasValue x s (n * 2 ^ 32) (2 ^ 62)
finer x s n v = rescale x s n (2 ^ 30) (n * 2 ^ 32) (2 ^ 62) (lit< tt) (omega arith) v

-- the program's sum: h * 2^32 + l less 801483923306 * 2^32 + 4404725618868, its constants as bits
pub in_floats : (h l : ℕ) → h < 2 ^ 52 → l < 2 ^ 52
    → add binary64 (sub binary64 (of_bits binary64 (4706261610602168320 + h)) (of_bits binary64 4706262412086091626)) (sub binary64 (of_bits binary64 (4562146422526312448 + l)) (of_bits binary64 4562150827251931316))
    ≡ round binary64 (ltb (h * 2 ^ 32 + l) 3442347243273767819444) (apart (h * 2 ^ 32 + l) 3442347243273767819444) (2 ^ 62)
in_floats h l H L =
    let a = 4503599627370496 + h in
    let b = 4503599627370496 + 801483923306 in
    let d = 4503599627370496 + l in
    let e = 4503599627370496 + 4404725618868 in
    let x = of_bits binary64 (4706261610602168320 + h) in
    let y = of_bits binary64 4706262412086091626 in
    let z = of_bits binary64 (4562146422526312448 + l) in
    let w = of_bits binary64 4562150827251931316 in
    let v = minus x y a b (2 ^ 30) 1044 (lit< tt) (omega arith) (lit< tt) (λ (n : ℕ). sym (mul_assoc n (2 ^ 1044) (2 ^ 30))) (lit≤ tt) (at_30 h H) (at_30 801483923306 (lit< tt)) in
    let u = minus z w d e (2 ^ 62) 1012 (lit< tt) (omega arith) (lit< tt) (λ (n : ℕ). sym (mul_assoc n (2 ^ 1012) (2 ^ 62))) (lit≤ tt) (at_62 l L) (at_62 4404725618868 (lit< tt)) in
    add_is (sub binary64 x y) (sub binary64 z w) (ltb a b) (ltb d e) (apart a b * 2 ^ 32) (apart d e) (2 ^ 62) (lit< tt) (finer (sub binary64 x y) (ltb a b) (apart a b) v) u
    ∙ signed_sum a b d e
    ∙ moved (h * 2 ^ 32 + l) (a * 2 ^ 32 + d) (b * 2 ^ 32 + e) (omega arith) (omega arith)
  where
    moved : (m M N : ℕ) → M ≡ m + 19342813118337666422669312 → N ≡ 3442347243273767819444 + 19342813118337666422669312 → round binary64 (ltb M N) (apart M N) (2 ^ 62) ≡ round binary64 (ltb m 3442347243273767819444) (apart m 3442347243273767819444) (2 ^ 62)
    moved m M N p q =
        ap₂ (λ (t : Bool) (n : ℕ). round binary64 t n (2 ^ 62))
        (same_test M N m 3442347243273767819444 (λ (k : M < N). omega arith) (λ (k : m < 3442347243273767819444). omega arith)) (omega arith)
