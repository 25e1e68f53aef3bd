-- The fixed-point series is below the exact one by at most 3 units and what the terms left out come to.
use Rattle.std.proofs.Common.{◌≡◌, ℕ, zero, suc, ◌+◌, ◌-◌, ◌*◌, ◌/◌, ◌<◌, ◌≤◌, sym, ap, subst, subst₂, add-zero, mul-le-mul_right, mul-le-mul, mul-le-mul_left, mul-pos, zero-add, div-mul-le_self, le_of_mul-le-mul_right, arith}
use native.Mathlib.Nat.{lt-div-mul-add}
use Rattle.logarithm.specs.exact_log.Artanh.{power, under, den, num}
use Rattle.logarithm.proofs.exact_log.Bracket.{top_num, top_den, power_zero, power_suc, power_pos, gap, below_all, above_all}
use Rattle.logarithm.specs.fixed_point.Units.{ratio, square, horner, artanh_units}

-- ---- steps, over plain numbers

-- z = a * S / b and t = z * z / S, cut down, for an a / b of at most a fifth
pub fifth : (S a b z : ℕ) → 0 < b → 5 * a ≤ b → z * b ≤ a * S → 5 * z ≤ S
fifth S a b z B h l = le_of_mul-le-mul_right (omega (arith, mul-le-mul_right S h)) B

pub square_small : (S z t : ℕ) → 0 < S → 5 * z ≤ S → t * S ≤ z * z → 25 * t ≤ S
square_small S z t P h l = le_of_mul-le-mul_right (omega (arith, mul-le-mul h h)) P

square_low : (S a b z t : ℕ) → 0 < S → z * b ≤ a * S → t * S ≤ z * z → t * (b * b) ≤ a * a * S
square_low S a b z t P h l = le_of_mul-le-mul_right (omega (arith, mul-le-mul_right (b * b) l, mul-le-mul h h)) P

square_high : (S a b z t : ℕ) → 0 < S → 5 * z ≤ S → a * S ≤ (z + 1) * b → z * z < t * S + S → a * a * S ≤ (t + 2) * (b * b)
square_high S a b z t P q h l =
    let g : z * z + 2 * z + 1 ≤ (t + 2) * S = omega arith in
    le_of_mul-le-mul_right (omega (arith, mul-le-mul_right (b * b) g, mul-le-mul h h)) P

-- f = acc * t / S, cut down: t / S stands for p / q, that is a^2 / b^2
product_low : (S p q t acc f : ℕ) → 0 < S → t * q ≤ p * S → f * S ≤ acc * t → f * q ≤ acc * p
product_low S p q t acc f P h l = le_of_mul-le-mul_right (omega (arith, mul-le-mul_right q l, mul-le-mul_left acc h)) P

product_high : (S p q t acc f : ℕ) → 0 < S → p * S ≤ (t + 2) * q → acc * t < f * S + S → 2 * acc + 3 * (t + 2) ≤ S → p * (acc + 3) ≤ q * (f + 2)
product_high S p q t acc f P h l k =
    let g : (t + 2) * (acc + 3) ≤ (f + 2) * S = omega arith in
    le_of_mul-le-mul_right (omega (arith, mul-le-mul_right q g, mul-le-mul_right (acc + 3) h)) P

product_small : (S t acc f : ℕ) → 0 < S → 25 * t ≤ S → f * S ≤ acc * t → 25 * f ≤ acc
product_small S t acc f P h l = le_of_mul-le-mul_right (omega (arith, mul-le-mul_left acc h)) P

-- One step down the series: F and G are what the first terms and all terms come to, and Y is the odd power, all with common factors.
-- j is 2 k + 1, and c = S / j, cut down.
module _ (F G Y S c f acc p q j : ℕ) (J : 0 < j * q) where
  down_low : c * j ≤ S → f * q ≤ acc * p → F * (j * q) + S * Y * q + Y * (p * acc) * j ≤ G * (j * q) → F + Y * (c + f) ≤ G
  down_low hc hf ih = le_of_mul-le-mul_right (omega (arith, mul-le-mul_left (Y * q) hc, mul-le-mul_left (Y * j) hf)) J

  down_high : S ≤ (c + 1) * j → p * (acc + 3) ≤ q * (f + 2) → G * (j * q) ≤ F * (j * q) + S * Y * q + Y * (p * (acc + 3)) * j → G ≤ F + Y * (c + f + 3)
  down_high hc hf ih = le_of_mul-le-mul_right (omega (arith, mul-le-mul_left (Y * q) hc, mul-le-mul_left (Y * j) hf)) J

-- the common factors, where the first terms are N / D, all terms N' / D', and the odd powers A and B
group_first : (S N D A B q j D' : ℕ) → S * (N * (j * B) + A * D) * (B * q) * D' ≡ (S * N * B * D' * (j * q) + S * (A * D * D') * q) * B
group_first S N D A B q j D' = omega arith

group_odd : (A p acc D j B D' : ℕ) → A * p * acc * (D * (j * B)) * D' ≡ A * D * D' * (p * acc) * j * B
group_odd A p acc D j B D' = omega arith

group_all : (S N' D j B q : ℕ) → S * N' * (D * (j * B)) * (B * q) ≡ S * N' * D * B * (j * q) * B
group_all S N' D j B q = omega arith

module _ (S N D A B q p j c f acc N' D' : ℕ) (P : 0 < B) (J : 0 < j * q) where
  abbrev F : ℕ
  F = S * N * B * D'

  abbrev Y : ℕ
  Y = A * D * D'

  abbrev G : ℕ
  G = S * N' * D * B

  regrouped : (x : ℕ) → A * x * D * D' ≡ Y * x
  regrouped x = omega arith

  one_low : c * j ≤ S → f * q ≤ acc * p
      → S * (N * (j * B) + A * D) * (B * q) * D' + A * p * acc * (D * (j * B)) * D' ≤ S * N' * (D * (j * B)) * (B * q)
      → F + A * (c + f) * D * D' ≤ G
  one_low hc hf ih =
      let e = group_first S N D A B q j D' in
      let o = group_odd A p acc D j B D' in
      let g = group_all S N' D j B q in
      let x : (F * (j * q) + S * Y * q + Y * (p * acc) * j) * B ≤ G * (j * q) * B = joined _ _ _ _ _ _ (sym e) (sym o) (sym g) ih in
      subst (λ (y : ℕ). F + y ≤ G) (sym (regrouped (c + f))) (down_low F G Y S c f acc p q j J hc hf (le_of_mul-le-mul_right x P))
    where
      joined : (u v w u' v' w' : ℕ) → u' * B ≡ u → v' * B ≡ v → w' * B ≡ w → u + v ≤ w → (u' + v') * B ≤ w' * B
      joined u v w u' v' w' d e f h = omega arith

  one_high : S ≤ (c + 1) * j → p * (acc + 3) ≤ q * (f + 2)
      → S * N' * (D * (j * B)) * (B * q) ≤ S * (N * (j * B) + A * D) * (B * q) * D' + A * p * (acc + 3) * (D * (j * B)) * D'
      → G ≤ F + A * (c + f + 3) * D * D'
  one_high hc hf ih =
      let e = group_first S N D A B q j D' in
      let o = group_odd A p (acc + 3) D j B D' in
      let g = group_all S N' D j B q in
      let x : G * (j * q) * B ≤ (F * (j * q) + S * Y * q + Y * (p * (acc + 3)) * j) * B = joined _ _ _ _ _ _ (sym e) (sym o) (sym g) ih in
      subst (λ (y : ℕ). G ≤ F + y) (sym (regrouped (c + f + 3))) (down_high F G Y S c f acc p q j J hc hf (le_of_mul-le-mul_right x P))
    where
      joined : (u v w u' v' w' : ℕ) → u' * B ≡ u → v' * B ≡ v → w' * B ≡ w → w ≤ u + v → w' * B ≤ (u' + v') * B
      joined u v w u' v' w' d e f h = omega arith

-- ---- the recursion against the exact sums
module _ (S t : ℕ) (big : 64 ≤ S) (t_small : 25 * t ≤ S) where
  S_pos : 0 < S
  S_pos = omega arith

  -- from the second term on, what is summed is at most 25 / 72
  pub later_small : (k n : ℕ) → 72 * horner S t (suc k) n ≤ 25 * S
  unfolding horner
  later_small k zero = omega arith
  later_small k (suc n) =
      let c = S / (2 * suc k + 1) in
      let acc = horner S t (suc (suc k)) n in
      let h : 72 * acc ≤ 25 * S = later_small (suc k) n in
      let f : 25 * (acc * t / S) ≤ acc = product_small S t acc (acc * t / S) S_pos t_small (div-mul-le_self (acc * t) S) in
      let g : c * (2 * suc k + 1) ≤ S = div-mul-le_self S (2 * suc k + 1) in
      let e : c * 3 ≤ c * (2 * suc k + 1) = mul-le-mul_left c (omega arith) in
      omega arith

  all_small : (n : ℕ) → 72 * horner S t 0 n ≤ 73 * S
  unfolding horner
  all_small zero = omega arith
  all_small (suc n) =
      let acc = horner S t 1 n in
      let h : 72 * acc ≤ 25 * S = later_small 0 n in
      let f : 25 * (acc * t / S) ≤ acc = product_small S t acc (acc * t / S) S_pos t_small (div-mul-le_self (acc * t) S) in
      let g : S / 1 * 1 ≤ S = div-mul-le_self S 1 in
      omega arith

module _ (S a b t : ℕ) (big : 64 ≤ S) (B : 0 < b) (t_small : 25 * t ≤ S) (t_low : t * (b * b) ≤ a * a * S) (t_high : a * a * S ≤ (t + 2) * (b * b)) where
  P : 0 < S
  P = omega arith

  bb_pos : 0 < b * b
  bb_pos = mul-pos B B

  module _ (k n : ℕ) where
    abbrev j : ℕ
    j = 2 * k + 1

    abbrev acc : ℕ
    acc = horner S t (suc k) n

    abbrev N' : ℕ
    N' = num a b (suc k + n)

    abbrev D' : ℕ
    D' = den b (suc k + n)

    factor_pos : 0 < j * (b * b)
    factor_pos = mul-pos (omega arith) bb_pos

    factor_a : power a (suc k) ≡ power a k * (a * a)
    factor_a = power_suc a k

    factor_b : power b (suc k) ≡ power b k * (b * b)
    factor_b = power_suc b k

    step_low : S * num a b (suc k) * power b (suc k) * D' + power a (suc k) * acc * den b (suc k) * D' ≤ S * N' * den b (suc k) * power b (suc k)
        → S * num a b k * power b k * D' + power a k * horner S t k (suc n) * den b k * D' ≤ S * N' * den b k * power b k
    unfolding horner num den under
    step_low ih =
        let ih' = subst₂ (λ (x y : ℕ). S * num a b (suc k) * y * D' + x * acc * den b (suc k) * D' ≤ S * N' * den b (suc k) * y) factor_a factor_b ih in
        one_low S (num a b k) (den b k) (power a k) (power b k) (b * b) (a * a) j (S / j) (acc * t / S) acc N' D' (power_pos b k B) factor_pos
        (div-mul-le_self S j) (product_low S (a * a) (b * b) t acc (acc * t / S) P t_low (div-mul-le_self (acc * t) S)) ih'

    step_high : S * N' * den b (suc k) * power b (suc k) ≤ S * num a b (suc k) * power b (suc k) * D' + power a (suc k) * (acc + 3) * den b (suc k) * D'
        → S * N' * den b k * power b k ≤ S * num a b k * power b k * D' + power a k * (horner S t k (suc n) + 3) * den b k * D'
    unfolding horner num den under
    step_high ih =
        let ih' = subst₂ (λ (x y : ℕ). S * N' * den b (suc k) * y ≤ S * num a b (suc k) * y * D' + x * (acc + 3) * den b (suc k) * D') factor_a factor_b ih in
        let J : 0 < j = omega arith in
        one_high S (num a b k) (den b k) (power a k) (power b k) (b * b) (a * a) j (S / j) (acc * t / S) acc N' D' (power_pos b k B) factor_pos
        (omega (arith, lt-div-mul-add {a = S} J)) (product_high S (a * a) (b * b) t acc (acc * t / S) P t_high (lt-div-mul-add P) (omega (arith, later_small S t big t_small k n))) ih'

  next : (k n : ℕ) → suc k + n ≡ k + suc n
  next k n = omega arith

  -- what the first k terms and the next n by Horner's rule come to, against the first k + n terms
  sums_low : (k n : ℕ) → S * num a b k * power b k * den b (k + n) + power a k * horner S t k n * den b k * den b (k + n) ≤ S * num a b (k + n) * den b k * power b k
  unfolding horner
  sums_low k zero =
      subst (λ (i : ℕ). S * num a b k * power b k * den b i + power a k * 0 * den b k * den b i ≤ S * num a b i * den b k * power b k) (sym (add-zero k)) (omega arith)
  sums_low k (suc n) =
      subst (λ (i : ℕ). S * num a b k * power b k * den b i + power a k * horner S t k (suc n) * den b k * den b i ≤ S * num a b i * den b k * power b k) (next k n)
      (step_low k n (sums_low (suc k) n))

  sums_high : (k n : ℕ) → S * num a b (k + n) * den b k * power b k ≤ S * num a b k * power b k * den b (k + n) + power a k * (horner S t k n + 3) * den b k * den b (k + n)
  unfolding horner
  sums_high k zero =
      subst (λ (i : ℕ). S * num a b i * den b k * power b k ≤ S * num a b k * power b k * den b i + power a k * (0 + 3) * den b k * den b i) (sym (add-zero k)) (omega arith)
  sums_high k (suc n) =
      subst (λ (i : ℕ). S * num a b i * den b k * power b k ≤ S * num a b k * power b k * den b i + power a k * (horner S t k (suc n) + 3) * den b k * den b i) (next k n)
      (step_high k n (sums_high (suc k) n))

-- ---- with no first terms
none_low : (S a b p q H N D : ℕ) → p ≡ a → q ≡ b → S * 0 * q * D + p * H * 1 * D ≤ S * N * 1 * q → a * H * D ≤ S * N * b
none_low S a b p q H N D e f h = subst₂ (λ (x y : ℕ). x * H * D ≤ S * N * y) e f (omega arith)

none_high : (S a b p q H N D : ℕ) → p ≡ a → q ≡ b → S * N * 1 * q ≤ S * 0 * q * D + p * (H + 3) * 1 * D → S * N * b ≤ a * (H + 3) * D
none_high S a b p q H N D e f h = subst₂ (λ (x y : ℕ). S * N * y ≤ x * (H + 3) * D) e f (omega arith)

-- ---- times z
last_low : (S a b z H y N D : ℕ) → 0 < S * b → z * b ≤ a * S → y * S ≤ z * H → a * H * D ≤ S * N * b → y * D ≤ S * N
last_low S a b z H y N D P h k l =
    le_of_mul-le-mul_right (omega (arith, mul-le-mul_right (b * D) k, mul-le-mul_right (H * D) h, mul-le-mul_left S l)) P

last_high : (S a b z H y N D : ℕ) → 0 < S * b → a * S ≤ (z + 1) * b → z * H < y * S + S → 3 * z + H + 3 ≤ 2 * S → S * N * b ≤ a * (H + 3) * D → S * N ≤ (y + 3) * D
last_high S a b z H y N D P h k s l =
    let g : (z + 1) * (H + 3) ≤ (y + 3) * S = omega arith in
    le_of_mul-le-mul_right (omega (arith, mul-le-mul_right (b * D) g, mul-le-mul_right ((H + 3) * D) h, mul-le-mul_left S l)) P

-- ---- the terms left out
power_fifth : (a b k : ℕ) → 5 * a ≤ b → power 5 k * power a k ≤ power b k
power_fifth a b zero h = subst₂ (λ (x y : ℕ). power 5 0 * x ≤ y) (sym (power_zero a)) (sym (power_zero b)) (omega (arith, ap (λ (n : ℕ). n * a) (power_zero 5)))
power_fifth a b (suc k) h =
    let x = mul-le-mul (power_fifth a b k h) (mul-le-mul h h) in
    omega (arith, x, power_suc 5 k, power_suc b k, ap (λ (n : ℕ). power 5 (suc k) * n) (power_suc a k), ap (λ (n : ℕ). n * (power a k * (a * a))) (power_suc 5 k))

left_out : (S R a b A B o c g : ℕ) → 5 * a ≤ b → a * a + g ≡ b * b → o * A ≤ B → S * 25 ≤ R * (24 * (c * o)) → S * (A * (b * b)) ≤ R * (c * B * g)
left_out S R a b A B o c g h e l k =
    let x : 24 * (b * b) ≤ 25 * g = omega (arith, mul-le-mul h h) in
    let y : 24 * (S * A * (b * b)) ≤ 25 * (S * A * g) = omega (arith, mul-le-mul_left (S * A) x) in
    let u : 25 * (S * A * g) ≤ 24 * (R * c * o * (A * g)) = omega (arith, mul-le-mul_right (A * g) k) in
    let v : R * c * o * (A * g) ≤ R * c * B * g = omega (arith, mul-le-mul_left (R * c * g) l) in
    omega arith

top_high : (S y R N D A u b g : ℕ) → S * N ≤ (y + 3) * D → S * (A * (b * b)) ≤ R * (u * g) → S * (N * (u * g) + A * (b * b) * D) ≤ (y + (3 + R)) * (D * (u * g))
top_high S y R N D A u b g h k = omega (arith, mul-le-mul_right (u * g) h, mul-le-mul_right D k)

-- ---- the law, for any units S and number of terms T
module _ (S a b T : ℕ) (big : 64 ≤ S) (B : 0 < b) (h : 5 * a ≤ b) where
  abbrev z : ℕ
  z = ratio S a b

  abbrev t : ℕ
  t = square S z

  S-some : 0 < S
  S-some = omega arith

  SB : 0 < S * b
  SB = mul-pos S-some B

  z_low : z * b ≤ a * S
  z_low = div-mul-le_self (a * S) b

  z_high : a * S ≤ (z + 1) * b
  z_high = omega (arith, lt-div-mul-add {a = a * S} B)

  z_small : 5 * z ≤ S
  z_small = fifth S a b z B h z_low

  t_cut : t * S ≤ z * z
  t_cut = div-mul-le_self (z * z) S

  t_small : 25 * t ≤ S
  t_small = square_small S z t S-some z_small t_cut

  t_low : t * (b * b) ≤ a * a * S
  t_low = square_low S a b z t S-some z_low t_cut

  t_high : a * a * S ≤ (t + 2) * (b * b)
  t_high = square_high S a b z t S-some z_small z_high (lt-div-mul-add S-some)

  abbrev H : ℕ
  H = horner S t 0 T

  y_low : artanh_units S a b T * den b T ≤ S * num a b T
  unfolding artanh_units num den
  y_low =
      last_low S a b z H (z * H / S) (num a b T) (den b T) SB z_low (div-mul-le_self (z * H) S)
      (none_low S a b (power a 0) (power b 0) H (num a b T) (den b T) (power_zero a) (power_zero b)
      (subst (λ (i : ℕ). S * 0 * power b 0 * den b i + power a 0 * H * 1 * den b i ≤ S * num a b i * 1 * power b 0) (zero-add T) (sums_low S a b t big B t_small t_low t_high 0 T)))

  y_high : S * num a b T ≤ (artanh_units S a b T + 3) * den b T
  unfolding artanh_units num den
  y_high =
      last_high S a b z H (z * H / S) (num a b T) (den b T) SB z_high (lt-div-mul-add S-some) (omega (arith, z_small, all_small S t big t_small T))
      (none_high S a b (power a 0) (power b 0) H (num a b T) (den b T) (power_zero a) (power_zero b)
      (subst (λ (i : ℕ). S * num a b i * 1 * power b 0 ≤ S * 0 * power b 0 * den b i + power a 0 * (H + 3) * 1 * den b i) (zero-add T) (sums_high S a b t big B t_small t_low t_high 0 T)))

  -- it is at most 73 / 360
  pub units_small : 360 * artanh_units S a b T ≤ 73 * S
  unfolding artanh_units
  units_small =
      let x : z * H / S * S ≤ z * H = div-mul-le_self (z * H) S in
      let y : 72 * H ≤ 73 * S = all_small S t big t_small T in
      le_of_mul-le-mul_right (omega (arith, mul-le-mul z_small y)) S-some

  less : a < b
  less = omega arith

  -- the fixed-point value is below every upper end of the exact series
  pub units_low : (N : ℕ) → artanh_units S a b T * top_den a b N ≤ S * top_num a b N
  units_low N = below_all S a b (artanh_units S a b T) T N less y_low

  -- and every lower end of the exact series is above it by at most 3 + R units, where the terms left out come to at most R
  pub units_high : (R : ℕ) → S * 25 ≤ R * (24 * under 5 T) → (N : ℕ) → S * num a b N ≤ (artanh_units S a b T + (3 + R)) * den b N
  unfolding under
  units_high R k N =
      above_all S a b (artanh_units S a b T + (3 + R)) T N less
      (top_high S (artanh_units S a b T) R (num a b T) (den b T) (power a T) (under b T) b (b * b - a * a) y_high
      (left_out S R a b (power a T) (power b T) (power 5 T) (2 * T + 1) (b * b - a * a) h (gap a b less) (power_fifth a b T h) k))
