-- Laws for the program's whole numbers: the series, term by term.
use Rattle.std.proofs.Common.{◌≡◌, ℕ, suc, ◌+◌, ◌-◌, ◌*◌, ◌/◌, ◌^◌, ◌<◌, ◌≤◌, refl, ap, ◌∙◌, mul-le-mul, div-mul-le_self, arith, lit<, lit≤}
use Rattle.logarithm.specs.fixed_point.Units.{horner}
use Rattle.logarithm.proofs.fixed_point.Horner.{square_small, later_small}

pub square_is : (z h : ℕ) → h ≡ 4 * z * z / 2 ^ 64 → h ≡ z * z / 2 ^ 62
square_is z h e = omega (arith, e)

scaled : (s t f h : ℕ) → f ≡ 4 * t → h ≡ s * f / 2 ^ 64 → h ≡ s * t / 2 ^ 62
scaled s t f h e q = let x : s * f ≡ 4 * (s * t) = omega (arith, ap (λ (n : ℕ). s * n) e) in omega (arith, q)

pub t_small : (z : ℕ) → 5 * z ≤ 2 ^ 62 → 25 * (z * z / 2 ^ 62) ≤ 2 ^ 62
t_small z h = square_small (2 ^ 62) z (z * z / 2 ^ 62) (lit< tt) h (div-mul-le_self (z * z) (2 ^ 62))

-- at the head of the loop, with k terms to come
pub record Summing (z s k : ℕ) : Type 0 where
  pub some : 0 < k
  pub most : k ≤ 10
  pub is : s ≡ horner (2 ^ 62) (z * z / 2 ^ 62) k (10 - k)

pub first_term : (z : ℕ) → Summing z 0 10
unfolding horner
first_term z = record { some = lit< tt; most = lit≤ tt; is = refl }

pub next_term : (z s k f h : ℕ) → Summing z s k → 1 < k → f ≡ 4 * (z * z / 2 ^ 62) → h ≡ s * f / 2 ^ 64 → Summing z (4611686018427387904 / (2 * (k - 1) + 1) + h) (k - 1)
unfolding horner
next_term z s k f h i l e q =
    let t = z * z / 2 ^ 62 in
    let n : suc (10 - k) ≡ 10 - (k - 1) = omega (arith, i.most) in
    let j : k ≡ suc (k - 1) = omega arith in
    let x : s ≡ horner (2 ^ 62) t (suc (k - 1)) (10 - k) = i.is ∙ ap (λ (m : ℕ). horner (2 ^ 62) t m (10 - k)) j in
    record {
      some = omega arith;
      most = omega (arith, i.most);
      is = ap (λ (m : ℕ). 2 ^ 62 / (2 * (k - 1) + 1) + m) (scaled s t f h e q ∙ ap (λ (m : ℕ). m * t / 2 ^ 62) x) ∙ ap (λ (m : ℕ). horner (2 ^ 62) t (k - 1) m) n;
    }

pub sum_small : (z s k : ℕ) → 5 * z ≤ 2 ^ 62 → Summing z s k → 72 * s ≤ 25 * 2 ^ 62
sum_small z s k h i =
    let j : k ≡ suc (k - 1) = omega (arith, i.some) in
    let x : s ≡ horner (2 ^ 62) (z * z / 2 ^ 62) (suc (k - 1)) (10 - k) = i.is ∙ ap (λ (m : ℕ). horner (2 ^ 62) (z * z / 2 ^ 62) m (10 - k)) j in
    omega (arith, x, later_small (2 ^ 62) (z * z / 2 ^ 62) (lit≤ tt) (t_small z h) (k - 1) (10 - k))

-- a product with at most a sixteenth is small
pub product_small : (s f h : ℕ) → s ≤ 2 ^ 62 → f ≤ 2 ^ 62 → h ≡ s * f / 2 ^ 64 → h ≤ 2 ^ 60
product_small s f h k l e = omega (arith, mul-le-mul k l)

pub term_fits : (z s k f h : ℕ) → 5 * z ≤ 2 ^ 62 → Summing z s k → f ≡ 4 * (z * z / 2 ^ 62) → h ≡ s * f / 2 ^ 64 → h ≤ 2 ^ 60
term_fits z s k f h l i e q = product_small s f h (omega (arith, sum_small z s k l i)) (omega (arith, e, t_small z l)) q

pub four : (z h : ℕ) → h ≡ 4 * z * z / 2 ^ 64 → 4 * h ≡ 4 * (z * z / 2 ^ 62)
four z h e = ap (λ (n : ℕ). 4 * n) (square_is z h e)

pub last_term : (z s k f h r : ℕ) → Summing z s k → k ≤ 1 → f ≡ 4 * (z * z / 2 ^ 62) → h ≡ s * f / 2 ^ 64 → r ≡ 4 * z * h / 2 ^ 64
    → z + r ≡ z * horner (2 ^ 62) (z * z / 2 ^ 62) 0 10 / 2 ^ 62
unfolding horner
last_term z s k f h r i l e q w =
    let t = z * z / 2 ^ 62 in
    let j : k ≡ 1 = omega (arith, i.some) in
    let x : s ≡ horner (2 ^ 62) t 1 9 = i.is ∙ ap (λ (m : ℕ). horner (2 ^ 62) t m (10 - m)) j in
    let y : h ≡ horner (2 ^ 62) t 1 9 * t / 2 ^ 62 = scaled s t f h e q ∙ ap (λ (m : ℕ). m * t / 2 ^ 62) x in
    let v : z + r ≡ z * (4611686018427387904 + h) / 2 ^ 62 = omega (arith, w) in
    v ∙ ap (λ (m : ℕ). z * (4611686018427387904 + m) / 2 ^ 62) y
