-- Laws for the program's whole numbers.
use mathlib.Core.Path.{◌≡◌}
use Prim.Native.Nat.{ℕ, ◌+◌, ◌-◌, ◌*◌, ◌/◌, ◌%◌, ◌^◌, ◌≤◌, ◌<◌}
use native.Mathlib.Nat.{mul-le-mul, mul-le-mul_left, sub-add_cancel}
use native.Mathlib.Omega.{arith}
use lib.Dec.{lit≤, lit<}

-- ---- inverse: x * d / 2 ^ 32 stays below n where x is, d / 2 ^ 32 being below 1
pub record Share (x d n : ℕ) : Type 0 where
  pub product : x * d < 2 ^ 64
  pub part : x * d / 4294967296 < n

share : (x d n : ℕ) → x < n → n ≤ 2 ^ 32 → d < 2 ^ 32 → Share x d n
share x d n l k h =
    let i : d ≤ 4294967295 = omega arith in
    record { product = omega (arith, mul-le-mul_left x i); part = omega (arith, mul-le-mul_left x i) }

pub record Terms (d k l : ℕ) : Type 0 where
  pub square : Share d d (2 ^ 32)
  pub cube : Share (k / 1048576 % 262144) d (2 ^ 18)
  pub fourth : Share (k % 1048576) (d * d / 4294967296) (2 ^ 20)
  pub slope : Share (l % 67108864) d (2 ^ 26)
  pub bend : Share (k / 1099511627776 - k / 1048576 % 262144 * d / 4294967296 + k % 1048576 * (d * d / 4294967296) / 4294967296) (d * d / 4294967296) (2 ^ 23)

pub terms : (d k l : ℕ) → d < 2 ^ 32 → k < 2 ^ 62 → Terms d k l
terms d k l h u =
    let s = share d d (2 ^ 32) h (lit≤ tt) h in
    let f = share (k % 1048576) (d * d / 4294967296) (2 ^ 20) (omega arith) (lit≤ tt) s.part in
    record {
      square = s;
      cube = share (k / 1048576 % 262144) d (2 ^ 18) (omega arith) (lit≤ tt) h;
      fourth = f;
      slope = share (l % 67108864) d (2 ^ 26) (omega arith) (lit≤ tt) h;
      bend =
          share (k / 1099511627776 - k / 1048576 % 262144 * d / 4294967296 + k % 1048576 * (d * d / 4294967296) / 4294967296) (d * d / 4294967296) (2 ^ 23)
          (sum_lt (k / 1099511627776) (k / 1048576 % 262144 * d / 4294967296) (k % 1048576 * (d * d / 4294967296) / 4294967296) (omega arith) f.part) (lit≤ tt) s.part;
    }
  where
    sum_lt : (a b c : ℕ) → a < 2 ^ 22 → c < 2 ^ 20 → a - b + c < 2 ^ 23
    sum_lt a b c h k = omega arith

-- ---- the digits
pub product_lt : (a b k l n : ℕ) → a ≤ k → b ≤ l → k * l < n → a * b < n
product_lt a b k l n h i j = omega (arith, mul-le-mul h i)

pub lower_le : (r v : ℕ) → r < 2 ^ 38 → v < 2 ^ 32 - 4 → r / 256 * (v + 4) / 17179869184 ≤ 2 ^ 28
lower_le r v h k = let p : r / 256 * (v + 4) < 2 ^ 62 + 1 = product_lt _ _ (2 ^ 30) (2 ^ 32) _ (omega arith) (omega arith) (lit< tt) in omega arith

-- with what each leaves
rest_is : (m s c r t rest : ℕ) → r + s * s ≡ m * 1024 → t + s * c ≡ r * 1048576 → rest + c * c ≡ t * 4194304 → rest + (s * 2097152 + c) * (s * 2097152 + c) ≡ m * 2 ^ 52
rest_is m s c r t rest e f g = omega arith

pub left : (m s c r : ℕ) → r + s * s ≡ m * 1024 → s * c ≤ r * 1048576 → c * c ≤ (r * 1048576 - s * c) * 4194304 → (r * 1048576 - s * c) * 4194304 - c * c + (s * 2097152 + c) * (s * 2097152 + c) ≡ m * 2 ^ 52
left m s c r e i j = rest_is m s c r (r * 1048576 - s * c) ((r * 1048576 - s * c) * 4194304 - c * c) e (sub-add_cancel i) (sub-add_cancel j)

pub digits_lt : (s c : ℕ) → s < 2 ^ 32 → c ≤ 2 ^ 28 → s * 2097152 + c < 2 ^ 54
digits_lt s c h k = omega arith
