-- What a remainder says of the nearest whole number.
use mathlib.Core.Path.{◌≡◌, refl, sym, subst}
use mathlib.Core.Bool.{Bool, true, false}
use Prim.Native.Nat.{ℕ, ◌+◌, ◌-◌, ◌*◌, ◌^◌, ◌≤◌, ◌<◌}
use native.Mathlib.Nat.{add-zero}
use native.Mathlib.Omega.{arith}
use borrow.Author.Tests.{ltb-true, ltb-false}
use lib.Dec.{ltb}
use mir.Val.{bool_byte}
use Rattle.square_root.specs.whole_root.Whole.{rounded}
use Rattle.square_root.proofs.whole_root.Whole.{Near, near_here, near_up, is_rounded}

by_rest : (b : Bool) (n g rest : ℕ) → ltb g rest ≡ b → 0 < n → n ≡ rest + g * g → rest ≤ 3 * g + 2 → Near (g + bool_byte b) n
by_rest true n g rest t p e h = near_up g n (omega (arith, ltb-true g rest t)) (omega arith)
by_rest false n g rest t p e h = subst (λ (x : ℕ). Near x n) (sym (add-zero g)) (near_here g n p (omega arith) (omega (arith, ltb-false g rest t)))

pub from_rest : (m g rest x : ℕ) → 2 ^ 52 ≤ m → m ≤ 2 ^ 54 - 2 → rest + g * g ≡ m * 2 ^ 52 → rest ≤ 3 * g + 2 → x ≡ bool_byte (ltb g rest) → g + x ≡ rounded (m * 2 ^ 52)
from_rest m g rest x l h n u e =
    is_rounded (g + x) (m * 2 ^ 52) (omega arith) (omega arith)
    (subst (λ (y : ℕ). Near (g + y) (m * 2 ^ 52)) (sym e) (by_rest (ltb g rest) (m * 2 ^ 52) g rest refl (omega arith) (sym n) u))

-- of the whole root
pub from_floor : (m r n x : ℕ) → 2 ^ 52 ≤ m → m ≤ 2 ^ 54 - 2 → n ≡ m * 2 ^ 52 → r * r ≤ n → n < (r + 1) * (r + 1) → x ≡ bool_byte (ltb r (n - r * r)) → r + x ≡ rounded (m * 2 ^ 52)
from_floor m r n x l h e low high b = from_rest m r (n - r * r) x l h (omega arith) (omega arith) b
