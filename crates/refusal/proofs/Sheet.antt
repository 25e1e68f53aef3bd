-- The refusals of a sheet, 1 to 9, have the number that they are asked for, and 9 its line.
use Prim.Native.Nat.{ℕ, zero, suc, ◌≤◌}
use mathlib.Core.Path.{◌≡◌, refl}
use native.Mathlib.Omega.{arith}
use Rattle.refusal.specs.Numbers.{numbers_of, refusal}

pub sheet_number : (n line : ℕ) → 1 ≤ n → n ≤ 9 → (numbers_of (refusal n line 0)).number ≡ n
sheet_number zero line l h = absurd (omega arith)
sheet_number (suc zero) line l h = refl
sheet_number (suc (suc zero)) line l h = refl
sheet_number (suc (suc (suc zero))) line l h = refl
sheet_number (suc (suc (suc (suc zero)))) line l h = refl
sheet_number (suc (suc (suc (suc (suc zero))))) line l h = refl
sheet_number (suc (suc (suc (suc (suc (suc zero)))))) line l h = refl
sheet_number (suc (suc (suc (suc (suc (suc (suc zero))))))) line l h = refl
sheet_number (suc (suc (suc (suc (suc (suc (suc (suc zero)))))))) line l h = refl
sheet_number (suc (suc (suc (suc (suc (suc (suc (suc (suc zero))))))))) line l h = refl
sheet_number (suc (suc (suc (suc (suc (suc (suc (suc (suc (suc n)))))))))) line l h = absurd (omega arith)

pub nine_line : (n line : ℕ) → n ≡ 9 → (numbers_of (refusal n line 0)).first ≡ line
nine_line n line e = rw e refl
