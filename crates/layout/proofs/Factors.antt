-- The kinds of the factors.
use Prim.Native.Nat.{ℕ, zero, suc, ◌<◌}
use mathlib.Core.Path.{◌≡◌, refl}
use mathlib.Core.Bool.{◌&&◌, ◌||◌}
use native.Mathlib.Omega.{arith}
use lib.Dec.{eqb}
use borrow.Author.Tests.{ne_eqb}
use Rattle.layout.specs.declared.Layout.{Layout}
use Rattle.layout.specs.declared.FactorKind.TheVariants.{Diagonal, Packed}
use Rattle.layout.specs.Shapes.{pick, factor_kind}

module _ (y : Layout) where
  -- by tests
  pub kind_is : (j : ℕ) → factor_kind y j ≡ pick (eqb j 0 || (eqb j 1 && y.diagonal)) Diagonal Packed
  kind_is zero = refl
  kind_is (suc zero) = refl
  kind_is (suc (suc j)) = rw (ne_eqb (suc (suc j)) 0 (λ e. omega arith), ne_eqb (suc (suc j)) 1 (λ e. omega arith)) refl

  -- a packed one is not the first
  pub packed_later : (j : ℕ) → factor_kind y j ≡ Packed → 0 < j
  packed_later zero e = absurd (let z : ◌≡◌ {A = ℕ} 0 1 = cc in omega arith)
  packed_later (suc j) e = omega arith

  -- one behind the second is packed
  pub later_packed : (j : ℕ) → 1 < j → factor_kind y j ≡ Packed
  later_packed zero h = absurd (omega arith)
  later_packed (suc zero) h = absurd (omega arith)
  later_packed (suc (suc j)) h = refl

  -- a diagonal behind the first is the second
  pub diagonal_second : (j : ℕ) → 0 < j → factor_kind y j ≡ Diagonal → j ≡ 1
  diagonal_second zero h e = absurd (omega arith)
  diagonal_second (suc zero) h e = refl
  diagonal_second (suc (suc j)) h e = cc
