-- What the functions' proofs cite.
use Prim.Native.Nat.{ℕ, ◌+◌, ◌-◌, ◌*◌, ◌/◌, ◌≤◌}
use mathlib.Core.Path.{◌≡◌, sym, subst}
use mathlib.Core.List.{List}
use lib.ListN.{length, take, drop, length-drop}
use lib.Seq.{take_all, get_or-drop}
use native.Mathlib.Nat.{mul-le-mul}
use native.Mathlib.Omega.{arith}
use Rattle.storage.specs.Shape.{packed, columns, size_of}
use Rattle.storage.proofs.Places.{size_columns, size_packed}
use Rattle.storage.specs.Placed.{block_of}
use Rattle.block_runs.specs.blocks.Blocks.{RowsBelow}
use Rattle.cross_matvec.specs.Products.{HasRows}
use Rattle.kernel_tests.specs.kernel_sizes.Sizes.{Clear}

-- ---- sizes
pub columns_fit : (rows cols : ℕ) → rows ≤ 65535 → cols ≤ 65535 → rows * cols ≤ 65535 * 65535
columns_fit rows cols h l = mul-le-mul h l

pub columns_at : (rows cols : ℕ) → rows ≤ 65535 → cols ≤ 65535 → (rows * cols ≡ size_of (columns rows cols)) × (rows * cols ≤ 65535 * 65535)
columns_at rows cols h l = (sym (size_columns rows cols), columns_fit rows cols h l)

pub packed_fit : (n : ℕ) → n ≤ 65535 → n * (n + 1) ≤ 65535 * 65536
packed_fit n h = let l : n + 1 ≤ 65536 = omega arith in mul-le-mul h l

pub packed_at : (n : ℕ) → n ≤ 65535 → (n * (n + 1) / 2 ≡ size_of (packed n)) × (n * (n + 1) / 2 ≤ 65535 * 65535)
packed_at n h =
    let q = size_packed n in
    let e : n * (n + 1) / 2 ≡ size_of (packed n) = omega (arith, size_packed n) in
    (e, omega (arith, packed_fit n h))

-- ---- blocks within a list and apart, by their sizes
pub clear_at : {len off n a m n' m' : ℕ} → n ≡ n' → m ≡ m' → Clear len off n a m → Clear len off n' a m'
clear_at {len} {off} {n} {a} {m} {n'} {m'} e f h =
    subst (λ (x : ℕ). Clear len off x a m') e (subst (λ (y : ℕ). Clear len off n a y) f h)

-- ---- rows below a bound
module _ (h : List ℕ) (first m : ℕ) where
  -- lent from `first` on
  pub lent_rows : (at n : ℕ) → first + n ≤ length h → RowsBelow h first n m → HasRows (take (length h - first) (drop first h)) (block_of at m n)
  lent_rows at n l f =
      rw (take_all (length h - first) (drop first h) (simp length-drop (omega arith)))
      (simp length-drop (omega arith), λ c k. rw (get_or-drop first h c 0) (f c k))
