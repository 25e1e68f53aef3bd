-- The gate's answers, test by test.
use Prim.Native.Nat.{ℕ, ◌*◌, ◌≤◌, ◌<◌, ◌^◌}
use mathlib.Core.Path.{◌≡◌, sym, ◌∙◌}
use mathlib.Core.Bool.{Bool, true, false}
use native.Mathlib.Nat.{mul-le-mul}
use native.Mathlib.Omega.{arith}
use borrow.Author.Tests.{le-leb, lt-leb, lt-ltb, le-ltb}
use lib.Dec.{T, le→leb}
use lib.IntN.{pos}
use lib.Ieee.{binary64, in_float}
use Rattle.std.specs.Prelude.{Ok, Err}
use Rattle.layout.specs.declared.Storage.TheVariants.{Dense, Sparse}
use Rattle.layout.specs.declared.GateRefusal.TheVariants.{MultiblockFill, CrossGate}
use Rattle.layout.specs.Gate.{thin, pair_of}

-- a number of a pair is a double
pub whole : (n : ℕ) → n < 4294967296 → T (in_float binary64 (pos n))
unfolding in_float
whole n h = le→leb n (2 ^ 53) (omega arith)

-- the cells of a pair are fewer than 2 ^ 32
pub cells_below : (rows cols : ℕ) → rows ≤ 65535 → cols ≤ 65535 → rows * cols < 4294967296
cells_below rows cols h g = omega (arith, mul-le-mul h g)

module _ (k rows cols : ℕ) (one : Bool) (entries : ℕ) where
  pub dense : rows * cols ≤ 100000 → Ok Dense ≡ pair_of k rows cols one entries
  unfolding pair_of
  dense h = rw (le-leb (rows * cols) 100000 h)

  module _ (h : 100000 < rows * cols) where
    pub three_blocks : 2 < k → Err MultiblockFill ≡ pair_of k rows cols one entries
    unfolding pair_of
    three_blocks g = rw (lt-leb (rows * cols) 100000 h, lt-ltb 2 k g)

    module _ (g : k ≤ 2) where
      pub not_one_each : one ≡ false → Err CrossGate ≡ pair_of k rows cols one entries
      unfolding pair_of
      not_one_each a = rw (lt-leb (rows * cols) 100000 h, le-ltb 2 k g, a)

      -- t is what the test of the density says
      module _ {t : Bool} (a : one ≡ true) (e : t ≡ thin entries (rows * cols)) where
        pub too_full : t ≡ false → Err CrossGate ≡ pair_of k rows cols one entries
        unfolding pair_of
        too_full z = rw (lt-leb (rows * cols) 100000 h, le-ltb 2 k g, a, sym e ∙ z)

        pub sparse : t ≡ true → Ok Sparse ≡ pair_of k rows cols one entries
        unfolding pair_of
        sparse z = rw (lt-leb (rows * cols) 100000 h, le-ltb 2 k g, a, sym e ∙ z)
