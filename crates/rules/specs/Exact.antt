-- Exact arithmetic, and what a factor and a solved row are there: L L' = the block that C was given, x L' = the row that T was given.
-- Doubles are no such arithmetic.
use Rattle.std.specs.Prelude.{ℕ, suc, ◌≤◌, ◌<◌, ◌≡◌, false, cond, eqb}
use Rattle.rules.specs.Arithmetic.{Arithmetic}
use Rattle.rules.specs.Sums.{dot}

-- the laws that nothing rounded keeps: those of a field, and of roots of what is not refused
pub record Exact (A : Arithmetic) : Type 0 where
  pub zero_plus : (a : A.Num) → A.plus A.zero a ≡ a
  pub plus_minus : (a b p : A.Num) → A.plus (A.plus a p) (A.minus b p) ≡ A.plus a b
  pub plus_zero : (a : A.Num) → A.plus a A.zero ≡ a
  pub minus_zero : (a : A.Num) → A.minus a A.zero ≡ a
  pub times_zero : (a : A.Num) → A.times a A.zero ≡ A.zero
  pub zero_times : (a : A.Num) → A.times A.zero a ≡ A.zero
  pub minus_plus : (p x : A.Num) → A.minus (A.plus p x) p ≡ x
  pub over_times : (a d : A.Num) → A.null d ≡ false → A.times (A.over a d) d ≡ a
  pub root_square : (x : A.Num) → A.refused x ≡ false → A.times (A.root x) (A.root x) ≡ x
  pub root_some : (x : A.Num) → A.refused x ≡ false → A.null (A.root x) ≡ false

module _ (A : Arithmetic) where
  -- x L' = b: what T makes of a row b of n cells
  abbrev pub Solves : (b : ℕ → A.Num) (L : ℕ → ℕ → A.Num) (x : ℕ → A.Num) → ℕ → Type 0
  Solves b L x n = (c : ℕ) → c < n → dot A x (L c) (suc c) ≡ b c

  -- L L' = b in the lower triangle of n rows: what C makes of a triangle b
  abbrev pub Factors : (b L : ℕ → ℕ → A.Num) → ℕ → Type 0
  Factors b L n = (r c : ℕ) → c ≤ r → r < n → dot A (L r) (L c) (suc c) ≡ b r c

  -- a sparse block, whose column x has its one entry v x in row `row x`, as a dense one
  abbrev pub spread : (row : ℕ → ℕ) (v : ℕ → A.Num) → ℕ → ℕ → A.Num
  spread row v r x = cond (eqb (row x) r) (v x) A.zero
