-- Records 6 and 7: the deviance, and the finish of the solution (`deviance_from_factor`, `solve_profile_finish`).
use Rattle.std.specs.Prelude.{ℕ, Bool, cond}
use Rattle.rules.specs.Arithmetic.{Arithmetic}
use Rattle.rules.specs.Sums.{dot, logs_from}

module _ (A : Arithmetic) where
  -- d·ln(2π·s) + logdet + d, from the left, with s = r2 / d; REML then adds twice the logarithms of the first p pivots, summed from 0.0
  abbrev pub deviance_of : Bool → A.Num → A.Num → A.Num → (ℕ → A.Num) → ℕ → A.Num
  deviance_of reml d s logdet pivot p =
      let ml = A.plus (A.plus (A.times d (A.log (A.times A.tau s))) logdet) d in
      cond reml (A.plus ml (A.times A.two (logs_from A A.zero pivot p))) ml

  -- cell (i, j), i ≥ j, of X'X less V'W: v of column i times w of column j, summed from 0.0, subtracted once
  abbrev pub fixed_cross : (xx : ℕ → ℕ → A.Num) (v w : ℕ → ℕ → A.Num) → ℕ → ℕ → ℕ → A.Num
  fixed_cross xx v w q i j = A.minus (xx i j) (dot A (v i) (w j) q)

  -- r2 = (y'y - v of y times w of y) - beta times its right side
  abbrev pub residual : A.Num → (vy wy : ℕ → A.Num) → ℕ → (beta rhs : ℕ → A.Num) → ℕ → A.Num
  residual yy vy wy q beta rhs p = A.minus (A.minus yy (dot A vy wy q)) (dot A beta rhs p)

  -- u of row i: w of y less the sum over the columns of w times beta; b is u times theta
  abbrev pub offset_of : (wy : ℕ → A.Num) (w : ℕ → ℕ → A.Num) (beta : ℕ → A.Num) → ℕ → ℕ → A.Num
  offset_of wy w beta p i = A.minus (wy i) (dot A (λ j. w j i) beta p)
