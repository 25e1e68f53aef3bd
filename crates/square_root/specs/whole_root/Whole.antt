-- Whole-number square roots (document 01, Record 4, "Square root").
use Rattle.std.specs.Prelude.{ℕ, zero, suc, ◌+◌, ◌*◌, ◌/◌, cond, leb, ltb}

-- the largest r with r * r at most n, for an n below 4 ^ k: two binary digits of n give one of r
unfoldable pub whole_root : ℕ → ℕ → ℕ
whole_root zero n = 0
whole_root (suc k) n = let r = whole_root k (n / 4) in cond (leb ((2 * r + 1) * (2 * r + 1)) n) (2 * r + 1) (2 * r)

-- r, or the next number up where n is above r * (r + 1): n is then nearer to its square, and never halfway
abbrev pub nearer : ℕ → ℕ → ℕ
nearer r n = cond (ltb (r * r + r) n) (r + 1) r

-- the whole number nearest to the root of n, for an n below 2 ^ 106
unfoldable pub rounded : ℕ → ℕ
unfolding whole_root
rounded n = nearer (whole_root 53 n) n
