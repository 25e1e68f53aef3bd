-- The inverse hyperbolic tangent of a / b, for a below b, between fractions: artanh w = w + w^3 / 3 + w^5 / 5 + ..
use Rattle.std.specs.Prelude.{ℕ, zero, suc, ◌+◌, ◌-◌, ◌*◌, ◌^◌}
use Rattle.logarithm.specs.exact_log.Fraction.{Fraction, over, ◌⊞◌, Interval}

unfoldable pub power : ℕ → ℕ → ℕ
power a k = a ^ (2 * k + 1)

-- The term at k is power a k / under b k.
unfoldable pub under : ℕ → ℕ → ℕ
unfolding power
under b k = (2 * k + 1) * power b k

-- The first k terms come to num a b k / den b k.
unfoldable pub den : ℕ → ℕ → ℕ
unfolding under
den b zero = 1
den b (suc k) = den b k * under b k

unfoldable pub num : ℕ → ℕ → ℕ → ℕ
unfolding power under den
num a b zero = 0
num a b (suc k) = num a b k * under b k + power a k * den b k

abbrev pub partial : ℕ → ℕ → ℕ → Fraction
partial a b k = over (num a b k) (den b k)

-- All terms from k on come to at most the term at k times 1 / (1 - w^2), w = a / b: a geometric series in w^2.
abbrev pub tail : ℕ → ℕ → ℕ → Fraction
tail a b k = over (power a k * (b * b)) (under b k * (b * b - a * a))

-- So artanh (a / b) lies, for every N, from the first N terms to these and the tail.
abbrev pub artanh : ℕ → ℕ → ℕ → Interval
artanh a b N = record { low = partial a b N; high = partial a b N ⊞ tail a b N }
