-- What the program asks of m / c * 2^u / 2^1074.
use Rattle.std.specs.Prelude.{ℕ, ◌+◌, ◌*◌, ◌^◌, ◌<◌, ◌≤◌}
use Rattle.logarithm.specs.exact_log.Log.{apart}

pub record Split (m c u : ℕ) : Type 0 where
  pub near_one : 5 * apart m c ≤ m + c
  pub m_most : m < 2 ^ 53
  pub c_some : 0 < c
  pub c_most : c ≤ 2 ^ 53
  pub few : apart u 1074 ≤ 1074
  pub u_most : u ≤ 3000
