-- The chosen numbers serve the bound of document 01, 2^-50 + 2^-52 * |r|.
use Rattle.std.proofs.Common.{◌^◌, lit<, lit≤}
use native.Mathlib.Bridge.{le_by_compare, IsLe}
use Rattle.logarithm.specs.exact_log.Artanh.{power, under, den, num}
use Rattle.logarithm.specs.fixed_point.Units.{chosen}
use Rattle.logarithm.proofs.fixed_point.Law.{Serves}

-- 480 units are left out by ten terms (13,256 by nine), and ln 2's series with 22 terms fixes its unit
pub serves : Serves chosen (2 ^ 50) (2 ^ 52)
unfolding num den under power IsLe
serves = record {
  rest = 480;
  bracket = 22;
  unit_low = lit≤ tt;
  guard_low = lit< tt;
  sum_high = lit≤ tt;
  long_enough = lit≤ tt;
  ln2_low = le_by_compare _ _ tt;
  ln2_high = le_by_compare _ _ tt;
  ln2_most = lit≤ tt;
  absolute = lit≤ tt;
  relative = lit≤ tt;
}
