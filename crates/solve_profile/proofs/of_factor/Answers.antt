-- `solve_profile::of_factor`: w of every row, then the finish.
use native.Mathlib.Omega.{arith}
use Rattle.solve_profile.proofs.of_factor.Goals as goal

pub solve_profile_finish-requires : goal.solve_profile_finish-requires
solve_profile_finish-requires c = record { long = omega (arith, c.requires); solved = c.solve_all.ensures }

pub returns : goal.returns
returns c = c.solve_profile_finish.ensures
