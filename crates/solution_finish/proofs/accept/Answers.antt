-- `solution_finish::accept`: the parts, and the scalars with the residual.
use native.Mathlib.Omega.{arith}
use Rattle.solution_finish.proofs.Finish.{solution_is}
use Rattle.solution_finish.proofs.accept.Goals as goal

pub scalars-requires : goal.scalars-requires
scalars-requires c = record { long = omega (arith, c.requires.ready.long); v_value = c.make_parts-r.ensures.factor }

pub returns : goal.returns
returns c = (solution_is c.args.lent.heading.now c.args.lent.doubles.now c.args.lent.layout c.args.lent.fits.same c.args.reml c.args.rest _ _ c.requires.rest_value _ c.make_parts-r.ensures c.scalars.ensures, c.make_parts-r.ensures.whole)
