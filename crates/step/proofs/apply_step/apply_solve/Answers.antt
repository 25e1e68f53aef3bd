-- `step::apply_step::apply_solve`: the block, then the progress.
use mathlib.Core.Path.{refl}
use native.Mathlib.Omega.{arith}
use Rattle.step.proofs.step_result.Laws.{few, solve_applied}
use Rattle.step.proofs.apply_step.apply_solve.Goals as goal

pub target_place-place-requires : goal.target_place-place-requires
target_place-place-requires c = let a = c.args in
    let k = few a.heading.now a.doubles.now a.layout a.progress c.requires.0 in let n = c.requires.1.0 in let m = c.requires.1.1 in
    (omega arith, omega arith)

pub returns : goal.returns
returns c = let a = c.args in
    solve_applied a.heading.now a.doubles.now a.layout a.progress c.requires.0 _ c.mark.ensures a.i a.j c.requires.1 c.target_place-place.ensures.0 refl c.solve.ensures
