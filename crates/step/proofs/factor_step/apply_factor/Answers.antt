-- `step::factor_step::apply_factor`: the block, then the progress; or all cleared.
use mathlib.Core.Path.{refl}
use native.Mathlib.Omega.{arith}
use Rattle.step.proofs.step_result.Laws.{few, still_room, factor_applied, factor_refused}
use Rattle.step.proofs.factor_step.apply_factor.Goals as goal

pub clear_working-requires : goal.clear_working-requires
clear_working-requires c = let a = c.args in
    record { valid = c.requires.0.valid; room = still_room a.heading.now a.doubles.now a.layout a.progress c.requires.0 a.j c.requires.1 _ _ c.factor.ensures _ c.in-Err.is }

pub idle-idle-requires : goal.idle-idle-requires
idle-idle-requires c = let a = c.args in few a.heading.now a.doubles.now a.layout a.progress c.requires.0

pub target_place-place-requires : goal.target_place-place-requires
target_place-place-requires c = let a = c.args in
    let k = few a.heading.now a.doubles.now a.layout a.progress c.requires.0 in let n = c.requires.1 in (omega arith, omega arith)

pub overflow_add-j : goal.overflow_add-j
overflow_add-j c = let a = c.args in
    let k = few a.heading.now a.doubles.now a.layout a.progress c.requires.0 in let n = c.requires.1 in omega arith

pub returns-in-Err : goal.returns-in-Err
returns-in-Err c = let a = c.args in
    factor_refused a.heading.now a.doubles.now a.layout a.progress c.requires.0 a.j c.requires.1 _ _ c.factor.ensures _ c.in-Err.is _ c.clear_working.ensures c.idle-idle.ensures

pub returns-in-Ok : goal.returns-in-Ok
returns-in-Ok c = let a = c.args in
    factor_applied a.heading.now a.doubles.now a.layout a.progress c.requires.0 _ c.mark.ensures a.j c.requires.1 c.target_place-place.ensures.0 refl _ c.factor.ensures c.in-Ok.is
