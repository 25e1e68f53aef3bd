-- `step::step_result::clear_working`: the run from theta to the sum, filled.
use borrow.Author.Rules.{rules}
use native.Mathlib.Omega.{arith}
use Rattle.step.proofs.step_result.Laws.{theta_before, working_fit, all_filled}
use Rattle.step.proofs.step_result.clear_working.Goals as goal

pub offset_bounds-doubles-from : goal.offset_bounds-doubles-from
offset_bounds-doubles-from c = let a = c.args in
    omega (arith, theta_before a.layout c.requires.valid a.doubles.now c.requires.room c.theta_at-from.ensures c.working_end-end.ensures, working_fit a.layout c.requires.valid a.doubles.now c.requires.room c.theta_at-from.ensures c.working_end-end.ensures)

pub slice_bounds-fill-count : goal.slice_bounds-fill-count
slice_bounds-fill-count c = let a = c.args in
    omega (arith, theta_before a.layout c.requires.valid a.doubles.now c.requires.room c.theta_at-from.ensures c.working_end-end.ensures)

pub slice_bounds-fill-start : goal.slice_bounds-fill-start
slice_bounds-fill-start c = let a = c.args in
    omega (arith, theta_before a.layout c.requires.valid a.doubles.now c.requires.room c.theta_at-from.ensures c.working_end-end.ensures, working_fit a.layout c.requires.valid a.doubles.now c.requires.room c.theta_at-from.ensures c.working_end-end.ensures)

pub returns : goal.returns
returns c = let a = c.args in
    all_filled a.layout c.requires.valid a.doubles.now c.requires.room c.theta_at-from.ensures c.working_end-end.ensures (c.fill.ensures.after (λ y e. e))
