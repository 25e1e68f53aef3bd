-- `capi::solve`: the call, and the words where its number says that the list was written.
use Rattle.profile.specs.Finish.{solve_of}
use Rattle.capi.proofs.Laws.{solve_written, solve_kept}
use Rattle.capi.proofs.solve.Goals as goal

pub returns-then-number : goal.returns-then-number
returns-then-number c = let a = c.args in
    let o = solve_of a.heading.now a.doubles.now a.reml a.out.now in
    let e = c.solve_profile_blocked.ensures in
    solve_written o a.words.now a.answer.now e.0 c.tell_solve-number.ensures e.1 c.if-number.true c.write_words.ensures

pub returns-else-number : goal.returns-else-number
returns-else-number c = let a = c.args in
    let o = solve_of a.heading.now a.doubles.now a.reml a.out.now in
    let e = c.solve_profile_blocked.ensures in
    solve_kept o a.words.now a.answer.now e.0 c.tell_solve-number.ensures e.1 c.if-number.false
