-- `step::apply_ready`: the step, then its progress in the heading.
use native.Mathlib.Omega.{arith}
use Rattle.update.specs.Names.{step_of_name}
use Rattle.step.proofs.step_result.Laws.{few, ready_left}
use Rattle.heading_format.proofs.Fits.{read_fits}
use Rattle.heading_format.proofs.Fits.{read_fits}
use Rattle.step.proofs.Moves.{handed_small}
use Rattle.step.proofs.Turns.{read_named, read_left}
use Rattle.step.proofs.apply_ready.Goals as goal

pub apply-m-requires : goal.apply-m-requires
apply-m-requires c = let a = c.args in
    let y = c.layout-layout in let g = c.progress-progress in
    (read_fits y.ensures c.requires.0, g.ensures, read_named a.heading.now (step_of_name a.name) _ y.ensures c.requires.1, read_left a.heading.now _ g.ensures c.requires.2)

pub write_progress-requires : goal.write_progress-requires
write_progress-requires c = let a = c.args in
    let y = c.layout-layout in
    let g = c.progress-progress in
    (c.requires.0.long, handed_small a.heading.now y.result g.result (step_of_name a.name) (λ i. omega (arith, c.slice_known-1.given i)) g.ensures (few a.heading.now a.doubles.now y.result g.result (read_fits y.ensures c.requires.0)) (read_named a.heading.now (step_of_name a.name) _ y.ensures c.requires.1) a.doubles.now _ _ c.apply-m.ensures)

pub returns : goal.returns
returns c = let a = c.args in
    ready_left a.heading.now a.doubles.now _ _ (step_of_name a.name) c.layout-layout.ensures c.progress-progress.ensures _ _ _ c.apply-m.ensures c.write_progress.ensures
