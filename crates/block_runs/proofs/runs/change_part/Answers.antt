use mathlib.Core.Path.{ap, ◌∙◌}
use mathlib.Core.Logic.{inr}
use Prim.Native.Nat.{◌+◌}
use native.Mathlib.Omega.{arith}
use lib.Ieee.{nan}
use Rattle.storage.proofs.Filling.{filling_none, filling_more, filling_else, filling_done}
use Rattle.block_runs.proofs.runs.change_part.Goals as goal

pub loop-i-init : goal.loop-i-init
loop-i-init g c = λ h same. filling_none _ c.args.to c.args.n c.args.t.now c.requires.room

pub loop-i-preserved : goal.loop-i-preserved
loop-i-preserved g c = λ h same.
    let l = c.loop-i in let e = l.invariant h same in
    filling_more e c.loop-i-test.true (same l.i _ c.f.result c.loop-i-test.true c.f.ensures ∙ ap (h l.i) (filling_else e nan (c.args.to + l.i) (inr (omega arith))))

pub returns : goal.returns
returns g c = λ h same. filling_done (c.loop-i.invariant h same) (omega arith)
