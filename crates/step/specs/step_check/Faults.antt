-- Which refusal a step's name meets (document 01, "Refused because of the state": 22, 21, 23, 24).
use Rattle.std.specs.Prelude.{ℕ, Bool, Result, Ok}
use Rattle.refusal.specs.declared.Refusal.{Refusal}
use Rattle.refusal.specs.Numbers.{refuse}
use Rattle.step_order.specs.Steps.{Step, is_step, forerunners}
use Rattle.step_order.specs.Progress.{all, done}
use Rattle.heading_format.specs.declared.Progress.{Progress}
use Rattle.layout.specs.Shapes.{pick}
use Rattle.heading_format.specs.Heading.{stage_of}
use Rattle.update.specs.Calls.{is_under_way}

-- 21, 23, 24: whether there is such a step, it is done, its forerunners are
abbrev pub name_fault : Bool → Bool → Bool → Result Unit Refusal
name_fault known is_done forerun = pick known (pick is_done (refuse 23 0 0) (pick forerun (Ok tt) (refuse 24 0 0))) (refuse 21 0 0)

-- 22 first
abbrev pub fault_of : ℕ → Progress → Step → Result Unit Refusal
fault_of k g s = pick (is_under_way g.state) (name_fault (is_step k s) (done (stage_of g) s) (all (done (stage_of g)) (forerunners s))) (refuse 22 0 0)
