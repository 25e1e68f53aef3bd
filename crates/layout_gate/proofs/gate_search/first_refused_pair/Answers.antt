use mathlib.Core.Path.{sym, ◌∙◌}
use native.Mathlib.Omega.{arith}
use Rattle.layout_gate.proofs.gate_search.Pairs.{by_sheet}
use Rattle.layout_gate.proofs.gate_search.Found.{clear_start, clear_more, clear_row, none_found, one_found}
use Rattle.layout_gate.proofs.gate_search.first_refused_pair.Goals as goal

pub pairs-init : goal.pairs-init
pairs-init c = clear_start _

pub loop-jj-preserved : goal.loop-jj-preserved
loop-jj-preserved c = clear_more c.loop-jj.invariant (sym c.in_default.is ∙ c.verdict.ensures) (omega arith)

pub pairs-preserved : goal.pairs-preserved
pairs-preserved c = search clear_row

pub returns-after-pairs : goal.returns-after-pairs
returns-after-pairs c = λ sheet e. none_found c.pairs.invariant (omega arith) ∙ by_sheet _ sheet e

pub returns-in-Err : goal.returns-in-Err
returns-in-Err c = λ sheet e. one_found c.loop-jj.invariant (sym c.in-Err.is ∙ c.verdict.ensures) c.refusal.ensures (omega arith) (omega arith) ∙ by_sheet _ sheet e
