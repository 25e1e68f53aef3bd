-- `layout_gate::pair_gate::pair_of`: a return for each answer.
use borrow.Author.Rules.{rules}
use native.Mathlib.Omega.{arith}
use Rattle.layout_gate.proofs.pair_gate.Answers.{cells_below, dense, three_blocks, not_one_each, too_full, sparse}
use Rattle.layout_gate.proofs.pair_gate.pair_of.Goals as goal

pub overflow_mul-cells : goal.overflow_mul-cells
overflow_mul-cells c = record { fits = omega (arith, cells_below c.args.rows c.args.cols (search rules) (search rules)) }

pub returns-then-cells-le100000 : goal.returns-then-cells-le100000
returns-then-cells-le100000 c = search dense

pub returns-then-k-gt2 : goal.returns-then-k-gt2
returns-then-k-gt2 c = search three_blocks

pub is_thin-requires : goal.is_thin-requires
is_thin-requires c = (search rules, search cells_below)

pub returns-then-is_thin : goal.returns-then-is_thin
returns-then-is_thin c = search sparse

pub returns-else-is_thin : goal.returns-else-is_thin
returns-else-is_thin c = search too_full

pub returns-else-one_each : goal.returns-else-one_each
returns-else-one_each c = search not_one_each
