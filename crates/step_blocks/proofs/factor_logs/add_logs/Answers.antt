-- `step_blocks::factor_logs::add_logs`: the sum written, or left to block k.
use borrow.Author.Tests.{eqb-true}
use Rattle.step_blocks.proofs.factor_logs.Sums.{sum_kept, sum_written}
use Rattle.step_blocks.proofs.factor_logs.add_logs.Goals as goal

pub returns-then-j-layout : goal.returns-then-j-layout
returns-then-j-layout c = sum_kept c.args.layout c.args.doubles.now c.args.j _ c.requires.layout_value.1 _ _ c.if-j-layout.true

pub logs-x-requires : goal.logs-x-requires
logs-x-requires c = (c.requires.lies.0, c.requires.lies.1, λ e. c.requires.lies.2 (eqb-true c.args.j 0 e))

pub returns : goal.returns
returns c = sum_written c.args.layout c.args.doubles.now c.args.j _ c.requires.layout_value.1 _ _ c.if-j-layout.false c.sum_at-z.ensures c.logs-x.ensures
