-- `step_blocks::factor_logs::logs`: the kernel of its kind.
use Rattle.step_blocks.proofs.factor_logs.logs.Goals as goal

pub log_diagonal-requires : goal.log_diagonal-requires
log_diagonal-requires c = let p = c.requires in rw (p.2 c.if-first.true) at p.0

pub returns-then-first : goal.returns-then-first
returns-then-first c = rw (c.if-first.true, c.requires.2 c.if-first.true) c.log_diagonal.ensures

pub logs_later_diagonal-requires : goal.logs_later_diagonal-requires
logs_later_diagonal-requires c = rw c.in-Diagonal.is at c.requires.0

pub logs_later-requires : goal.logs_later-requires
logs_later-requires c = let p = c.requires in let e = c.in-Packed.is in (p.1 e, rw e at p.0)

pub returns-in-Diagonal : goal.returns-in-Diagonal
returns-in-Diagonal c = rw (c.if-first.false, c.in-Diagonal.is) c.logs_later_diagonal.ensures

pub returns-in-Packed : goal.returns-in-Packed
returns-in-Packed c = rw (c.if-first.false, c.in-Packed.is) c.logs_later.ensures
