use native.Mathlib.Omega.{arith}
use Rattle.sheet_checks.proofs.mirror_cursor.Blocks.{search_start, search_found, search_on, search_out}
use Rattle.sheet_checks.proofs.mirror_cursor.block_of.Goals as goal

pub loop-j-init : goal.loop-j-init
loop-j-init c = λ blocks e k h. search_start blocks _ h

pub returns-then-left-m : goal.returns-then-left-m
returns-then-left-m c = λ blocks e k h. search_found e (c.loop-j.invariant blocks e k h) (omega arith) (omega arith)

pub loop-j-preserved : goal.loop-j-preserved
loop-j-preserved c = λ blocks e k h. search_on e (c.loop-j.invariant blocks e k h) (omega arith) (omega arith)

pub returns : goal.returns
returns c = λ blocks e k h. absurd (search_out (c.loop-j.invariant blocks e k h) k (omega arith))
