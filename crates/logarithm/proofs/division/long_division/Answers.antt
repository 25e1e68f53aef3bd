use Rattle.std.proofs.Common.{◌*◌, ◌/◌, ◌^◌, ◌<◌, arith}
use Rattle.logarithm.proofs.division.Words.{digit, next_digit, quotient_fits}
use Rattle.logarithm.proofs.division.long_division.Goals as goal

fits_q : (c : goal.In-loop-turn) → c.loop-turn.q < 4 ^ 30
fits_q c = quotient_fits _ _ _ _ _ c.loop-turn.invariant c.loop-turn-test.true

digit_q : (c : goal.In-loop-turn) → c.loop-turn.r * 4 / c.args.b < 4
digit_q c = digit c.args.b c.loop-turn.r c.loop-turn.invariant.less

pub overflow_mul-q : goal.overflow_mul-q
overflow_mul-q c = omega (arith, fits_q c)

pub overflow_add-q : goal.overflow_add-q
overflow_add-q c = omega (arith, fits_q c, digit_q c)

pub loop-turn-preserved : goal.loop-turn-preserved
loop-turn-preserved c = next_digit _ _ _ _ _ c.loop-turn.invariant c.loop-turn-test.true
