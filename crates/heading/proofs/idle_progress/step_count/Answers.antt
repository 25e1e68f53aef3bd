-- `heading::idle_progress::step_count`: the closed formula.
use native.Mathlib.Omega.{arith}
use Rattle.heading.proofs.idle_progress.Count.{pair_small, triple_small, step_count_lem}
use Rattle.heading.proofs.idle_progress.step_count.Goals as goal

pub overflow_mul-result : goal.overflow_mul-result
overflow_mul-result c = omega (arith, pair_small c.args.k c.requires)

pub overflow_mul-result-2 : goal.overflow_mul-result-2
overflow_mul-result-2 c = omega (arith, triple_small c.args.k c.requires)

pub returns : goal.returns
returns c = step_count_lem c.args.k c.requires
