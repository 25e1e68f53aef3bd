-- `logarithm::from_series` meets its contract.
use Rattle.logarithm.proofs.Centre.{parts_are, sum_fits}
use Rattle.logarithm.proofs.from_series.Goals as goal

pub overflow_mul-s : goal.overflow_mul-s
overflow_mul-s c = record { fits = sum_fits c.args.p c.requires.0 _ c.requires.1 }

pub returns : goal.returns
returns c = parts_are c.args.p c.requires.0 _ c.above-k.ensures.0 _ c.sum_of_parts.ensures
