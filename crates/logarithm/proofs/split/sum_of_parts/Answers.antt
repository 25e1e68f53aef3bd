-- `logarithm::split::sum_of_parts` meets its contract.
use Rattle.logarithm.proofs.split.Together.{y_small, sum_is}
use Rattle.logarithm.proofs.split.sum_of_parts.Goals as goal

pub signed_series-f-requires : goal.signed_series-f-requires
signed_series-f-requires c = y_small _ _ _ c.requires.0 _ c.requires.1

pub returns : goal.returns
returns c = sum_is _ _ _ c.requires.0 _ c.requires.1 _ _ c.signed_series-f.ensures c.in_units.ensures
