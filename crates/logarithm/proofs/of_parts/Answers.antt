-- `logarithm::of_parts` meets its contract.
use Rattle.logarithm.proofs.Centre.{series_is}
use Rattle.logarithm.proofs.of_parts.Goals as goal

pub from_series-requires : goal.from_series-requires
from_series-requires c = (c.requires, series_is c.args.p c.requires _ c.ratio_of.ensures _ c.artanh_series.ensures)
