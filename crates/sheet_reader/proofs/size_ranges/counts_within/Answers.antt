-- `sheet_reader::size_ranges::counts_within`: as defined.
use Rattle.std.proofs.Common.{◌&&◌, ap₂}
use Rattle.sheet_reader.proofs.size_ranges.counts_within.Goals as goal

pub returns : goal.returns
returns c = ap₂ ◌&&◌ (ap₂ ◌&&◌ (ap₂ ◌&&◌ (ap₂ ◌&&◌ c.between-n.ensures c.between-p.ensures) c.between-q.ensures) c.between-k.ensures) c.between-flag.ensures
