-- `layout_gate::gate_search::verdict`: the limits of a pair.
use Rattle.layout_gate.specs.gate_search.Search.{verdict}
use Rattle.layout_gate.proofs.gate_search.verdict.Goals as goal

pub pair_of-requires : goal.pair_of-requires
pair_of-requires c = let p = c.requires in (p.2 _ p.0, p.2 _ p.1, p.2 _ p.1)

pub returns : goal.returns
unfolding verdict
returns c = c.pair_of.ensures
