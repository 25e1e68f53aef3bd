-- `heading::writer::write_counts`: one after the other.
use Rattle.heading.proofs.Numbers.{counts_stored}
use Rattle.heading.proofs.writer.write_counts.Goals as goal

pub returns : goal.returns
returns c = let w = c.args.heading.now in
    counts_stored w _ _ _ _ c.put-4.ensures c.put-3.ensures c.put-2.ensures c.put.ensures c.requires.0
