use Rattle.heading_check.proofs.counts_check.has_counts.Goals as goal

pub returns : goal.returns
returns c = cc
