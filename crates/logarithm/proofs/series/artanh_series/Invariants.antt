-- `logarithm::series::artanh_series` meets its contract. The invariant: s is the series from the term k on. The measure is k.
use Rattle.logarithm.proofs.series.Words.{Summing}
use Rattle.logarithm.proofs.series.artanh_series.Given as goal

abbrev pub invariant-loop-k : goal.invariant-loop-k
invariant-loop-k l = Summing l.z l.s l.k

abbrev pub decreases-loop-k : goal.decreases-loop-k
decreases-loop-k l = l.k
