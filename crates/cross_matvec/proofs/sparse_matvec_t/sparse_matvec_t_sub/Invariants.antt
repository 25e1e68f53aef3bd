-- `cross_matvec::sparse_matvec_t::sparse_matvec_t_sub`: the first c entries are written.
use Rattle.storage.proofs.Filling.{Filling}
use Rattle.rules.specs.Arithmetic.{ieee}
use Rattle.rules.specs.Solves.{sparse_matvec_t_sub}
use Rattle.block_runs.specs.blocks.Blocks.{entry}
use Rattle.cross_matvec.specs.Products.{row_in}
use Rattle.cross_matvec.proofs.sparse_matvec_t.sparse_matvec_t_sub.Given as goal

abbrev pub invariant-loop-c : goal.invariant-loop-c
invariant-loop-c l = Filling (sparse_matvec_t_sub ieee (row_in l.rows) (entry l.a.at l.a.cols l.doubles) (entry l.z l.a.rows l.initial.v) (entry l.to l.a.cols l.initial.v)) l.to l.a.cols l.initial.v l.v l.c
