-- `kernel_tests::vectors::sparse_matvec_t_sub` meets its contract.
use mathlib.Core.Path.{refl}
use mathlib.Core.Logic.{⊎_swap}
use native.Mathlib.Omega.{arith}
use Rattle.storage.proofs.Starts.{start_single}
use Rattle.kernel_tests.proofs.kernel_sizes.Laws.{lent_rows}
use Rattle.kernel_tests.proofs.vectors.sparse_matvec_t_sub.Goals as goal

pub slice_bounds-sparse_matvec_t_sub-count : goal.slice_bounds-sparse_matvec_t_sub-count
slice_bounds-sparse_matvec_t_sub-count c = omega (arith, (c.bad_rows.ensures c.if-bad_rows.false).0)

pub slice_bounds-sparse_matvec_t_sub-start : goal.slice_bounds-sparse_matvec_t_sub-start
slice_bounds-sparse_matvec_t_sub-start c = omega (arith, (c.bad_rows.ensures c.if-bad_rows.false).0)

pub sparse_matvec_t_sub-requires : goal.sparse_matvec_t_sub-requires
sparse_matvec_t_sub-requires c = let h = c.if-clash.ensures refl in
    let r = c.if-bad_rows.ensures refl in let a = c.args in
    (record { rows = h.second; cols = h.first; apart = ⊎_swap h.apart }, omega (arith, start_single a.x.p1), lent_rows a.heading.now a.x.p5 _ a.x.p4 _ r.0 r.1)
