-- `kernel_tests::cross::subtract_sparse` meets its contract.
use mathlib.Core.Path.{refl, sym}
use native.Mathlib.Omega.{arith}
use Rattle.storage.proofs.Places.{size_diagonal}
use Rattle.kernel_tests.proofs.kernel_sizes.Laws.{clear_at}
use Rattle.kernel_tests.proofs.cross.subtract_sparse.Goals as goal

pub subtract_sparse-requires : goal.subtract_sparse-requires
subtract_sparse-requires c = let n = c.columns_size-size.ensures.0 in
    let h = clear_at n c.columns_size-source.ensures.0 (c.if-clash.ensures refl) in
    let l = clear_at n (sym (size_diagonal _)) (c.if-clash-2.ensures refl) in
    let r = c.if-bad_rows.ensures refl in
    (omega arith, record { rows = refl; cols = refl; inner = refl; target = h.first; left = h.second; right = l.second; off_left = h.apart; off_right = l.apart }, r.0, r.1)
