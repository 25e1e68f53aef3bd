-- `kernel_tests::answered` meets its contract.
use Prim.Native.Nat.{◌≤◌}
use lib.ListN.{length, length-take}
use native.Mathlib.Omega.{arith}
use borrow.Author.Rules.{rules}
use Rattle.kernel_tests.proofs.answered.Goals as goal

pub slice_bounds-h-end : goal.slice_bounds-h-end
slice_bounds-h-end c = search rules

pub slice_bounds-run-end-2 : goal.slice_bounds-run-end-2
slice_bounds-run-end-2 c = let k : c.size_at-r.result ≤ length c.rows-h.result = search rules in simp length-take (omega arith)
