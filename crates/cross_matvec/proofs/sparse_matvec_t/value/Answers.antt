-- `cross_matvec::sparse_matvec_t::value`: an entry of the part is the list's own, so far behind its start.
use Prim.Native.Nat.{◌-◌}
use mathlib.Core.Path.{◌∙◌, ap}
use mathlib.Core.List.{List}
use native.Mathlib.Omega.{arith}
use lib.ListN.{length, drop, length-drop}
use lib.Seq.{take_all, get_or-drop}
use lib.Ieee.{Float, nan}
use Rattle.block_runs.specs.axpy.Axpy.{at}
use Rattle.cross_matvec.proofs.sparse_matvec_t.value.Goals as goal

pub returns : goal.returns
returns c = let a = c.args in let v = a.v.now in
    ap (λ (l : List Float). at l a.r) (take_all (length v - a.z) (drop a.z v) (simp length-drop (omega arith))) ∙ get_or-drop a.z v a.r nan
