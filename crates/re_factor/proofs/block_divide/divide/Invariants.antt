-- `re_factor::block_divide::divide`: the first i entries are divided.
use Prim.Native.Nat.{◌+◌, ◌≤◌}
use lib.ListN.{length}
use Rattle.storage.proofs.Filling.{Filling}
use Rattle.re_factor.proofs.Turns.{quotient}
use Rattle.re_factor.proofs.block_divide.divide.Given as goal

abbrev pub invariant-loop-i : goal.invariant-loop-i
invariant-loop-i l = Filling (quotient l.z l.b l.doubles l.initial.v) l.z l.b.rows l.initial.v l.v l.i × (l.b.at + l.b.rows ≤ length l.doubles)
