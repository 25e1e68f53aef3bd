-- `cross_matvec::matvec_t::subtract_product`: the first c entries are written, p is where column c starts.
use mathlib.Core.Path.{◌≡◌}
use Prim.Native.Nat.{◌-◌, ◌+◌}
use Rattle.storage.proofs.Filling.{Filling}
use Rattle.storage.specs.Runs.{start, dense}
use Rattle.cross_matvec.specs.Products.{held, minus_column}
use Rattle.cross_matvec.proofs.matvec_t.subtract_product.Given as goal

abbrev pub invariant-loop-c : goal.invariant-loop-c
invariant-loop-c l = (l.p ≡ l.a.at + start (dense l.a.rows) l.c) × Filling (minus_column l.to l.a.at l.a.rows l.z (held l.doubles l.initial.v) l.initial.v) l.to l.a.cols l.initial.v l.v l.c

abbrev pub decreases-loop-c : goal.decreases-loop-c
decreases-loop-c l = l.a.cols - l.c
