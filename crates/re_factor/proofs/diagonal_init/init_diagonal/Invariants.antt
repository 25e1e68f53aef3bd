-- `re_factor::diagonal_init::init_diagonal`: the first r pivots are written.
use mathlib.Core.Path.{◌≡◌}
use Prim.Native.Nat.{◌≤◌, ◌+◌}
use lib.ListN.{length}
use Rattle.storage.specs.Placed.{as_diagonal}
use Rattle.re_factor.specs.Factor.{loaded_of}
use Rattle.re_factor.proofs.Turns.{Begun}
use Rattle.re_factor.proofs.diagonal_init.init_diagonal.Given as goal

abbrev pub invariant-loop-r : goal.invariant-loop-r
invariant-loop-r l = (l.r ≤ l.b.rows) × (length l.doubles ≡ length l.initial.doubles) × (l.b.at + l.b.rows ≤ length l.initial.doubles) × (l.src + l.b.rows ≤ length l.initial.doubles) × Begun (as_diagonal l.b) (loaded_of l.b l.src) l.t l.initial.doubles l.r 0 l.doubles
