-- `re_factor::triangle_init::init`: the first r rows are written.
use mathlib.Core.Path.{◌≡◌}
use Prim.Native.Nat.{◌≤◌, ◌+◌}
use lib.ListN.{length}
use Rattle.storage.specs.Runs.{start, triangle}
use Rattle.storage.specs.Placed.{as_triangle}
use Rattle.re_factor.specs.Factor.{loaded_of}
use Rattle.re_factor.proofs.Turns.{Begun}
use Rattle.re_factor.proofs.triangle_init.init.Given as goal

abbrev pub invariant-loop-r : goal.invariant-loop-r
invariant-loop-r l = (l.r ≤ l.fn.b.rows) × (l.at ≡ l.fn.b.at + start triangle l.r) × (length l.doubles ≡ length l.initial.doubles) × (l.src + l.fn.b.rows ≤ length l.initial.doubles) × Begun (as_triangle l.fn.b) (loaded_of l.fn.b l.src) l.t l.initial.doubles l.r 0 l.doubles
