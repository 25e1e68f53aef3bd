-- `re_lower::triangle_cells::set`: the start of row r is where the table says.
use Prim.Native.Nat.{ℕ, ◌+◌}
use mathlib.Core.Path.{ap}
use native.Mathlib.Omega.{arith}
use Rattle.re_lower.proofs.Band.{set_one}
use Rattle.re_lower.proofs.triangle_cells.set.Goals as goal

pub returns : goal.returns
returns c = let a = c.args in
    set_one a.t.now _ _ a.v (ap (λ (i : ℕ). i + a.c) c.row_start.ensures) (omega arith)
