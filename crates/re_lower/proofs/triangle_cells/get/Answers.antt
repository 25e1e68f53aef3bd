-- `re_lower::triangle_cells::get`: the start of row r is where the table says.
use Prim.Native.Nat.{ℕ, ◌+◌}
use mathlib.Core.Path.{ap, ◌∙◌}
use native.Mathlib.Omega.{arith}
use lib.Ieee.{nan}
use Rattle.rules.specs.Arithmetic.{ieee}
use Rattle.rules.specs.Cholesky.{at}
use Rattle.storage.proofs.Cells.{any_default}
use Rattle.re_lower.proofs.triangle_cells.get.Goals as goal

pub returns : goal.returns
returns c = let a = c.args in
    any_default a.t.now _ nan ieee.zero (omega arith) ∙ ap (λ (i : ℕ). at ieee a.t.now (i + a.c)) c.row_start.ensures
