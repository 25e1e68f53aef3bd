use Prim.Native.Nat.{ℕ, ◌≤◌, ◌+◌, ◌*◌}
use mathlib.Core.Path.{◌≡◌, refl}
use native.Mathlib.Omega.{arith}
use lib.ListN.{length-set}
use Rattle.layout.specs.Shapes.{loaded_at}
use Rattle.heading_format.proofs.Valid.{is_valid}
use Rattle.block_places.proofs.sheet_rows.Rows.{filled_more}
use Rattle.block_places.proofs.row_map.block_starts.Goals as goal

pub loop-t-init : goal.loop-t-init
loop-t-init c = (refl, λ s h. absurd (omega arith))

pub loop-t-preserved : goal.loop-t-preserved
loop-t-preserved c = let a = c.args in let l = c.loop-t in (
  simp length-set l.invariant.0,
  filled_more (λ s v. (i j : ℕ) → s ≡ i * 9 + j → j ≤ i → i ≤ a.layout.k → v ≡ loaded_at a.layout i j) l.at l.t c.start_at.result (omega arith) l.invariant.1 c.start_at.ensures,
)

pub returns : goal.returns
returns c = λ i j h g. c.loop-t.invariant.1 (i * 9 + j) (omega (arith, (is_valid c.args.layout c.requires).blocks.1)) i j refl h g
