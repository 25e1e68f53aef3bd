use mathlib.Core.Path.{◌≡◌, refl}
use native.Mathlib.Omega.{arith}
use lib.ListN.{length-set}
use Rattle.heading_format.proofs.Valid.{is_valid}
use Rattle.workspace.specs.Loaded.{row_start}
use Rattle.block_places.proofs.sheet_rows.Rows.{filled_more}
use Rattle.block_places.proofs.row_map.first_rows.Goals as goal

pub loop-j-init : goal.loop-j-init
loop-j-init c = ((is_valid c.args.layout c.requires).blocks.1, refl, λ s h. absurd (omega arith))

pub loop-j-preserved : goal.loop-j-preserved
loop-j-preserved c = let a = c.args in let l = c.loop-j in (
  l.invariant.0,
  simp length-set l.invariant.1,
  filled_more (λ s v. v ≡ row_start a.layout s) l.first l.j c.first_row.result (omega arith) l.invariant.2 c.first_row.ensures,
)

pub returns : goal.returns
returns c = λ s h. c.loop-j.invariant.2 s (omega arith)
