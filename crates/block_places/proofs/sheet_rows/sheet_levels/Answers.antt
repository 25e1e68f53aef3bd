use Prim.Native.Nat.{ℕ}
use mathlib.Core.Path.{ap, ◌∙◌}
use native.Mathlib.Omega.{arith}
use borrow.Author.Tests.{eq-eqb, ne_eqb}
use Rattle.layout.specs.Shapes.{sheet_index}
use Rattle.heading_format.specs.Heading.{sheet_levels}
use Rattle.heading_format.proofs.Valid.{is_valid}
use Rattle.block_places.proofs.sheet_rows.Rows.{sheet_none, sheet_more}
use Rattle.block_places.proofs.sheet_rows.sheet_levels.Goals as goal
use Rattle.block_places.proofs.sheet_rows.sheet_levels.Goals.{then-layout-s, else-layout-s}

pub loop-s-init : goal.loop-s-init
loop-s-init c = ((is_valid c.args.layout c.requires).blocks.1, sheet_none c.args.layout c.args.i)

pub loop-s-preserved : goal.loop-s-preserved
loop-s-preserved c = let y = c.args.layout in
    let i : ℕ = c.args.i in
    let l = c.loop-s in (
      l.invariant.0,
      elim c.if-layout-s.branch [
        | then-layout-s w ↦ sheet_more y i l.s l.m _ l.invariant.1 (rw (eq-eqb (sheet_index y l.s) i w.if-layout-s.true) w.m-is)
        | else-layout-s w ↦ sheet_more y i l.s l.m _ l.invariant.1 (rw (ne_eqb (sheet_index y l.s) i w.if-layout-s.false) w.m-is)
      ],
    )

pub returns : goal.returns
returns c = c.loop-s.invariant.1 ∙ ap (λ (s : ℕ). sheet_levels c.args.layout s c.args.i) (omega arith)
