use Rattle.replace_response.proofs.write_rows.Cells.{rows_none, length_row, rows_more}
use mathlib.Core.Path.{refl, ap, ◌∙◌}
use Prim.Native.Nat.{ℕ}
use lib.ListN.{length}
use native.Mathlib.Omega.{arith}
use Rattle.replace_response.specs.write_rows.Strided.{fixed_rows}
use Rattle.replace_response.proofs.write_rows.write_blocks.Goals as goal

pub loop-j-init : goal.loop-j-init
loop-j-init c = (omega arith, rows_none _ _ _, refl)

pub write_block-requires : goal.write_block-requires
write_block-requires c = (c.loop-j-test.true, omega (arith, c.requires.0, c.loop-j.invariant.2), c.requires.1)

pub loop-j-preserved : goal.loop-j-preserved
loop-j-preserved c = let l = c.loop-j in
    (omega (arith, c.loop-j-test.true), rows_more c.args.map.now.layout c.args.zty.now _ l.j _ _ l.invariant.1 c.write_block.ensures, ap length c.write_block.ensures ∙ length_row c.args.map.now.layout c.args.zty.now c.args.doubles.now l.j _ ∙ l.invariant.2)

pub shape_of-doubles : goal.shape_of-doubles
shape_of-doubles c = c.loop-j.invariant.2

pub returns : goal.returns
returns c = let a = c.args in let l = c.loop-j in
    l.invariant.1 ∙ ap (λ (x : ℕ). fixed_rows a.map.now.layout a.zty.now x a.doubles.now) (omega arith)
