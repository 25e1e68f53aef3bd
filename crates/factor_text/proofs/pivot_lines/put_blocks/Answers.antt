use native.Mathlib.Omega.{arith}
use Rattle.heading_format.proofs.Valid.{is_valid}
use Rattle.factor_text.proofs.pivot_lines.Lines.{blocks_none, blocks_room, blocks_next, blocks_all}
use borrow.Author.Rules.{rules}
use Rattle.factor_text.proofs.pivot_lines.put_blocks.Goals as goal

pub loop-j-init : goal.loop-j-init
loop-j-init c = let a = c.args in blocks_none a.layout a.doubles.now a.out.now

pub put_rows-at-requires : goal.put_rows-at-requires
put_rows-at-requires c = let a = c.args in
    let b = blocks_room a.layout a.doubles.now a.out.now c.requires.0.valid c.requires.0.room c.requires.1 (search rules) _ _ _ c.loop-j.invariant (omega (arith, c.loop-j-test.true)) in
    (c.requires.0, (omega (arith, c.loop-j-test.true)), b.0, b.1)

pub overflow_add-j-end : goal.overflow_add-j-end
overflow_add-j-end c = record { fits = omega (arith, (is_valid c.args.layout c.requires.0.valid).blocks.1) }

pub loop-j-preserved : goal.loop-j-preserved
loop-j-preserved c = let a = c.args in
    blocks_next a.layout a.doubles.now a.out.now c.requires.0.valid c.requires.0.room c.requires.1 (search rules) _ _ _ c.loop-j.invariant (omega (arith, c.loop-j-test.true)) _ _ c.put_rows-at.ensures

pub returns : goal.returns
returns c = let a = c.args in
    blocks_all a.layout a.doubles.now a.out.now c.requires.0.valid c.requires.0.room c.requires.1 (search rules) _ _ _ c.loop-j.invariant (omega (arith, c.loop-j-test.false))
