use native.Mathlib.Omega.{arith}
use Rattle.factor_text.proofs.pivot_lines.Lines.{rows_none, rows_next}
use Rattle.factor_text.proofs.pivot_lines.put_rows.Goals as goal

pub loop-r-init : goal.loop-r-init
loop-r-init c = let a = c.args in
    rows_none a.layout a.doubles.now a.j a.from a.out.now c.requires.0.valid c.requires.1 c.requires.2 c.requires.3

pub loop-r-preserved : goal.loop-r-preserved
loop-r-preserved c = let a = c.args in
    rows_next a.layout a.doubles.now a.j a.from a.out.now c.requires.0.valid c.requires.1 c.requires.2 c.requires.3 _ _ _ c.loop-r.invariant (omega (arith, c.rows_of-n.ensures, c.loop-r-test.true)) _ _ _ c.read_pivot-x.ensures c.put_pivot-at.ensures
