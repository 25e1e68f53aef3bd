-- `layout_gate::one_sparse`: with k = 2, what the gate says.
use mathlib.Core.Path.{sym, ap, ◌∙◌}
use Rattle.std.specs.Prelude.{Ok}
use native.Mathlib.Omega.{arith}
use Rattle.heading_format.specs.Heading.{is_sparse}
use Rattle.layout_gate.proofs.Reading.{not_sparse, is_two}
use Rattle.layout_gate.proofs.one_sparse.Goals as goal

pub returns-then-k-ne2 : goal.returns-then-k-ne2
returns-then-k-ne2 c = not_sparse _ _ c.if-k-ne2.true

pub pair_of-requires : goal.pair_of-requires
pair_of-requires c = let p = c.requires in (p 1 (omega arith), p 0 (omega arith), p 0 (omega arith))

pub returns-in-Ok-Dense : goal.returns-in-Ok-Dense
returns-in-Ok-Dense c = is_two _ _ _ c.if-k-ne2.false (ap is_sparse (sym (ap Ok c.in-Ok-Dense.field-0-is) ∙ sym c.in-Ok-Dense.is ∙ c.pair_of.ensures))

pub returns-in-Ok-Sparse : goal.returns-in-Ok-Sparse
returns-in-Ok-Sparse c = is_two _ _ _ c.if-k-ne2.false (ap is_sparse (sym (ap Ok c.in-Ok-Sparse.field-0-is) ∙ sym c.in-Ok-Sparse.is ∙ c.pair_of.ensures))

pub returns-in-Err : goal.returns-in-Err
returns-in-Err c = is_two _ _ _ c.if-k-ne2.false (ap is_sparse (sym c.in-Err.is ∙ c.pair_of.ensures))
