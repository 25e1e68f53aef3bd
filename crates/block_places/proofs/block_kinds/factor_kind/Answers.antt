-- `block_places::block_kinds::factor_kind`: by tests.
use mathlib.Core.Path.{refl}
use Rattle.layout.proofs.Factors.{kind_is}
use Rattle.block_places.proofs.block_kinds.factor_kind.Goals as goal

pub returns-then-j-layout : goal.returns-then-j-layout
returns-then-j-layout c = let a = c.args in rw (kind_is a.layout a.j, c.if-j-layout.true) refl

pub returns : goal.returns
returns c = let a = c.args in rw (kind_is a.layout a.j, c.if-j-layout.false) refl
