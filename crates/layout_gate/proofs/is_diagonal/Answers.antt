-- `layout_gate::is_diagonal`: the pass over the entries of the two blocks.
use mathlib.Core.Path.{◌∙◌}
use native.Mathlib.Omega.{arith}
use Rattle.layout_gate.proofs.Reading.{not_two, two, given_small, given_below, given_room}
use Rattle.layout_gate.proofs.is_diagonal.Goals as goal

pub returns-then-starts-ne2 : goal.returns-then-starts-ne2
returns-then-starts-ne2 c = λ sheet e. not_two _ sheet _ e c.if-starts-ne2.true

pub start-requires : goal.start-requires
start-requires c = let b = given_below _ _ _ _ c.requires c.if-starts-ne2.false 0 (omega arith) in (omega arith, given_small _ _ _ _ c.requires)

pub offset_bounds-m-a : goal.offset_bounds-m-a
offset_bounds-m-a c = omega (arith, given_below _ _ _ _ c.requires c.if-starts-ne2.false 0 (omega arith))

pub bounds-m-a : goal.bounds-m-a
bounds-m-a c = omega (arith, given_below _ _ _ _ c.requires c.if-starts-ne2.false 0 (omega arith))

pub start-requires-2 : goal.start-requires-2
start-requires-2 c = let b = given_below _ _ _ _ c.requires c.if-starts-ne2.false 1 (omega arith) in (omega arith, given_small _ _ _ _ c.requires)

pub offset_bounds-m-b : goal.offset_bounds-m-b
offset_bounds-m-b c = omega (arith, given_below _ _ _ _ c.requires c.if-starts-ne2.false 1 (omega arith))

pub bounds-m-b : goal.bounds-m-b
bounds-m-b c = omega (arith, given_below _ _ _ _ c.requires c.if-starts-ne2.false 1 (omega arith))

pub one_each-requires : goal.one_each-requires
one_each-requires c = let p = c.requires in let k = c.if-starts-ne2.false in (
  p.0,
  given_room _ _ _ _ p k 0 (omega arith) _ c.start.ensures,
  given_room _ _ _ _ p k 1 (omega arith) _ c.start-2.ensures,
)

pub returns : goal.returns
returns c = λ sheet e.
    let a = c.requires.1 sheet e in c.one_each.ensures sheet e
    ∙ two _ sheet _ e _ a.0 c.if-starts-ne2.false _ a.1 _ _ c.start.ensures c.start-2.ensures
