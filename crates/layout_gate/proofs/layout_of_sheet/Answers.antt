-- `layout_gate::layout_of_sheet`: part by part, as defined.
use Prim.Native.Nat.{ℕ, ◌≤◌}
use mathlib.Core.Path.{sym, subst, ◌∙◌}
use mathlib.Core.List.{List}
use lib.ListN.{get_or}
use Rattle.sheet_checks.proofs.levels.Reading.{few}
use Rattle.layout_gate.proofs.Reading.{order_is, levels_are, layout_small}
use Rattle.layout_gate.proofs.gate_search.Pairs.{whole}
use Rattle.layout_gate.proofs.layout_of_sheet.Goals as goal

pub sorted-order-requires : goal.sorted-order-requires
sorted-order-requires c = let h = c.requires in few _ _ (h.0, h.1)

pub sorted_levels-sizes-requires : goal.sorted_levels-sizes-requires
sorted_levels-sizes-requires c = let h = c.requires in (few _ _ (h.0, h.1), c.sorted-order.ensures)

pub is_diagonal-diagonal-requires : goal.is_diagonal-diagonal-requires
is_diagonal-diagonal-requires c = let h = c.requires in
    let m = c.levels-m.ensures in
    ((h.0, h.1), λ sheet e. (m sheet e, c.sorted-order.ensures ∙ order_is _ sheet _ e _ (m sheet e)))

pub one_sparse-sparse-requires : goal.one_sparse-sparse-requires
one_sparse-sparse-requires c = λ i g.
    let h = c.requires in let m = c.levels-m.ensures h.0 h.1 in
    subst (λ (l : List ℕ). get_or l i 0 ≤ 65535) (sym (c.sorted_levels-sizes.ensures ∙ levels_are _ h.0 _ h.1 _ m)) (layout_small _ h.0 _ h.1 i g)

pub returns : goal.returns
returns c = λ sheet e.
    let m = c.levels-m.ensures sheet e in whole _ sheet _ e _ _ _ _
    (c.sorted_levels-sizes.ensures ∙ levels_are _ sheet _ e _ m)
    (c.sorted-order.ensures ∙ order_is _ sheet _ e _ m)
    (c.is_diagonal-diagonal.ensures sheet e)
    c.one_sparse-sparse.ensures
