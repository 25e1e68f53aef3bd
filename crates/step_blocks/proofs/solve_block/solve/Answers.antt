-- `step_blocks::solve_block::solve`: by the kind of the block and of the factor.
use mathlib.Core.Path.{sym, ◌∙◌}
use mathlib.Core.Logic.{inl, inr}
use Rattle.heading_format.proofs.Fits.{room_of_lem}
use Rattle.block_places.proofs.block_kinds.Workspace.{fits_two}
use Rattle.step_blocks.proofs.solve_block.Rules.{made_divided, made_entries, made_solved}
use Rattle.step_blocks.proofs.solve_block.solve.Goals as goal
use Rattle.step_blocks.proofs.solve_block.solve.Goals.{then-layout+else-i-layout, else-layout}

pub divide_entries-requires : goal.divide_entries-requires
divide_entries-requires c = let a = c.args in let p = c.if-layout.true in
    (room_of_lem c.requires.0, p, fits_two a.heading.now a.doubles.now a.layout c.requires.0 p)

pub returns-then-i-layout : goal.returns-then-i-layout
returns-then-i-layout c = let a = c.args in
    c.divide_entries.ensures ∙ made_entries a.heading.now a.doubles.now a.layout c.requires.0 a.i a.j c.requires.1.0 c.requires.1.1 c.if-layout.true c.if-i-layout.true

pub divide-requires : goal.divide-requires
divide-requires c = (room_of_lem c.requires.0, c.requires.1.0, c.requires.1.1, sym c.factor_kind.ensures ∙ c.in-Diagonal.is, elim c.if-layout.branch [ then-layout+else-i-layout w ↦ inl w.if-i-layout.false | else-layout w ↦ inr w.if-layout.false ])

pub substitute-requires : goal.substitute-requires
substitute-requires c = (room_of_lem c.requires.0, c.requires.1.0, c.requires.1.1, sym c.factor_kind.ensures ∙ c.in-Packed.is)

pub returns-in-Diagonal : goal.returns-in-Diagonal
returns-in-Diagonal c = let a = c.args in
    c.divide.ensures ∙ made_divided a.heading.now a.doubles.now a.layout c.requires.0 a.i a.j c.requires.1.0 c.requires.1.1 (sym c.factor_kind.ensures ∙ c.in-Diagonal.is) (elim c.if-layout.branch [ then-layout+else-i-layout w ↦ inl w.if-i-layout.false | else-layout w ↦ inr w.if-layout.false ])

pub returns-in-Packed : goal.returns-in-Packed
returns-in-Packed c = let a = c.args in
    c.substitute.ensures ∙ made_solved a.heading.now a.doubles.now a.layout c.requires.0 a.i a.j c.requires.1.0 c.requires.1.1 (sym c.factor_kind.ensures ∙ c.in-Packed.is)
