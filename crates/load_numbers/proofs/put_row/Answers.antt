-- `load_numbers::put_row`: an entry of the pair, or nothing.
use Prim.Native.Nat.{◌-◌}
use mathlib.Core.Path.{sym, ◌∙◌}
use native.Mathlib.Omega.{arith}
use Rattle.heading_format.proofs.Valid.{is_valid}
use Rattle.workspace.specs.Loaded.{row_start}
use Rattle.load_numbers.proofs.word_address.Places.{found}
use Rattle.load_numbers.proofs.Made.{put_none, put_one}
use Rattle.load_numbers.proofs.put_row.Goals as goal

pub returns-then-block_of-ne0 : goal.returns-then-block_of-ne0
returns-then-block_of-ne0 c = let a = c.args in
    put_none a.map.now.layout a.heading.now a.l.first a.l.second (a.l.second - row_start a.map.now.layout 1) (omega arith) (λ e f. c.if-block_of-ne0.true (c.block_of.ensures ∙ e))

pub returns-then-block_of-ne1 : goal.returns-then-block_of-ne1
returns-then-block_of-ne1 c = let a = c.args in
    put_none a.map.now.layout a.heading.now a.l.first a.l.second (a.l.second - row_start a.map.now.layout 1) (omega arith) (λ e f. c.if-block_of-ne1.true (c.block_of-2.ensures ∙ f))

pub level_of-requires : goal.level_of-requires
level_of-requires c = let a = c.args in
    (omega arith, found a.map.now.layout a.l.first 0 (sym c.if-block_of-ne0.false ∙ c.block_of.ensures) (omega arith))

pub level_of-requires-2 : goal.level_of-requires-2
level_of-requires-2 c = let a = c.args in
    (c.requires.0, found a.map.now.layout a.l.second 1 (sym c.if-block_of-ne1.false ∙ c.block_of-2.ensures) c.requires.0)

pub overflow_cast-heading : goal.overflow_cast-heading
overflow_cast-heading c = omega (arith, c.level_of-2.ensures.1, ((is_valid c.args.map.now.layout c.args.map.now.valid).level 1 c.requires.0).1)

pub returns : goal.returns
returns c = let a = c.args in
    put_one a.map.now.layout a.heading.now a.l.first a.l.second 0 c.level_of-2.result c.level_of.result
    (sym c.block_of.ensures ∙ c.if-block_of-ne0.false) (sym c.block_of-2.ensures ∙ c.if-block_of-ne1.false)
    c.level_of.ensures.0 c.level_of-2.ensures.0
