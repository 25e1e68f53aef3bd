-- `block_places::row_map::start_at`: t is split at 9.
use mathlib.Core.Path.{ap₂, ◌∙◌}
use native.Mathlib.Omega.{arith}
use Rattle.layout.specs.Shapes.{loaded_at}
use Rattle.heading_format.proofs.Valid.{is_valid}
use Rattle.block_places.proofs.sheet_rows.Rows.{split_nine}
use Rattle.block_places.proofs.row_map.start_at.Goals as goal

pub returns-then-i-j : goal.returns-then-i-j
returns-then-i-j c = λ i j e h g. absurd (omega (arith, split_nine c.args.t i j e (omega (arith, (is_valid c.args.layout c.requires).blocks.1)), c.if-i-j.true))

pub returns-then-layout-i : goal.returns-then-layout-i
returns-then-layout-i c = λ i j e h g. absurd (omega (arith, split_nine c.args.t i j e (omega (arith, (is_valid c.args.layout c.requires).blocks.1)), c.if-layout-i.true))

pub returns : goal.returns
returns c = λ i j e h g.
    let r = split_nine c.args.t i j e (omega (arith, (is_valid c.args.layout c.requires).blocks.1)) in
    c.loaded_at.ensures ∙ ap₂ (loaded_at c.args.layout) r.0 r.1
