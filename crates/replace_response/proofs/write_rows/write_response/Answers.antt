-- `replace_response::write_rows::write_response`: the fixed rows, then the last triangle.
use mathlib.Core.Path.{ap, ◌∙◌}
use Rattle.replace_response.specs.write_rows.Strided.{fixed_rows, last_row, response_rows}
use Rattle.workspace.specs.Response.{response}
use Rattle.workspace.proofs.Lengths.{prescribed_lengths}
use Rattle.layout.specs.declared.Layout.{Layout}
use borrow.Author.Rules.{rules}
use Rattle.replace_response.proofs.write_rows.write_response.Goals as goal

pub write_blocks-requires : goal.write_blocks-requires
write_blocks-requires c = let many = prescribed_lengths c.args.layout (response c.args.zty.now c.args.xty.now c.args.yty.now) c.requires.2 in search rules

pub write_last-requires : goal.write_last-requires
write_last-requires c = let many = prescribed_lengths c.args.layout (response c.args.zty.now c.args.xty.now c.args.yty.now) c.requires.2 in search rules

pub returns : goal.returns
unfolding response_rows
returns c = let a = c.args in
    c.write_last.ensures ∙ ap (last_row c.of-map.result.layout a.xty.now a.yty.now) c.write_blocks.ensures
    ∙ ap (λ (y : Layout). last_row y a.xty.now a.yty.now (fixed_rows y a.zty.now y.k a.doubles.now)) c.of-map.ensures
