-- `replace_response::replace_valid`: what is wrong with the lists, or the response.
use mathlib.Core.Path.{ap, ◌∙◌}
use Rattle.std.specs.Prelude.{Err}
use Rattle.std.proofs.lemmas.Result.{err_from_is_err_and}
use Rattle.workspace.proofs.Meaning.{answered}
use Rattle.replace_response.proofs.Replaced.{list_refused, ready, replaced}
use Rattle.heading_format.proofs.Fits.{fits}
use Rattle.workspace.specs.Response.{response}
use Rattle.replace_response.proofs.replace_valid.Goals as goal

pub layout-layout-requires : goal.layout-layout-requires
layout-layout-requires c = (fits c.args.heading.now _ c.requires).long

pub returns-in_err-check_lists : goal.returns-in_err-check_lists
returns-in_err-check_lists c = let a = c.args in
    let p = err_from_is_err_and c.from_residual.result c.from_residual.ensures.1 in
    answered (p.1 ∙ ap Err p.2) ∙ list_refused a.heading.now a.doubles.now (response a.zty.now a.xty.now a.yty.now) c.requires _ c.layout-layout.ensures c.in_err-check_lists.ensures

pub write-requires : goal.write-requires
write-requires c = let a = c.args in
    ready a.heading.now a.doubles.now (response a.zty.now a.xty.now a.yty.now) c.requires _ c.layout-layout.ensures c.in_ok-check_lists.ensures

pub returns : goal.returns
returns c = let a = c.args in
    replaced a.heading.now a.doubles.now (response a.zty.now a.xty.now a.yty.now) c.requires _ c.layout-layout.ensures c.in_ok-check_lists.ensures _ _ c.write.ensures
