-- `heading_check::progress_check::is_valid_progress`: test after test.
use Rattle.heading_check.proofs.stage_check.Stages.{not_bounded, all_tests}
use Rattle.heading_check.proofs.progress_check.is_valid_progress.Goals as goal

pub returns-then-is_bounded : goal.returns-then-is_bounded
returns-then-is_bounded c = search all_tests

pub returns : goal.returns
returns c = search not_bounded
