-- `heading_check::layout_check::is_valid_layout`: test after test.
use Rattle.heading_check.proofs.layout_check.Tests.{no_counts, few_blocks, no_levels, ranged, no_order, no_total, all_tests}
use Rattle.heading_check.proofs.layout_check.is_valid_layout.Goals as goal

pub has_levels-requires : goal.has_levels-requires
has_levels-requires c = search few_blocks

pub is_sorted-requires : goal.is_sorted-requires
is_sorted-requires c = search few_blocks

pub total-requires : goal.total-requires
total-requires c = search ranged

pub pairs_pass-requires : goal.pairs_pass-requires
pairs_pass-requires c = search ranged

pub returns-then-layout-total : goal.returns-then-layout-total
returns-then-layout-total c = search all_tests

pub returns-else-layout-total : goal.returns-else-layout-total
returns-else-layout-total c = search no_total

pub returns-else-is_sorted : goal.returns-else-is_sorted
returns-else-is_sorted c = search no_order

pub returns-else-has_levels : goal.returns-else-has_levels
returns-else-has_levels c = search no_levels

pub returns-else-has_counts : goal.returns-else-has_counts
returns-else-has_counts c = search no_counts
