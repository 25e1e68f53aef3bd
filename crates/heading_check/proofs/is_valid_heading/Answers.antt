-- `heading_check::is_valid_heading`: test after test.
use Rattle.heading_check.proofs.room_check.Asked.{too_short, no_flags, not_valid, not_going, all_asked, few_blocks, is_true}
use borrow.Author.Rules.{rules}
use Rattle.heading_check.proofs.is_valid_heading.Goals as goal

pub is_valid_progress-requires : goal.is_valid_progress-requires
is_valid_progress-requires c = (search rules, search few_blocks)

pub has_room-requires : goal.has_room-requires
has_room-requires c = search is_true

pub returns-then-is_valid_progress : goal.returns-then-is_valid_progress
returns-then-is_valid_progress c = search all_asked

pub returns-else-is_valid_progress : goal.returns-else-is_valid_progress
returns-else-is_valid_progress c = search not_going

pub returns-else-is_valid_layout : goal.returns-else-is_valid_layout
returns-else-is_valid_layout c = search not_valid

pub returns-else-has_flags : goal.returns-else-has_flags
returns-else-has_flags c = search no_flags

pub returns-else-heading-ge-HEADING_LENGTH : goal.returns-else-heading-ge-HEADING_LENGTH
returns-else-heading-ge-HEADING_LENGTH c = search too_short
