-- `sheet_reader::line_groups::word_line`: a case for each number of numbers.
use Rattle.sheet_reader.proofs.line_verdict.Runs.{word_pair, word_single, word_bare}
use Rattle.sheet_reader.proofs.line_groups.word_line.Goals as goal

pub returns-then-numbers-gt1 : goal.returns-then-numbers-gt1
returns-then-numbers-gt1 c = search word_pair

pub returns-then-numbers-eq1 : goal.returns-then-numbers-eq1
returns-then-numbers-eq1 c = search word_single

pub returns : goal.returns
returns c = search word_bare
