-- `sheet_reader::read_prefix`: too long, or by its size line.
use Rattle.sheet_reader.proofs.sheet_lines.Sequence.{too_long, no_size, out_of_range, in_range}
use Rattle.sheet_reader.proofs.read_prefix.Goals as goal

pub returns-then-bytes-gt16777216 : goal.returns-then-bytes-gt16777216
returns-then-bytes-gt16777216 c = search too_long

pub returns-then-z : goal.returns-then-z
returns-then-z c = search no_size

pub returns-then-not-counts_within : goal.returns-then-not-counts_within
returns-then-not-counts_within c = search out_of_range

pub returns : goal.returns
returns c = search in_range
