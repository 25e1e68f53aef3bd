-- `sheet_checks::levels::entries`: the lines that the other counts do not explain.
use native.Mathlib.Omega.{arith}
use borrow.Author.Rules.{rules}
use Rattle.sheet_checks.proofs.levels.Counting.{in_range, lines}
use Rattle.sheet_checks.proofs.levels.entries.Goals as goal

pub other_lines-requires : goal.other_lines-requires
other_lines-requires c = let h = c.requires in in_range h.0 h.1.0 _ h.1.1

pub overflow_sub-result : goal.overflow_sub-result
overflow_sub-result c = let h = c.requires in omega (arith, lines h.0 h.1.0 _ h.1.1, c.other_lines.ensures)

pub returns : goal.returns
returns c = (λ s sheet e. omega (arith, lines s sheet _ e, c.other_lines.ensures), search rules)
