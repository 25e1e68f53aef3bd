-- `heading::writer::write_progress`: part by part.
use native.Mathlib.Omega.{arith}
use borrow.Author.Rules.{rules}
use Rattle.heading.proofs.Numbers.{progress_stored}
use Rattle.heading.proofs.writer.write_progress.Goals as goal

pub put-requires : goal.put-requires
put-requires c = (search rules, c.state_number.ensures.1)

pub slice_bounds-write_numbers-end : goal.slice_bounds-write_numbers-end
slice_bounds-write_numbers-end c = search rules

pub write_numbers-requires : goal.write_numbers-requires
write_numbers-requires c = (search rules, omega (arith, slice_bounds-write_numbers-end c), c.requires.1.stages)

pub returns : goal.returns
returns c = progress_stored c.args.heading.now c.args.progress c.write_numbers.ensures c.put-2.ensures c.put.ensures c.state_number.ensures.0 c.requires.0
