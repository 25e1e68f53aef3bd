-- `heading::writer::write`: part by part.
use native.Mathlib.Omega.{arith}
use borrow.Author.Rules.{rules}
use Rattle.heading.proofs.Numbers.{all_stored}
use Rattle.heading.proofs.writer.Idle.{zeros_small}
use Rattle.heading_format.specs.Parts.{unused_numbers}
use Rattle.heading.proofs.writer.write.Goals as goal

pub slice_bounds-write_numbers-end : goal.slice_bounds-write_numbers-end
slice_bounds-write_numbers-end c = search rules

pub write_numbers-requires : goal.write_numbers-requires
write_numbers-requires c = (search rules, omega (arith, slice_bounds-write_numbers-end c), zeros_small unused_numbers)

pub returns : goal.returns
returns c = all_stored c.args.heading.now c.args.layout c.args.progress c.write_numbers.ensures c.write_progress.ensures c.write_layout.ensures c.requires.0
