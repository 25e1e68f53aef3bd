-- `heading::writer::write_layout`: part by part.
use native.Mathlib.Omega.{arith}
use borrow.Author.Rules.{rules}
use Rattle.heading.proofs.Numbers.{layout_stored}
use Rattle.heading.proofs.writer.write_layout.Goals as goal

pub slice_bounds-write_numbers-end : goal.slice_bounds-write_numbers-end
slice_bounds-write_numbers-end c = search rules

pub write_numbers-requires : goal.write_numbers-requires
write_numbers-requires c = (search rules, omega (arith, slice_bounds-write_numbers-end c), c.requires.1.m)

pub slice_bounds-write_numbers-end-2 : goal.slice_bounds-write_numbers-end-2
slice_bounds-write_numbers-end-2 c = search rules

pub write_numbers-requires-2 : goal.write_numbers-requires-2
write_numbers-requires-2 c = (search rules, omega (arith, slice_bounds-write_numbers-end-2 c), c.requires.1.order)

pub returns : goal.returns
returns c = layout_stored c.args.heading.now c.args.layout c.write_flags.ensures c.write_numbers-2.ensures c.write_numbers.ensures c.write_counts.ensures c.requires.0
