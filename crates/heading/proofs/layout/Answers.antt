-- `heading::layout`: number by number, as defined.
use Rattle.heading.proofs.Numbers.{layout_read}
use Rattle.heading.proofs.layout.Goals as goal

pub returns : goal.returns
returns c = layout_read c.args.heading.now c.eight-m.ensures c.eight-order.ensures c.number.ensures c.number-2.ensures c.number-3.ensures c.number-4.ensures c.number-5.ensures c.number-6.ensures
