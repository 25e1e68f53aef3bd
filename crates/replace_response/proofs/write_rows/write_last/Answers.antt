-- `replace_response::write_rows::write_last`: two copies, one behind the other.
use native.Mathlib.Omega.{arith}
use mathlib.Core.Path.{ap, ◌∙◌}
use lib.ListN.{length}
use Rattle.replace_response.proofs.write_rows.Strided.{length_strided}
use Rattle.replace_response.proofs.write_rows.Cells.{few_effects, last_fits, last_written}
use Rattle.replace_response.proofs.write_rows.write_last.Goals as goal

pub row_start-requires : goal.row_start-requires
row_start-requires c = few_effects c.args.map.now.layout c.args.map.now.valid

pub overflow_add-to : goal.overflow_add-to
overflow_add-to c = omega (arith, last_fits c.args.map.now.layout c.args.map.now.valid _ _ c.requires.0 _ c.start_of.ensures c.row_start.ensures 0 (omega arith))

pub spread-requires : goal.spread-requires
spread-requires c = (
  omega (arith, c.requires.1),
  λ x l. omega (arith, last_fits c.args.map.now.layout c.args.map.now.valid _ _ c.requires.0 _ c.start_of.ensures c.row_start.ensures x (omega arith)),
)

pub overflow_add-to-2 : goal.overflow_add-to-2
overflow_add-to-2 c = omega (arith, last_fits c.args.map.now.layout c.args.map.now.valid _ _ c.requires.0 _ c.start_of.ensures c.row_start.ensures c.args.map.now.layout.p (omega arith))

pub spread-requires-2 : goal.spread-requires-2
spread-requires-2 c = let kept = ap length c.spread.ensures ∙ length_strided _ _ _ _ c.args.map.now.layout.p in (
  omega (arith, c.requires.2),
  λ x l. omega (arith, kept, last_fits c.args.map.now.layout c.args.map.now.valid _ _ c.requires.0 _ c.start_of.ensures c.row_start.ensures c.args.map.now.layout.p (omega arith)),
)

pub returns : goal.returns
returns c = last_written c.args.map.now.layout c.args.map.now.valid _ _ c.requires.0 _ c.start_of.ensures c.row_start.ensures _ _ _ _ _ c.spread.ensures c.spread-2.ensures
