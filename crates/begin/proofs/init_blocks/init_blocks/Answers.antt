-- `begin::init_blocks::init_blocks`: kind by kind.
use Rattle.begin.proofs.scaled_blocks.Blocks.{targets_done}
use native.Mathlib.Omega.{arith}
use Rattle.begin.proofs.init_blocks.init_blocks.Goals as goal

pub init_row-requires : goal.init_row-requires
init_row-requires c = (record { valid = c.requires.0.valid; room = omega (arith, c.requires.0.room) }, c.requires.1, omega arith)

pub returns : goal.returns
returns c = targets_done c.args.layout c.args.theta.now c.args.doubles.now _ _ _ _ c.init_factors.ensures c.init_pairs.ensures c.init_row.ensures c.init_last.ensures
