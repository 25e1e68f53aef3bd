-- `square_root::inverse_table::inverse` meets its contract: its terms fit.
use native.Mathlib.Omega.{arith}
use Prim.Native.Nat.{◌/◌, ◌%◌}
use Rattle.square_root.proofs.inverse_table.Words.{terms}
use Rattle.square_root.proofs.inverse_table.inverse.Goals as goal

pub returns : goal.returns
returns c = omega (arith, terms (c.args.q / 65536 % 4294967296) c.curve-k.result c.line-l.result (omega arith) c.curve-k.ensures.1)
