-- `triangular_solves::cross_terms::entry_rows`: the whole rest of the heading.
use Prim.Native.Nat.{◌-◌}
use native.Mathlib.Omega.{arith}
use lib.ListN.{length, drop, length-drop}
use lib.Seq.{take_all}
use Rattle.heading_format.specs.Parts.{heading_length}
use Rattle.triangular_solves.proofs.cross_terms.entry_rows.Goals as goal

pub returns : goal.returns
returns c = let h = c.args.heading.now in take_all (length h - heading_length) (drop heading_length h) (simp length-drop (omega arith))
