-- `cross_block::solve_rows`: the first c columns are solved.
use mathlib.Core.Path.{◌≡◌}
use Prim.Native.Nat.{◌+◌}
use lib.ListN.{length}
use Rattle.storage.specs.Runs.{start, triangle}
use Rattle.storage.specs.Placed.{as_columns}
use Rattle.block_runs.proofs.blocks.Going.{Going}
use Rattle.cross_block.specs.Blocks.{solved_cell}
use Rattle.cross_block.proofs.solve_rows.Given as goal

abbrev pub invariant-loop-c : goal.invariant-loop-c
invariant-loop-c l = (length l.acc ≡ 316) × (l.row ≡ l.fn.f.at + start triangle l.c) × Going (as_columns l.t) (solved_cell l.t l.fn.f l.initial.doubles) l.initial.doubles l.c l.to l.doubles
