-- For computing examples: what the steps come down to. No contract cites this file.
use Rattle.std.specs.Prelude.{ℕ}
use Rattle.workspace.specs.Memory.{cleared}
use Rattle.workspace.specs.Compute.{leaves}
use Rattle.update.specs.Working.{refused_row, factored, solved, subtracted, logged, scaled}

unfoldable pub steps : ℕ
unfolding leaves refused_row factored solved subtracted logged scaled cleared
steps = 0
