-- Progress none fits a heading's numbers.
use Prim.Native.Nat.{ℕ, zero, suc, ◌≤◌, ◌<◌}
use native.Mathlib.Omega.{arith}
use lib.ListN.{get_or, replicate}
use Rattle.heading_format.specs.Heading.{idle}
use Rattle.heading.proofs.idle_progress.Count.{triple_small, step_count_lem}
use Rattle.heading.specs.writer.Small.{SmallProgress}
use Rattle.heading_format.specs.Parts.{most_targets}

pub zeros_small : (n i : ℕ) → get_or (replicate n 0) i 0 < 4294967296
zeros_small zero i = omega arith
zeros_small (suc n) zero = omega arith
zeros_small (suc n) (suc i) = zeros_small n i

pub idle_small : (k : ℕ) → k ≤ 8 → SmallProgress (idle k)
idle_small k h = record { left = omega (arith, step_count_lem k h, triple_small k h); stages = zeros_small most_targets }
