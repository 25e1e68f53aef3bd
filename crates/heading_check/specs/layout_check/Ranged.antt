-- A layout with at most 8 blocks, each of at most 65,535 levels: its sizes are no large numbers.
use Rattle.std.specs.Prelude.{ℕ, ◌<◌, ◌≤◌}
use Rattle.layout.specs.declared.Layout.{Layout}
use Rattle.layout.specs.Shapes.{levels}

pub record Ranged (y : Layout) : Type 0 where
  pub blocks : y.k ≤ 8
  pub level : (j : ℕ) → j < y.k → levels y j ≤ 65535
