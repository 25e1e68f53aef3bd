-- The deviance by the layout, the doubles and the log determinant alone (document 01, Record 6): what is left to do once an update has ended.
use Rattle.std.specs.Prelude.{ℕ, Bool, ◌||◌, List, get_or, Float}
use Rattle.rules.specs.Arithmetic.{ieee}
use Rattle.rules.specs.Finish.{deviance_of}
use Rattle.block_runs.specs.blocks.Blocks.{block}
use Rattle.layout.specs.declared.Layout.{Layout}
use Rattle.layout.specs.Shapes.{pick, working_at, sum_at, last_shape, response_row}
use Rattle.profile.specs.declared.Deviance.{Deviance}
use Rattle.profile.specs.declared.Deviance.TheVariants.{Value, NoScale}
use Rattle.profile.specs.Deviance.{freedom}

module _ (y : Layout) (w : List Float) where
  -- pivot r of block k
  abbrev pub pivot_of : ℕ → Float
  pivot_of r = block (working_at y y.k y.k) (last_shape y) w r r

  -- twice the logarithms' sum
  abbrev pub log_determinant_of : Float
  log_determinant_of = ieee.times ieee.two (get_or w (sum_at y) ieee.zero)

  -- no scale where r2 or d is at most 0; else the value with this log determinant
  unfoldable pub deviance_with : Float → Bool → Deviance
  deviance_with logdet reml =
      let r2 = ieee.times (pivot_of (response_row y)) (pivot_of (response_row y)) in
      let d = freedom y reml in
      pick (ieee.refused r2 || ieee.refused d) NoScale (Value (deviance_of ieee reml d (ieee.over r2 d) logdet pivot_of y.p))
