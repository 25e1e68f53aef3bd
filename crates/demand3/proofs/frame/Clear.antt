-- What a refused pivot leaves of the doubles: the loaded numbers and what lies behind.
use Prim.Native.Nat.{◌+◌, ◌-◌, ◌≤◌}
use mathlib.Core.Path.{◌≡◌}
use mathlib.Core.List.{List}
use native.Mathlib.Omega.{arith}
use lib.ListN.{length, take, drop, length-replicate}
use lib.Ieee.{Float}
use Rattle.storage.proofs.Parts.{length_store, take_store, drop_store}
use Rattle.rules.specs.Arithmetic.{ieee}
use Rattle.layout.specs.declared.Layout.{Layout}
use Rattle.layout.specs.Shapes.{loaded_length, theta_at, working_end, doubles_needed}
use Rattle.workspace.specs.Memory.{zeros, working_zeros, cleared}
use Rattle.layout.proofs.Places.{theta_inside}

-- the zeros reach from theta to the end of the workspace
pub zeros_length : (y : Layout) → loaded_length y + length (zeros y) ≡ doubles_needed y
unfolding zeros
zeros_length y = omega (arith, theta_inside y, length-replicate (doubles_needed y - loaded_length y) ieee.zero)

-- those of a refused pivot to the end of the working doubles
working_length : (y : Layout) → theta_at y + length (working_zeros y) ≡ working_end y
unfolding working_zeros
working_length y = omega (arith, theta_inside y, length-replicate (working_end y - theta_at y) ieee.zero)

module _ (y : Layout) (w : List Float) (room : doubles_needed y ≤ length w) where
  -- so they fit
  zeros_fit : theta_at y + length (working_zeros y) ≤ length w
  zeros_fit = omega (arith, working_length y)

  -- the length stays
  pub cleared_length : length (cleared y w) ≡ length w
  unfolding cleared
  cleared_length = length_store (theta_at y) (working_zeros y) w zeros_fit

  -- the loaded numbers stay
  pub cleared_loaded : take (loaded_length y) (cleared y w) ≡ take (loaded_length y) w
  unfolding cleared
  cleared_loaded = take_store (theta_at y) (working_zeros y) w zeros_fit

  -- what lies behind the workspace stays
  pub cleared_behind : drop (doubles_needed y) (cleared y w) ≡ drop (doubles_needed y) w
  unfolding cleared
  cleared_behind = drop_store (theta_at y) (working_zeros y) w zeros_fit (doubles_needed y) (omega (arith, working_length y))
