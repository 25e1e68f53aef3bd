-- A walk over a list of steps (document 01, Record 5): how many are left, and whether each that is done comes after its forerunners.
use Rattle.std.specs.Prelude.{ℕ, ◌+◌, Bool, not, ◌&&◌, ◌||◌, cond, List, [], ◌∷◌}
use Rattle.step_order.specs.Steps.{Step, forerunners}
use Rattle.step_order.specs.Progress.{all, done}
use Rattle.heading_format.specs.Heading.{stage_of, progress_of}
use Rattle.heading_check.specs.declared.stage_check.Walk.{Walk}

-- a step more, that is done or not, and that may be done or not
abbrev pub step_with : Walk → Bool → Bool → Walk
step_with w done ready = record { left = w.left + cond done 0 1; valid = w.valid && (not done || ready) }

unfoldable pub stepped : (ℕ → ℕ → ℕ) → Walk → Step → Walk
stepped g w s = step_with w (done g s) (all (done g) (forerunners s))

unfoldable pub walked : (ℕ → ℕ → ℕ) → Walk → List Step → Walk
unfolding stepped
walked g w [] = w
walked g w (s ∷ l) = walked g (stepped g w s) l

-- the stages that a heading tells
abbrev pub stages_in : List ℕ → ℕ → ℕ → ℕ
stages_in h = stage_of (progress_of h)
