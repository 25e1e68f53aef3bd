-- "progress against Record 5 or holding a done step without its forerunners" (document 01, refusal 20), without a test: a progress is none, or some order of
-- ready steps reaches it from an update just begun. The order of all steps reaches the finished one.
use Rattle.std.specs.Prelude.{ℕ, ◌≤◌, ◌≡◌, false, List, [], ◌∷◌}
use Rattle.step_order.specs.Steps.{Step}
use Rattle.step_order.specs.Progress.{Order}
use Rattle.heading_format.specs.declared.Progress.{Progress}
use Rattle.heading_format.specs.Heading.{stage_of, idle, under_way}
use Rattle.update.specs.Calls.{advanced}

-- two progresses say the same: of the targets there are with k, what stands behind these having no use
pub record SameProgress (k : ℕ) (g f : Progress) : Type 0 where
  pub state : g.state ≡ f.state
  pub left : g.left ≡ f.left
  pub stages : (i j : ℕ) → j ≤ i → i ≤ k → stage_of g i j ≡ stage_of f i j

-- the steps of a list done one after the other
unfoldable pub progress_after : Progress → List Step → Progress
progress_after g [] = g
progress_after g (s ∷ l) = progress_after (advanced g s) l

pub data Reached (k : ℕ) (g : Progress) : Type 0 where
  none_begun : SameProgress k g (idle k) → Reached k g
  by_order : (l : List Step) → Order k (λ s. false) l → SameProgress k g (progress_after (under_way k) l) → Reached k g
