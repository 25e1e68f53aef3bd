-- The result list once all its parts are made, and the two scalars with a residual (document 01, Record 7).
use Rattle.std.specs.Prelude.{ℕ, ◌≡◌, Bool, List, Float}
use Rattle.storage.specs.Runs.{start, triangle}
use Rattle.storage.specs.Part.{part}
use Rattle.rules.specs.Arithmetic.{ieee}
use Rattle.rules.specs.Sums.{dot}
use Rattle.rules.specs.Cholesky.{at, cell_of as entry_of}
use Rattle.rules.specs.Finish.{deviance_of}
use Rattle.layout.specs.declared.Layout.{Layout}
use Rattle.heading_format.specs.Heading.{layout_of}
use Rattle.profile.specs.declared.Solution.{Solution}
use Rattle.profile.specs.Deviance.{freedom, log_determinant}
use Rattle.profile.specs.Finish.{flattened, fixed_factor, fixed_rhs, beta, result_list}
use Rattle.solution_vectors.specs.result_places.Places.{lx_at}

-- the list, and beta times its right side
pub record Finished (h : List ℕ) (w : List Float) (y : Layout) (v : List Float) (r : Float) : Type 0 where
  pub whole : v ≡ result_list h w
  pub factor : part (lx_at y) (start triangle y.p) v ≡ flattened (fixed_factor h w)
  pub answer : r ≡ dot ieee (at ieee (beta h w)) (fixed_rhs h w) y.p

-- deviance and sigma2 with the residual r2
abbrev pub scalars_with : (h : List ℕ) (w : List Float) → Bool → Float → Solution
scalars_with h w reml r2 =
    let y = layout_of h in
    let s = ieee.over r2 (freedom y reml) in
    record {
      deviance = deviance_of ieee reml (freedom y reml) s (log_determinant h w) (λ i. entry_of ieee (fixed_factor h w) i i) y.p;
      sigma2 = s;
    }
