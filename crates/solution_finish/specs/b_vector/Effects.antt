-- b = theta times u (document 01, Record 7), by sorted blocks: u lies in v where the result list has it.
use Rattle.std.specs.Prelude.{ℕ, List, Float}
use Rattle.storage.specs.Runs.{tab}
use Rattle.rules.specs.Arithmetic.{ieee}
use Rattle.rules.specs.Cholesky.{at}
use Rattle.layout.specs.declared.Layout.{Layout}
use Rattle.layout.specs.Shapes.{block_rows}
use Rattle.workspace.specs.Memory.{theta_of}
use Rattle.solution_vectors.specs.Vectors.{block_at}
use Rattle.solution_vectors.specs.result_places.Places.{u_at}

-- block j of b
abbrev pub effect_block : (h : List ℕ) (w : List Float) → Layout → List Float → ℕ → List Float
effect_block h w y v j = tab (block_rows y j) (λ c. ieee.times (theta_of h w j) (at ieee (block_at y (u_at y) v j) c))

unfoldable pub effect_blocks : (h : List ℕ) (w : List Float) → Layout → List Float → List (List Float)
effect_blocks h w y v = tab y.k (effect_block h w y v)
