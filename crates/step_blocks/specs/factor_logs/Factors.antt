-- What C(j) answers and leaves of a workspace's doubles (document 01, Record 4).
use Rattle.std.specs.Prelude.{ℕ, ◌≤◌, ◌≡◌, Bool, List, [], ◌∷◌, eqb, length, Float}
use Rattle.std.proofs.Math.Option.{none, some}
use Rattle.storage.specs.Shape.{Shape, packed, diagonal, columns, entries, size_of}
use Rattle.storage.specs.Part.{part, store}
use Rattle.storage.specs.Placed.{Placed}
use Rattle.step_order.specs.Steps.{C}
use Rattle.rules.specs.Arithmetic.{ieee}
use Rattle.rules.specs.Cholesky.{logs_of_first, logs_of_later}
use Rattle.layout.specs.declared.Layout.{Layout}
use Rattle.layout.specs.Shapes.{pick, sizes, working_at, sum_at}
use Rattle.workspace.specs.Memory.{cell_of}
use Rattle.re_lower.specs.Lower.{Pivots, answer_of, left_of_triangle, left_of_diagonal}
use Rattle.re_factor.specs.Factor.{Factored}
use Rattle.update.specs.Working.{refused_row}
use Rattle.update.specs.Calls.{made_by, sum_by, refused_by}

-- what C leaves where the block b of shape s stood: its factor, or the cells before the refused pivot
abbrev pub left_of : Shape → List Float → Pivots → List Float
left_of (packed n) b p = left_of_triangle (cell_of (packed n) b) n p
left_of (diagonal n) b p = left_of_diagonal (λ r. cell_of (diagonal n) b r r) n p
left_of (columns rows cols) b p = b
left_of (entries cols row) b p = b

-- C on a block of w: the answer p, and the list w'
abbrev pub BlockFactored : Placed → (w w' : List Float) → Pivots → Type 0
BlockFactored b w w' p =
    let l = part b.at (size_of b.shape) w in
    Factored (refused_row b.shape l) (left_of b.shape l) b.at w w' p

-- x and the logarithms of n pivots: the first block's one by one, a later one's summed from 0.0 and added at once
abbrev pub logs_of : Bool → Float → (ℕ → Float) → ℕ → Float
logs_of first x pivot n = pick first (logs_of_first ieee x pivot n) (logs_of_later ieee x pivot n)

-- the sum x with those of factor j: block k has none there
abbrev pub sum_with : Layout → ℕ → Float → (ℕ → Float) → ℕ → Float
sum_with y j x pivot n = pick (eqb j y.k) x (logs_of (eqb j 0) x pivot n)

-- w' is w but for cells of working block (j, j)
pub record OwnBlock (y : Layout) (w w' : List Float) (j : ℕ) : Type 0 where
  pub left : List Float
  pub fits : length left ≤ sizes y j j
  pub stands : w' ≡ store (working_at y j j) left w

-- C(j) on the doubles w of the workspace with heading h: the answer p, and the doubles w'
pub record Factors (y : Layout) (h : List ℕ) (w w' : List Float) (j : ℕ) (p : Pivots) : Type 0 where
  pub answer : p ≡ answer_of (refused_by h w (C j))
  pub accepted : refused_by h w (C j) ≡ none → w' ≡ store (sum_at y) (sum_by h w (C j) ∷ []) (store (working_at y j j) (made_by h w (C j)) w)
  pub refused : (r : ℕ) → refused_by h w (C j) ≡ some r → OwnBlock y w w' j
