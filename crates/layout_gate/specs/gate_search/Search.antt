-- The search for the first pair that the gate refuses (document 01, Record 2), by the layout alone: a diagonal block 1 says that each column has one
-- entry, and then the pair has as many entries as columns.
use Rattle.std.specs.Prelude.{ℕ, List, [], ◌∷◌, Option, None}
use Rattle.refusal.specs.declared.Refusal.{Refusal}
use Rattle.layout.specs.declared.Layout.{Layout}
use Rattle.layout.specs.Gate.{Verdict, pair_of}
use Rattle.layout.specs.Shapes.{Target, levels}
use Rattle.workspace.specs.Loaded.{or_refused}

-- what the gate says of pair (i, j)
unfoldable pub verdict : Layout → ℕ → ℕ → Verdict
unfolding pair_of
verdict y i j = pair_of y.k (levels y i) (levels y j) y.diagonal (levels y j)

-- the first of a list of pairs that it refuses
unfoldable pub first : Layout → List Target → Option Refusal
unfolding verdict
first y [] = None
first y (t ∷ l) = or_refused (verdict y t.row t.col) t (first y l)
