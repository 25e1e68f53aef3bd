-- The doubles as begin leaves them (document 01, Record 4): theta kept in sheet order, every working block begun, the logarithms' sum +0.0.
use Rattle.std.specs.Prelude.{ℕ, ◌≡◌, List, [], ◌∷◌, Float}
use Rattle.storage.specs.Part.{store}
use Rattle.rules.specs.Arithmetic.{ieee}
use Rattle.layout.specs.declared.Layout.{Layout}
use Rattle.layout.specs.Shapes.{targets, theta_at, sum_at}
use Rattle.begin.specs.scaled_blocks.Scaled.{scaled_blocks}

-- w' is w begun, whatever the rows of a sparse pair's entries are
abbrev pub DoublesBegun : Layout → List Float → List Float → List Float → Type 0
DoublesBegun y theta w w' =
    (row : ℕ → ℕ) → w' ≡ store (sum_at y) (ieee.zero ∷ []) (scaled_blocks y row theta (targets y.k) (store (theta_at y) theta w))
