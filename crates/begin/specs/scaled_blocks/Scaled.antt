-- The working blocks begun one after the other, each out of its loaded block in the list as it then is (document 01, Record 4).
use Rattle.std.specs.Prelude.{ℕ, ◌≡◌, false, Float}
use mathlib.Core.List.{List, [], ◌∷◌}
use Rattle.storage.specs.Part.{part, store}
use Rattle.layout.specs.declared.Layout.{Layout}
use Rattle.layout.specs.Shapes.{Target, loaded_sizes, loaded_at, working_at}
use Rattle.update.specs.Working.{scaled}

module _ (y : Layout) (row : ℕ → ℕ) (theta : List Float) where
  -- working block (i, j) begun
  unfoldable pub scaled_block : ℕ → ℕ → List Float → List Float
  unfolding scaled loaded_at working_at
  scaled_block i j v = store (working_at y i j) (scaled y row (λ r c. false) theta i j (part (loaded_at y i j) (loaded_sizes y i j) v)) v

  -- those of a list, in turn
  unfoldable pub scaled_blocks : List Target → List Float → List Float
  unfolding scaled_block
  scaled_blocks [] v = v
  scaled_blocks (b ∷ l) v = scaled_blocks l (scaled_block b.row b.col v)

-- The list w' is w with block (i, j) begun, and with those of a list: whatever the rows of a sparse pair's entries are, each double is the same.
abbrev pub BlockScaled : Layout → List Float → ℕ → ℕ → List Float → List Float → Type 0
BlockScaled y theta i j w w' = (row : ℕ → ℕ) → w' ≡ scaled_block y row theta i j w

abbrev pub BlocksScaled : Layout → List Float → List Target → List Float → List Float → Type 0
BlocksScaled y theta l w w' = (row : ℕ → ℕ) → w' ≡ scaled_blocks y row theta l w
