-- How far a loop over a block's runs has come.
use Rattle.std.specs.Prelude.{ℕ, suc, ◌≡◌, List, ◌++◌, length, Float}
use Rattle.storage.specs.Runs.{cells, tab}
use Rattle.storage.specs.Part.{store}

-- j runs and i cells of the next one are written, all else is as in w₀
abbrev pub Done : (off : ℕ) (len : ℕ → ℕ) (b : ℕ → ℕ → Float) (w₀ : List Float) (j i : ℕ) (w : List Float) → Type 0
Done off len b w₀ j i w = w ≡ store off (cells len j b ++ tab i (b j)) w₀

-- i cells of run j are written since the list was `entry`, by a rule over the list w₀ that the loop over the runs began with
abbrev pub Cells : (off : ℕ) (len : ℕ → ℕ) (rule : List Float → ℕ → ℕ → Float) (j : ℕ) (entry : List Float) (i : ℕ) (w : List Float) → Type 0
Cells off len rule j entry i w = (w₀ : List Float) → length w₀ ≡ length entry → Done off len (rule w₀) w₀ j 0 entry → Done off len (rule w₀) w₀ j i w

-- a helper that writes run j whole
abbrev pub Writes : (off : ℕ) (len : ℕ → ℕ) (rule : List Float → ℕ → ℕ → Float) (j : ℕ) (entry exit : List Float) → Type 0
Writes off len rule j entry exit =
    (w₀ : List Float) → length w₀ ≡ length entry → Done off len (rule w₀) w₀ j 0 entry → Done off len (rule w₀) w₀ (suc j) 0 exit
