-- The parts of the heading (document 01, Records 2 and 5), by their places, which are said here alone. A part that is to come takes some of the unused
-- numbers.
use Rattle.std.specs.Prelude.{ℕ, ◌+◌, ◌-◌}

-- ---- the layout: n p q k, the first four numbers; levels, then sheet index, of eight sorted blocks; whether the pair is sparse, and block 1 diagonal
abbrev pub levels_at : ℕ
levels_at = 4

abbrev pub order_at : ℕ
order_at = levels_at + 8

abbrev pub sparse_at : ℕ
sparse_at = order_at + 8

abbrev pub diagonal_at : ℕ
diagonal_at = sparse_at + 1

-- ---- the progress: its state, the steps left, and the stage of each of so many targets at most
abbrev pub progress_at : ℕ
progress_at = diagonal_at + 1

abbrev pub steps_left_at : ℕ
steps_left_at = progress_at + 1

abbrev pub stages_at : ℕ
stages_at = steps_left_at + 1

abbrev pub most_targets : ℕ
most_targets = 45

abbrev pub progress_end : ℕ
progress_end = stages_at + most_targets

-- ---- numbers without a use: load leaves them 0, and 20 does not look at them
abbrev pub unused_at : ℕ
unused_at = progress_end

-- ---- all of these (document 01, Record 2); behind them stand the rows of a sparse pair's entries
abbrev pub heading_length : ℕ
heading_length = 128

abbrev pub unused_numbers : ℕ
unused_numbers = heading_length - unused_at
