-- What is written from a place on, and where it ends.
use Rattle.std.specs.Prelude.{ℕ, ◌+◌, ◌≡◌, List, length}
use Rattle.storage.specs.Part.{store}

-- w' is w with l from `at` on, and r is the place behind l
abbrev pub Put : ℕ → List ℕ → List ℕ → ℕ → List ℕ → Type 0
Put at l w r w' = (r ≡ at + length l) × (w' ≡ store at l w)
