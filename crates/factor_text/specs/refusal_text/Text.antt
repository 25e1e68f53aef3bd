-- A text at the start of lent bytes.
use Rattle.std.specs.Prelude.{ℕ, ◌≤◌, List}
use Rattle.text_output.specs.Written.{Put}

-- out is w with l from its first byte on, and all behind l as it was; l has n bytes, which are as many as the program holds
abbrev pub Text : List ℕ → ℕ → List ℕ → List ℕ → Type 0
Text l n w out = (n ≤ 131072) × Put 0 l w n out
