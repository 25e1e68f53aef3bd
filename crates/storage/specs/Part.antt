-- A part of a list, read and replaced.
use Rattle.std.specs.Prelude.{ℕ, ◌+◌, List, ◌++◌, length, take, drop}

module _ {A : Type 0} where
  -- the n cells of w from `off` on
  abbrev pub part : ℕ → ℕ → List A → List A
  part off n w = take n (drop off w)

  -- w with l in the place of what stood from `off` on: all before and behind l is as it was
  unfoldable pub store : ℕ → List A → List A → List A
  store off l w = take off w ++ l ++ drop (off + length l) w
