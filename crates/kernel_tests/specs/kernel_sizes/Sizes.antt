-- What the kernels require of the blocks that they are given.
use Rattle.std.specs.Prelude.{ℕ, ◌+◌, ◌≤◌, ◌⊎◌}

-- n doubles from off on and m from a on lie in a list of len, and apart
pub record Clear (len off n a m : ℕ) : Type 0 where
  pub first : off + n ≤ len
  pub second : a + m ≤ len
  pub apart : (off + n ≤ a) ⊎ (a + m ≤ off)
