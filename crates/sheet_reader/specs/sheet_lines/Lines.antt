-- What the contract about the lines after the size line cites (document 01, Record 1).
use Rattle.std.specs.Prelude.{◌≤◌}
use Rattle.sheet.specs.declared.Counts.{Counts}

-- the counts that bound how many lines follow, so that their numbers never wrap
pub record Small (z : Counts) : Type 0 where
  pub p : z.p ≤ 32
  pub q : z.q ≤ 524280
  pub k : z.k ≤ 8
