-- The layouts and progresses that a heading can hold: every number is below 2 ^ 32.
use Rattle.std.specs.Prelude.{ℕ, ◌<◌, get_or}
use Rattle.layout.specs.declared.Layout.{Layout}
use Rattle.heading_format.specs.declared.Progress.{Progress}

pub record SmallLayout (y : Layout) : Type 0 where
  pub n : y.n < 4294967296
  pub p : y.p < 4294967296
  pub q : y.q < 4294967296
  pub k : y.k < 4294967296
  pub m : (i : ℕ) → get_or y.m i 0 < 4294967296
  pub order : (i : ℕ) → get_or y.order i 0 < 4294967296

pub record SmallProgress (g : Progress) : Type 0 where
  pub left : g.left < 4294967296
  pub stages : (i : ℕ) → get_or g.stages i 0 < 4294967296
