-- Loaded and working blocks alike (document 01, Records 2 to 4).
use Rattle.std.specs.Prelude.{ℕ, Bool}
use Rattle.layout.specs.declared.Layout.{Layout}
use Rattle.layout.specs.Shapes.{pick, sizes, loaded_sizes}

-- the cells of each block, loaded or working
abbrev pub sizes_of : Layout → Bool → ℕ → ℕ → ℕ
sizes_of y loaded = pick loaded (loaded_sizes y) (sizes y)
