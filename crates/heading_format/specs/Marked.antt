-- A progress with one step more done (document 01, Record 5).
use Rattle.std.specs.Prelude.{ℕ, ◌-◌, cond, eqb, set}
use Rattle.heading_format.specs.declared.Progress.{Progress}
use Rattle.heading_format.specs.declared.State.TheVariants.{UnderWay, Finished}

-- the stage of the target at `place` is `stage`; one step left fewer, and finished with the last
abbrev pub marked : Progress → ℕ → ℕ → Progress
marked g place stage =
    record { state = cond (eqb g.left 1) Finished UnderWay; left = g.left - 1; stages = set g.stages place stage }
