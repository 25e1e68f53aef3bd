-- `load::room::room_of`: both lengths.
use Prim.Native.Nat.{ℕ}
use mathlib.Core.Path.{ap₂}
use Rattle.load.specs.declared.room.Room.{Room}
use Rattle.load.proofs.room.room_of.Goals as goal

abbrev both : ℕ → ℕ → Room
both d n = record { doubles = d; numbers = n }

pub returns : goal.returns
returns c = ap₂ both c.doubles_needed.ensures c.numbers_needed.ensures
