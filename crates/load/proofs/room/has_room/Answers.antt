-- `load::room::has_room`: both lists against what is needed.
use mathlib.Core.Path.{ap}
use mathlib.Core.Bool.{◌&&◌}
use lib.Dec.{leb}
use lib.ListN.{length}
use Rattle.load.specs.declared.room.Room.{Room}
use Rattle.load.proofs.room.has_room.Goals as goal

pub returns : goal.returns
returns c = let a = c.args in
    ap (λ (room : Room). leb room.numbers (length a.heading.now) && leb room.doubles (length a.w.now)) c.room_of-room.ensures
