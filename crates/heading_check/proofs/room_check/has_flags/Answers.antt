-- `heading_check::room_check::has_flags`: number by number.
use Rattle.heading_check.proofs.room_check.has_flags.Goals as goal

pub returns : goal.returns
returns c = cc
