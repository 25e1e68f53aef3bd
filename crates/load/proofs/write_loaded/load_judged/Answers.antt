-- `load::write_loaded::load_judged`: both lists are long enough before anything is written.
use mathlib.Core.Path.{sym, ◌∙◌}
use Rattle.load_numbers.proofs.sheet_words.Loads.{ready_valid}
use Rattle.load.proofs.room.Outcomes.{numbers_fit, doubles_fit, short_out, written_out}
use Rattle.load.proofs.write_loaded.load_judged.Goals as goal

pub has_room-requires : goal.has_room-requires
has_room-requires c = let a = c.args in
    ready_valid a.bytes.now a.starts a.layout c.requires

pub returns-then-not-has_room : goal.returns-then-not-has_room
returns-then-not-has_room c = let a = c.args in
    λ sheet e. short_out sheet a.layout a.heading.now a.doubles.now (sym c.has_room.ensures ∙ c.if-not-has_room.true)

pub write_sheet-requires : goal.write_sheet-requires
write_sheet-requires c = let a = c.args in
    let room = sym c.has_room.ensures ∙ c.if-not-has_room.false in
    (c.requires, numbers_fit a.layout a.heading.now a.doubles.now room, doubles_fit a.layout a.heading.now a.doubles.now room)

pub returns : goal.returns
returns c = let a = c.args in
    λ sheet e. let t = c.write_sheet.ensures sheet e in
    written_out sheet a.layout a.heading.now a.doubles.now _ _ (sym c.has_room.ensures ∙ c.if-not-has_room.false) t.0 t.1
