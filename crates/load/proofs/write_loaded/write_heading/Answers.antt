-- `load::write_loaded::write_heading`: the rows stand right behind the heading's parts.
use native.Mathlib.Omega.{arith}
use Rattle.load_numbers.proofs.sheet_words.Loads.{few_k}
use Rattle.load.proofs.room.Fits.{ready_small, progress_small}
use Rattle.load.proofs.room.Outcomes.{heading_made}
use Rattle.load.proofs.write_loaded.write_heading.Goals as goal

pub idle-requires : goal.idle-requires
idle-requires c = let a = c.args in few_k a.bytes.now a.starts a.layout c.requires.0

pub write-requires : goal.write-requires
write-requires c = let a = c.args in let r = c.requires.0 in
    (omega (arith, c.requires.1), ready_small a.bytes.now a.starts a.layout r, progress_small a.layout.k _ (few_k a.bytes.now a.starts a.layout r) c.idle.ensures)

pub returns : goal.returns
returns c = let a = c.args in
    λ sheet e. heading_made sheet a.layout _ a.heading.now _ _ c.idle.ensures c.write.ensures (c.load_entry_rows.ensures sheet e) c.requires.1
