-- `load_numbers::sheet_words::load_numbers`: +0.0 everywhere, then all runs.
use mathlib.Core.Path.{◌≡◌, subst}
use native.Mathlib.Omega.{arith}
use Rattle.sheet.specs.Sheet.{Sheet, accepted, read_sheet}
use Rattle.layout.specs.declared.Layout.{Layout}
use Rattle.load_numbers.specs.sheet_words.Runs.{first_runs, last_runs}
use Rattle.load_numbers.proofs.sheet_words.Loads.{ready_valid, loaded}
use Rattle.load_numbers.proofs.sheet_words.load_numbers.Goals as goal

pub of-map-requires : goal.of-map-requires
of-map-requires c = let a = c.args in ready_valid a.bytes.now a.starts a.layout c.requires.0

pub clear_all-requires : goal.clear_all-requires
clear_all-requires c = let a = c.args in
    record { valid = ready_valid a.bytes.now a.starts a.layout c.requires.0; room = c.requires.1 }

pub returns : goal.returns
returns c = let a = c.args in let m = c.of-map.ensures in
    loaded a.bytes.now a.starts a.layout c.requires.0 a.doubles.now _ _ _ c.requires.1 (omega arith) c.clear_all.ensures
    (subst (λ (y : Layout). (sheet : Sheet) → read_sheet a.bytes.now ≡ accepted sheet a.starts → c.first_runs.new.doubles ≡ first_runs a.bytes.now sheet a.starts y c.clear_all.new.doubles) m c.first_runs.ensures)
    (subst (λ (y : Layout). (sheet : Sheet) → read_sheet a.bytes.now ≡ accepted sheet a.starts → c.last_runs.new.doubles ≡ last_runs a.bytes.now sheet a.starts y c.first_runs.new.doubles) m c.last_runs.ensures)
