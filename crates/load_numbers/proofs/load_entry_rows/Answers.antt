-- `load_numbers::load_entry_rows`: all rows where the pair is sparse, else nothing.
use Prim.Native.Nat.{◌+◌, ◌≤◌, ◌<◌}
use mathlib.Core.Path.{sym, ap, subst, ◌∙◌}
use native.Mathlib.Omega.{arith}
use lib.ListN.{length}
use Rattle.storage.specs.Runs.{tab}
use Rattle.sheet.specs.Line.{zz_tag, pair_line}
use Rattle.layout.specs.declared.Layout.{Layout}
use Rattle.layout.specs.Shapes.{levels}
use Rattle.workspace.specs.Loaded.{entry_row_in}
use Rattle.heading_format.specs.Parts.{heading_length}
use Rattle.load_numbers.specs.word_address.Spread.{spread}
use Rattle.load_numbers.specs.Rows.{put_row}
use Rattle.load_numbers.proofs.sheet_words.Loads.{ready_valid, knows}
use Rattle.load_numbers.proofs.Made.{sparse_room, unpicked, rows_loaded}
use Rattle.load_numbers.proofs.load_entry_rows.Goals as goal

pub of-map-requires : goal.of-map-requires
of-map-requires c = let a = c.args in let r = c.requires.0 in
    ready_valid a.bytes.now a.starts a.layout r

pub entries-requires : goal.entries-requires
entries-requires c = let r = c.requires.0 in ((c.args.bytes).now, (r.0, r.1))

pub put_rows-requires : goal.put_rows-requires
put_rows-requires c = let a = c.args in let r = c.requires.0 in
    let thin = c.if-layout.true in
    subst (λ (y : Layout). (1 < y.k) × (heading_length + levels y 0 ≤ length a.heading.now)) (sym c.of-map.ensures) (
      omega (arith, ((knows a.bytes.now a.starts a.layout r).inner thin).0),
      sparse_room a.layout.sparse (levels a.layout 0) (length a.heading.now) thin c.requires.1,
    )

pub returns-then-layout : goal.returns-then-layout
returns-then-layout c = let a = c.args in
    rows_loaded a.bytes.now a.starts a.layout c.requires.0 c.if-layout.true c.entries.result (c.entries.ensures.0 a.bytes.now c.requires.0.0 c.requires.0.1) a.heading.now _ (omega arith) c.requires.1
    (c.put_rows.ensures ∙ ap (λ (y : Layout). spread (put_row y) (pair_line zz_tag a.bytes.now) c.entries.result 0 a.starts.zz a.heading.now) c.of-map.ensures)

pub returns-else-layout : goal.returns-else-layout
returns-else-layout c = let a = c.args in
    λ x e. unpicked a.layout.sparse (tab (levels a.layout 0) (entry_row_in x a.layout)) a.heading.now c.if-layout.false
