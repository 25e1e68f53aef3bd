use mathlib.Core.Path.{◌≡◌, refl, sym, ap, ◌∙◌}
use native.Mathlib.Omega.{arith}
use native.Mathlib.Numerals.{add-one}
use lib.ListN.{length-set}
use Rattle.storage.specs.Runs.{tab}
use Rattle.storage.proofs.Parts.{store_nil}
use Rattle.re_lower.specs.Band.{lane_stored}
use Rattle.re_lower.proofs.Band.{put_turn}
use Rattle.re_lower.proofs.four_rows.put_row.Goals as goal

pub loop-c-init : goal.loop-c-init
unfolding tab
loop-c-init c = (omega arith, refl, sym (store_nil c.args.from c.args.t.now))

pub overflow_add-t : goal.overflow_add-t
overflow_add-t c = omega (arith, c.requires.0 (omega arith))

pub offset_bounds-x-c : goal.offset_bounds-x-c
offset_bounds-x-c c = omega (arith, c.requires.0 (omega arith))

pub bounds-x-c : goal.bounds-x-c
bounds-x-c c = omega (arith, c.requires.0 (omega arith))

pub loop-c-preserved : goal.loop-c-preserved
loop-c-preserved c = let a = c.args in let l = c.loop-c in
    (omega arith, simp length-set l.invariant.1, rw add-one (put_turn a.t.now a.x.now l.t a.from a.i l.c _ (omega arith) refl (omega (arith, c.requires.0 (omega arith))) l.invariant.2))

pub returns : goal.returns
returns c = let a = c.args in let e : c.loop-c.c ≡ a.n = omega arith in
    c.loop-c.invariant.2 ∙ ap (lane_stored a.t.now a.x.now a.from a.i) e
