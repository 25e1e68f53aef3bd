use mathlib.Core.Path.{◌≡◌, refl}
use Prim.Native.Nat.{◌≤◌, ◌*◌, ◌+◌}
use native.Mathlib.Omega.{arith}
use native.Mathlib.Numerals.{add-one}
use lib.ListN.{length}
use Rattle.storage.specs.Runs.{start}
use Rattle.re_lower.specs.Band.{four_done}
use Rattle.re_lower.proofs.Band.{four_rest, four_solved}
use Rattle.re_lower.proofs.four_rows.solve_four.Goals as goal

pub loop-c-init : goal.loop-c-init
unfolding start
loop-c-init c = (omega arith, refl, refl, (λ i y h k. absurd (omega arith)), (λ z h. refl))

pub loop-c-preserved : goal.loop-c-preserved
unfolding start
loop-c-preserved c = let a = c.args in
    let l = c.loop-c in
    let e : c.four_cells.new.x ≡ four_done l.x a.l.now l.from l.c = c.four_cells.ensures in
    let f : 4 * l.c + 4 ≤ length l.x = omega arith in (
      omega arith,
      rw add-one (omega arith),
      omega arith,
      rw (add-one, e) (four_solved a.x.now a.l.now l.x l.from l.c l.invariant.1 f l.invariant.3 l.invariant.4),
      rw (add-one, e) (four_rest a.x.now a.l.now l.x l.from l.c l.invariant.1 f l.invariant.3 l.invariant.4),
    )

pub returns : goal.returns
returns c = let e : c.loop-c.c ≡ c.args.n = omega arith in rw e at c.loop-c.invariant.3
