use mathlib.Core.Path.{◌≡◌, refl, sym, ap, ◌∙◌}
use Prim.Native.Nat.{◌+◌, suc}
use native.Mathlib.Omega.{arith}
use native.Mathlib.Numerals.{add-one}
use native.Mathlib.Nat.{add-zero}
use Rattle.storage.specs.Runs.{start, triangle}
use Rattle.re_lower.proofs.Band.{band_turn}
use Rattle.re_lower.proofs.four_rows.gather.Goals as goal

pub loop-i-init : goal.loop-i-init
loop-i-init c = let a = c.args in
    (omega arith, c.requires.1 ∙ ap (start triangle) (sym (add-zero a.base)), refl, (λ i y h k. absurd (omega arith)))

pub loop-i-preserved : goal.loop-i-preserved
unfolding start
loop-i-preserved c = let a = c.args in
    let l = c.loop-i in
    let e : a.base + (l.i + 1) ≡ suc (a.base + l.i) = omega arith in (
      omega arith,
      rw e (omega arith),
      omega arith,
      rw add-one (band_turn a.t.now l.x _ a.base l.at l.i (omega arith) l.invariant.1 l.invariant.3 c.gather_row.ensures),
    )

pub returns : goal.returns
returns c = let e : c.loop-i.i ≡ c.args.rows = omega arith in rw e at c.loop-i.invariant.3
