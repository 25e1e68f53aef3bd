-- `sheet_checks::mirror_step::meet`: what stands at the cursor, once the passed lines are skipped.
use mathlib.Core.Path.{sym, ◌∙◌, ap}
use native.Mathlib.Omega.{arith}
use borrow.Author.Rules.{rules}
use Rattle.sheet.specs.Line.{zz_tag, pair_line}
use Rattle.sheet_checks.proofs.mirror_step.Cursors.{cursor_meets, cursor_differs, cursor_misses}
use Rattle.sheet_checks.proofs.mirror_step.meet.Goals as goal

pub skip_passed-requires : goal.skip_passed-requires
skip_passed-requires c = let p = c.requires in (p.0, p.2 ∙ ap (pair_line zz_tag c.args.bytes.now) p.1, p.3, p.4)

pub returns-then-o-l : goal.returns-then-o-l
returns-then-o-l c = let p = c.requires in
    let k = c.skip_passed.ensures in (
      cursor_meets p.0.1 p.0.2 p.1 p.2 p.3 k.0 k.1 (sym c.is_opposite.ensures ∙ c.if-is_opposite.true) c.if-o-l.true,
      k.3,
    )

pub returns-then-is_opposite : goal.returns-then-is_opposite
returns-then-is_opposite c = let p = c.requires in
    let k = c.skip_passed.ensures in (
      rw c.earlier.ensures (cursor_differs p.0.1 p.0.2 p.1 p.2 p.3 k.0 k.1 (sym c.is_opposite.ensures ∙ c.if-is_opposite.true) (search rules)),
      omega (arith, k.3, c.earlier.ensures),
    )

pub returns : goal.returns
returns c = let p = c.requires in
    let k = c.skip_passed.ensures in (
      rw c.earlier-2.ensures (cursor_misses p.0.1 p.0.2 p.1 p.2 p.3 k.0 k.1 k.2 (sym c.is_opposite.ensures ∙ c.if-is_opposite.false)),
      omega (arith, k.3, c.earlier-2.ensures),
    )
