-- `sheet_checks::check_sheet`: each answer, from the tests before it.
use mathlib.Core.Path.{ap}
use mathlib.Core.Bool.{not}
use native.Mathlib.Omega.{arith}
use borrow.Author.Tests.{eq-eqb, ne_eqb}
use Rattle.sheet_checks.proofs.Order.{holds, five, six, small, covers, seven, eight, nine, none}
use Rattle.sheet_checks.proofs.check_sheet.Goals as goal

pub returns-then-starts-eq0 : goal.returns-then-starts-eq0
returns-then-starts-eq0 c = five c.args.bytes.now c.requires (omega arith)

pub returns-then-starts-eq0-2 : goal.returns-then-starts-eq0-2
returns-then-starts-eq0-2 c = six c.args.bytes.now c.requires (λ q. omega arith) (omega arith)

pub has_slope-slope-requires : goal.has_slope-slope-requires
has_slope-slope-requires c = holds c.args.bytes.now c.requires

pub levels-m-requires : goal.levels-m-requires
levels-m-requires c = holds c.args.bytes.now c.requires

pub total-requires : goal.total-requires
total-requires c = small c.args.bytes.now c.requires c.levels-m.ensures

pub returns-then-slope : goal.returns-then-slope
returns-then-slope c = seven c.args.bytes.now c.requires (λ q. omega arith) (λ q. omega arith) c.has_slope-slope.ensures c.if-slope.true

pub returns-then-uncovered : goal.returns-then-uncovered
returns-then-uncovered c = eight c.args.bytes.now c.requires (λ q. omega arith) (λ q. omega arith) c.has_slope-slope.ensures c.if-slope.false c.levels-m.ensures c.total.ensures (ap not (ne_eqb _ _ c.if-uncovered.true))

pub faulty_line-requires : goal.faulty_line-requires
faulty_line-requires c = covers c.args.bytes.now c.requires c.levels-m.ensures c.total.ensures (ap not (eq-eqb _ _ c.if-uncovered.false))

pub returns-in-Some : goal.returns-in-Some
returns-in-Some c = nine c.args.bytes.now c.requires (λ q. omega arith) (λ q. omega arith) c.has_slope-slope.ensures c.if-slope.false c.levels-m.ensures c.total.ensures (ap not (eq-eqb _ _ c.if-uncovered.false)) c.in-Some.ensures

pub returns : goal.returns
returns c = none c.args.bytes.now c.requires (λ q. omega arith) (λ q. omega arith) c.has_slope-slope.ensures c.if-slope.false c.levels-m.ensures c.total.ensures (ap not (eq-eqb _ _ c.if-uncovered.false)) c.in_default.ensures
