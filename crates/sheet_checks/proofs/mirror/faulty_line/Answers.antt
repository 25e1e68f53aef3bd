-- `sheet_checks::mirror::faulty_line`: by the number of zz lines and of columns.
use Rattle.std.proofs.Common.{lit≤}
use native.Mathlib.Omega.{arith}
use Rattle.sheet_checks.proofs.mirror_scan.Passes.{given, levelled, empty_names, judged_all, names_for}
use Rattle.sheet_checks.proofs.mirror.faulty_line.Goals as goal

pub entries-n-requires : goal.entries-n-requires
entries-n-requires c = (c.args.bytes.now, (c.requires.0, c.requires.1))

pub returns-then-n-eq0 : goal.returns-then-n-eq0
returns-then-n-eq0 c = let n = c.entries-n.ensures in
    λ sheet e. names_for c.args.bytes.now e (empty_names (given c.args.bytes.now c.requires n.0 n.1) (omega arith))

pub group-at-requires : goal.group-at-requires
group-at-requires c = let n = c.entries-n.ensures in
    (given c.args.bytes.now c.requires n.0 n.1, levelled c.args.bytes.now c.requires, omega arith, omega arith, lit≤ tt)

pub line_number_at-requires : goal.line_number_at-requires
line_number_at-requires c = let n = c.entries-n.ensures in given c.args.bytes.now c.requires n.0 n.1

pub returns-then-starts-le1024 : goal.returns-then-starts-le1024
returns-then-starts-le1024 c = let n = c.entries-n.ensures in
    λ sheet e. names_for c.args.bytes.now e (judged_all (given c.args.bytes.now c.requires n.0 n.1) c.group-at.ensures c.if-starts-le1024.true c.line_number_at.ensures)

pub groups-at-requires : goal.groups-at-requires
groups-at-requires c = let n = c.entries-n.ensures in
    (given c.args.bytes.now c.requires n.0 n.1, levelled c.args.bytes.now c.requires, omega arith)

pub line_number_at-requires-2 : goal.line_number_at-requires-2
line_number_at-requires-2 c = let n = c.entries-n.ensures in given c.args.bytes.now c.requires n.0 n.1

pub returns : goal.returns
returns c = let n = c.entries-n.ensures in let r = c.groups-at.ensures in
    λ sheet e. names_for c.args.bytes.now e (judged_all (given c.args.bytes.now c.requires n.0 n.1) r.2 r.1 c.line_number_at-2.ensures)
