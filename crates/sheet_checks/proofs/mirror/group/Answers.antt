-- `sheet_checks::mirror::group`: a pass with a fresh array.
use Rattle.sheet_checks.proofs.mirror_scan.Passes.{fresh_fits, fresh_same}
use Rattle.sheet_checks.proofs.mirror.group.Goals as goal

pub pass-requires : goal.pass-requires
pass-requires g c = let p = c.requires in let a = c.args in
    (p.0, p.1, p.2, fresh_fits a.base _ a.starts.zz p.3 p.4, fresh_same _ a.starts.zz)
