-- `begin::scaled_blocks::init_off_diagonal`: fixed rows or a pair.
use Rattle.begin.proofs.scaled_blocks.Blocks.{off_diagonal_fits, fixed_done, pair_done}
use Rattle.begin.proofs.scaled_blocks.init_off_diagonal.Goals as goal

pub scale_once-requires : goal.scale_once-requires
scale_once-requires c = let f = off_diagonal_fits c.args.layout _ c.requires.0.room c.args.i c.args.j _ _ _ c.requires.2 c.requires.3 c.working_at-off.ensures c.loaded_at-src.ensures c.size_of-n.ensures in
    record { n_in_bounds = f.0; apart = f.1 }

pub returns-then-i-layout : goal.returns-then-i-layout
returns-then-i-layout c = fixed_done c.args.layout _ c.requires.0.room c.args.i c.args.j _ _ _ c.requires.2 c.requires.3 c.working_at-off.ensures c.loaded_at-src.ensures c.size_of-n.ensures c.args.theta.now _ c.theta_of-column.ensures _ _ c.if-i-layout.true c.scale_once.ensures

pub scale_twice-requires : goal.scale_twice-requires
scale_twice-requires c = let f = off_diagonal_fits c.args.layout _ c.requires.0.room c.args.i c.args.j _ _ _ c.requires.2 c.requires.3 c.working_at-off.ensures c.loaded_at-src.ensures c.size_of-n.ensures in
    record { n_in_bounds = f.0; apart = f.1 }

pub returns : goal.returns
returns c = pair_done c.args.layout _ c.requires.0.room c.args.i c.args.j _ _ _ c.requires.2 c.requires.3 c.working_at-off.ensures c.loaded_at-src.ensures c.size_of-n.ensures c.args.theta.now _ c.theta_of-column.ensures _ _ c.if-i-layout.false _ c.theta_of-row.ensures c.scale_twice.ensures
