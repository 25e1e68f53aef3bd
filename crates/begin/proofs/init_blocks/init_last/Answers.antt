-- `begin::init_blocks::init_last`: one copy.
use Rattle.begin.proofs.scaled_blocks.Blocks.{last_fits, last_done}
use Rattle.begin.proofs.init_blocks.init_last.Goals as goal

pub copy-requires : goal.copy-requires
copy-requires c = last_fits c.args.layout _ c.requires.room _ _ _ c.working_at-off.ensures c.loaded_at-src.ensures c.size_of-n.ensures

pub returns : goal.returns
returns c = last_done c.args.layout _ c.requires.room _ _ _ c.working_at-off.ensures c.loaded_at-src.ensures c.size_of-n.ensures c.args.theta.now _ _ c.copy.ensures
