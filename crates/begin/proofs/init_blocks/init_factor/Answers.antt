-- `begin::init_blocks::init_factor`: a diagonal or a triangle.
use mathlib.Core.Path.{sym, ◌∙◌}
use Rattle.begin.proofs.scaled_blocks.Blocks.{factor_ready, factor_done}
use Rattle.begin.proofs.init_blocks.init_factor.Goals as goal

pub init_diagonal-requires : goal.init_diagonal-requires
init_diagonal-requires c = rw (c.block-b.ensures, c.loaded_at-src.ensures) (factor_ready c.args.layout c.requires.0.valid c.args.j c.requires.2 (sym c.factor_kind.ensures ∙ c.in-Diagonal.is) _ c.requires.0.room)

pub init-requires : goal.init-requires
init-requires c = rw (c.block-b.ensures, c.loaded_at-src.ensures) (factor_ready c.args.layout c.requires.0.valid c.args.j c.requires.2 (sym c.factor_kind.ensures ∙ c.in-Packed.is) _ c.requires.0.room)

pub returns-in-Diagonal : goal.returns-in-Diagonal
returns-in-Diagonal c = factor_done c.args.layout c.requires.0.valid c.args.j c.requires.2 (sym c.factor_kind.ensures ∙ c.in-Diagonal.is) c.args.theta.now _
    (rw (c.block-b.ensures, c.loaded_at-src.ensures, c.theta_of-t.ensures) at c.init_diagonal.ensures)

pub returns-in-Packed : goal.returns-in-Packed
returns-in-Packed c = factor_done c.args.layout c.requires.0.valid c.args.j c.requires.2 (sym c.factor_kind.ensures ∙ c.in-Packed.is) c.args.theta.now _
    (rw (c.block-b.ensures, c.loaded_at-src.ensures, c.theta_of-t.ensures) at c.init.ensures)
