-- `triangular_solves::cross_terms::subtract_forward`: the sparse pair, or a dense one.
use Rattle.triangular_solves.proofs.cross_terms.Subtracted.{sparse_ready, sparse_forward_made, dense_ready, forward_made_lem}
use Rattle.triangular_solves.proofs.cross_terms.subtract_forward.Goals as goal

pub pair_at-p-requires : goal.pair_at-p-requires
pair_at-p-requires c = (c.args.lent.fits.valid, c.requires.0, c.requires.1, c.requires.2)

pub sparse_matvec_sub-requires : goal.sparse_matvec_sub-requires
sparse_matvec_sub-requires c = let e = c.pair_at-p.ensures in
    rw (e.0, e.1, e.2, c.entry_rows-rows.ensures) (sparse_ready _ c.args.lent.doubles.now _ c.args.lent.fits _ _ c.requires.0 c.requires.1 c.args.from c.if-lent.true _ c.requires.2)

pub returns-then-lent : goal.returns-then-lent
returns-then-lent c = let e = c.pair_at-p.ensures in
    sparse_forward_made _ c.args.lent.doubles.now _ c.args.lent.fits _ _ c.requires.0 c.requires.1 c.args.from c.if-lent.true c.args.v.now (rw (e.0, e.1, e.2, c.entry_rows-rows.ensures) at c.sparse_matvec_sub.ensures)

pub matvec_sub-requires : goal.matvec_sub-requires
matvec_sub-requires c = let e = c.pair_at-p.ensures in
    rw (e.0, e.1, e.2) (dense_ready _ c.args.lent.doubles.now _ c.args.lent.fits _ _ c.requires.0 c.requires.1 c.args.from c.if-lent.false _ c.requires.2)

pub returns : goal.returns
returns c = let e = c.pair_at-p.ensures in
    forward_made_lem _ c.args.lent.doubles.now _ c.args.lent.fits _ _ c.requires.0 c.requires.1 c.args.from c.if-lent.false c.args.v.now (rw (e.0, e.1, e.2) at c.matvec_sub.ensures)
