use mathlib.Core.Path.{◌≡◌, refl, ap}
use Prim.Native.Nat.{ℕ, ◌*◌, ◌/◌}
use native.Mathlib.Omega.{arith}
use Rattle.block_runs.specs.axpy.Axpy.{add_or_subtract}
use Rattle.block_runs.proofs.axpy.Sums.{adding_none, adding_room, adding_more, adding_done, group_fits}
use Rattle.block_runs.proofs.axpy.add_groups.Goals as goal

pub loop-k-init : goal.loop-k-init
loop-k-init g c = let a = c.args in
    adding_none (add_or_subtract a.subtract) a.acc.now a.n a.doubles.now a.a a.rows a.v.now a.b a.step a.r a.inner (0 * g.row.N) (omega arith) (omega arith) (omega arith) (omega arith) (omega arith) (omega arith)

pub add_columns-requires : goal.add_columns-requires
add_columns-requires g c = omega (arith, adding_room c.loop-k.invariant g.row.N (group_fits c.loop-k.k g.row.N c.args.inner (omega arith) (omega arith)))

pub overflow_mul-p : goal.overflow_mul-p
overflow_mul-p g c = omega (arith, adding_room c.loop-k.invariant g.row.N (group_fits c.loop-k.k g.row.N c.args.inner (omega arith) (omega arith)))

pub overflow_add-p : goal.overflow_add-p
overflow_add-p g c = omega (arith, adding_room c.loop-k.invariant g.row.N (group_fits c.loop-k.k g.row.N c.args.inner (omega arith) (omega arith)))

pub overflow_mul-q : goal.overflow_mul-q
overflow_mul-q g c = omega (arith, adding_room c.loop-k.invariant g.row.N (group_fits c.loop-k.k g.row.N c.args.inner (omega arith) (omega arith)))

pub overflow_add-q : goal.overflow_add-q
overflow_add-q g c = omega (arith, adding_room c.loop-k.invariant g.row.N (group_fits c.loop-k.k g.row.N c.args.inner (omega arith) (omega arith)))

pub loop-k-preserved : goal.loop-k-preserved
loop-k-preserved g c =
    adding_more c.loop-k.invariant g.row.N (group_fits c.loop-k.k g.row.N c.args.inner (omega arith) (omega arith)) c.add_columns.ensures (omega arith) refl refl

pub returns-clause-acc_after : goal.returns-clause-acc_after
returns-clause-acc_after g c = let e : c.args.inner / g.row.N ≡ c.loop-k.k = omega arith in
    adding_done c.loop-k.invariant _ (ap (λ (m : ℕ). m * g.row.N) e)
