use mathlib.Core.Path.{◌≡◌, refl, ap}
use Prim.Native.Nat.{ℕ, ◌+◌, ◌*◌, ◌/◌}
use native.Mathlib.Omega.{arith}
use Rattle.rules.specs.Arithmetic.{ieee}
use Rattle.block_runs.proofs.axpy.Sums.{adding_none, adding_room, adding_more, adding_done, group_fits}
use Rattle.block_runs.proofs.axpy_pair.add_groups_pair.Goals as goal

pub loop-k-init : goal.loop-k-init
loop-k-init g c = let a = c.args in (
  adding_none ieee.plus a.acc.now a.n a.doubles.now a.a a.rows a.v.now a.b a.step a.r a.inner (0 * g.row.N) (omega arith) (omega arith) (omega arith) (omega arith) (omega arith) (omega arith),
  adding_none ieee.plus a.acc2.now a.n a.doubles.now a.a a.rows a.v.now a.b a.step (a.r + 1) a.inner (0 * g.row.N) (omega arith) (omega arith) (omega arith) (omega arith) (omega arith) (omega arith),
)

pub add_columns_pair-requires : goal.add_columns_pair-requires
add_columns_pair-requires g c = omega (arith, adding_room c.loop-k.invariant.0 g.row.N (group_fits c.loop-k.k g.row.N c.args.inner (omega arith) (omega arith)))

pub overflow_mul-p : goal.overflow_mul-p
overflow_mul-p g c = omega (arith, adding_room c.loop-k.invariant.0 g.row.N (group_fits c.loop-k.k g.row.N c.args.inner (omega arith) (omega arith)))

pub overflow_add-p : goal.overflow_add-p
overflow_add-p g c = omega (arith, adding_room c.loop-k.invariant.0 g.row.N (group_fits c.loop-k.k g.row.N c.args.inner (omega arith) (omega arith)))

pub overflow_mul-q : goal.overflow_mul-q
overflow_mul-q g c = omega (arith, adding_room c.loop-k.invariant.0 g.row.N (group_fits c.loop-k.k g.row.N c.args.inner (omega arith) (omega arith)))

pub overflow_add-q : goal.overflow_add-q
overflow_add-q g c = omega (arith, adding_room c.loop-k.invariant.0 g.row.N (group_fits c.loop-k.k g.row.N c.args.inner (omega arith) (omega arith)))

pub loop-k-preserved : goal.loop-k-preserved
loop-k-preserved g c = let l = c.loop-k.invariant in let s = c.add_columns_pair.ensures in
    let fits = group_fits c.loop-k.k g.row.N c.args.inner (omega arith) (omega arith) in (
      adding_more l.0 g.row.N fits s.acc_after (omega arith) refl refl,
      adding_more l.1 g.row.N fits s.acc2_after (omega arith) refl refl,
    )

pub returns-clause-acc_after : goal.returns-clause-acc_after
returns-clause-acc_after g c = let e : c.args.inner / g.row.N ≡ c.loop-k.k = omega arith in
    adding_done c.loop-k.invariant.0 _ (ap (λ (m : ℕ). m * g.row.N) e)

pub returns-clause-acc2_after : goal.returns-clause-acc2_after
returns-clause-acc2_after g c = let e : c.args.inner / g.row.N ≡ c.loop-k.k = omega arith in
    adding_done c.loop-k.invariant.1 _ (ap (λ (m : ℕ). m * g.row.N) e)
