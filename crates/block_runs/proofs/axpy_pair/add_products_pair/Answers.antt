-- `block_runs::axpy_pair::add_products_pair`: the columns four by four, then those that are left.
use Prim.Native.Nat.{◌+◌}
use native.Mathlib.Omega.{arith}
use Rattle.rules.specs.Arithmetic.{ieee}
use Rattle.block_runs.proofs.axpy.Sums.{adding_first, adding_left, adding_rest}
use Rattle.block_runs.proofs.axpy_pair.add_products_pair.Goals as goal

pub overflow_mul-p : goal.overflow_mul-p
overflow_mul-p c = let a = c.args in let x = c.add_groups_pair-x.result in
    omega (arith, adding_left (adding_first ieee.plus a.acc.now a.n a.doubles.now a.a a.rows a.v.now a.b a.step a.r a.inner x _ (omega arith) (omega arith) (omega arith) (omega arith) (omega arith) (omega arith) c.add_groups_pair-x.ensures.acc_after))

pub overflow_add-p : goal.overflow_add-p
overflow_add-p c = let a = c.args in let x = c.add_groups_pair-x.result in
    omega (arith, adding_left (adding_first ieee.plus a.acc.now a.n a.doubles.now a.a a.rows a.v.now a.b a.step a.r a.inner x _ (omega arith) (omega arith) (omega arith) (omega arith) (omega arith) (omega arith) c.add_groups_pair-x.ensures.acc_after))

pub overflow_mul-q : goal.overflow_mul-q
overflow_mul-q c = let a = c.args in let x = c.add_groups_pair-x.result in
    omega (arith, adding_left (adding_first ieee.plus a.acc.now a.n a.doubles.now a.a a.rows a.v.now a.b a.step a.r a.inner x _ (omega arith) (omega arith) (omega arith) (omega arith) (omega arith) (omega arith) c.add_groups_pair-x.ensures.acc_after))

pub overflow_add-q : goal.overflow_add-q
overflow_add-q c = let a = c.args in let x = c.add_groups_pair-x.result in
    omega (arith, adding_left (adding_first ieee.plus a.acc.now a.n a.doubles.now a.a a.rows a.v.now a.b a.step a.r a.inner x _ (omega arith) (omega arith) (omega arith) (omega arith) (omega arith) (omega arith) c.add_groups_pair-x.ensures.acc_after))

pub add_groups_pair-requires : goal.add_groups_pair-requires
add_groups_pair-requires c = let a = c.args in let x = c.add_groups_pair-x.result in
    omega (arith, adding_left (adding_first ieee.plus a.acc.now a.n a.doubles.now a.a a.rows a.v.now a.b a.step a.r a.inner x _ (omega arith) (omega arith) (omega arith) (omega arith) (omega arith) (omega arith) c.add_groups_pair-x.ensures.acc_after))

pub returns : goal.returns
returns c = let a = c.args in let x = c.add_groups_pair-x in record {
  acc_after =
      adding_rest (adding_first ieee.plus a.acc.now a.n a.doubles.now a.a a.rows a.v.now a.b a.step a.r a.inner x.result _ (omega arith) (omega arith) (omega arith) (omega arith) (omega arith) (omega arith) x.ensures.acc_after)
      _ (omega arith) c.add_groups_pair.ensures.acc_after;
  acc2_after =
      adding_rest (adding_first ieee.plus a.acc2.now a.n a.doubles.now a.a a.rows a.v.now a.b a.step (a.r + 1) a.inner x.result _ (omega arith) (omega arith) (omega arith) (omega arith) (omega arith) (omega arith) x.ensures.acc2_after)
      _ (omega arith) c.add_groups_pair.ensures.acc2_after;
}
