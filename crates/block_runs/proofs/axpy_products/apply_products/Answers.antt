-- `block_runs::axpy_products::apply_products`: the columns four by four, then those that are left.
use native.Mathlib.Omega.{arith}
use Rattle.block_runs.specs.axpy.Axpy.{add_or_subtract}
use Rattle.block_runs.proofs.axpy.Sums.{adding_first, adding_left, adding_rest}
use Rattle.block_runs.proofs.axpy_products.apply_products.Goals as goal

pub overflow_mul-p : goal.overflow_mul-p
overflow_mul-p c = let a = c.args in let x = c.add_groups-x.result in
    omega (arith, adding_left (adding_first (add_or_subtract a.subtract) a.acc.now a.n a.doubles.now a.a a.rows a.v.now a.b a.step a.r a.inner x _ (omega arith) (omega arith) (omega arith) (omega arith) (omega arith) (omega arith) c.add_groups-x.ensures.acc_after))

pub overflow_add-p : goal.overflow_add-p
overflow_add-p c = let a = c.args in let x = c.add_groups-x.result in
    omega (arith, adding_left (adding_first (add_or_subtract a.subtract) a.acc.now a.n a.doubles.now a.a a.rows a.v.now a.b a.step a.r a.inner x _ (omega arith) (omega arith) (omega arith) (omega arith) (omega arith) (omega arith) c.add_groups-x.ensures.acc_after))

pub overflow_mul-q : goal.overflow_mul-q
overflow_mul-q c = let a = c.args in let x = c.add_groups-x.result in
    omega (arith, adding_left (adding_first (add_or_subtract a.subtract) a.acc.now a.n a.doubles.now a.a a.rows a.v.now a.b a.step a.r a.inner x _ (omega arith) (omega arith) (omega arith) (omega arith) (omega arith) (omega arith) c.add_groups-x.ensures.acc_after))

pub overflow_add-q : goal.overflow_add-q
overflow_add-q c = let a = c.args in let x = c.add_groups-x.result in
    omega (arith, adding_left (adding_first (add_or_subtract a.subtract) a.acc.now a.n a.doubles.now a.a a.rows a.v.now a.b a.step a.r a.inner x _ (omega arith) (omega arith) (omega arith) (omega arith) (omega arith) (omega arith) c.add_groups-x.ensures.acc_after))

pub add_groups-requires : goal.add_groups-requires
add_groups-requires c = let a = c.args in let x = c.add_groups-x.result in
    omega (arith, adding_left (adding_first (add_or_subtract a.subtract) a.acc.now a.n a.doubles.now a.a a.rows a.v.now a.b a.step a.r a.inner x _ (omega arith) (omega arith) (omega arith) (omega arith) (omega arith) (omega arith) c.add_groups-x.ensures.acc_after))

pub returns : goal.returns
returns c = let a = c.args in let x = c.add_groups-x in
    adding_rest (adding_first (add_or_subtract a.subtract) a.acc.now a.n a.doubles.now a.a a.rows a.v.now a.b a.step a.r a.inner x.result _ (omega arith) (omega arith) (omega arith) (omega arith) (omega arith) (omega arith) x.ensures.acc_after)
    _ (omega arith) c.add_groups.ensures.acc_after
