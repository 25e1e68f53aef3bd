-- `kernel_tests::kernel_sizes::columns_size` meets its contract.
use Rattle.kernel_tests.proofs.kernel_sizes.Laws.{columns_at, columns_fit}
use native.Mathlib.Omega.{arith}
use Rattle.kernel_tests.proofs.kernel_sizes.columns_size.Goals as goal

pub overflow_mul-result : goal.overflow_mul-result
overflow_mul-result c = omega (arith, columns_fit _ _ c.requires.0 c.requires.1)

pub returns : goal.returns
returns c = columns_at _ _ c.requires.0 c.requires.1
