-- `kernel_tests::kernel_sizes::packed_size` meets its contract.
use Rattle.kernel_tests.proofs.kernel_sizes.Laws.{packed_at, packed_fit}
use native.Mathlib.Omega.{arith}
use Rattle.kernel_tests.proofs.kernel_sizes.packed_size.Goals as goal

pub overflow_mul-result : goal.overflow_mul-result
overflow_mul-result c = omega (arith, packed_fit _ c.requires)

pub returns : goal.returns
returns c = packed_at _ c.requires
