-- `sheet_checks::levels::other_lines`: the two products are small.
use native.Mathlib.Omega.{arith}
use Rattle.sheet_checks.proofs.levels.Counting.{products}
use Rattle.sheet_checks.proofs.levels.other_lines.Goals as goal

pub overflow_mul-result : goal.overflow_mul-result
overflow_mul-result c = let b = products _ c.requires in let b₀ = b.0 in let b₁ = b.1 in omega arith

pub overflow_add-result-2 : goal.overflow_add-result-2
overflow_add-result-2 c = let b = products _ c.requires in let b₀ = b.0 in let b₁ = b.1 in omega arith

pub overflow_add-result-3 : goal.overflow_add-result-3
overflow_add-result-3 c = let b = products _ c.requires in let b₀ = b.0 in let b₁ = b.1 in omega arith

pub overflow_mul-result-2 : goal.overflow_mul-result-2
overflow_mul-result-2 c = let b = products _ c.requires in let b₀ = b.0 in let b₁ = b.1 in omega arith

pub overflow_add-result-5 : goal.overflow_add-result-5
overflow_add-result-5 c = let b = products _ c.requires in let b₀ = b.0 in let b₁ = b.1 in omega arith

pub overflow_add-result-6 : goal.overflow_add-result-6
overflow_add-result-6 c = let b = products _ c.requires in let b₀ = b.0 in let b₁ = b.1 in omega arith
