-- The definitions against outside numbers: what `factor` prints for four sheets of several blocks, and their solutions.
use mathlib.Core.Path.{◌≡◌, refl}
use Rattle.sheet.specs.Text.{ended, reading}
use Rattle.sheet.specs.Sheet.{read_sheet}
use Rattle.factor_output.specs.Program.{print_of}
use Rattle.factor_output.specs.Compute.{printed}
use Rattle.worked_cases.specs.Sheets.{
  dense_input,
  dense_output,
  dense_solution,
  diagonal_input,
  diagonal_output,
  diagonal_solution,
  wide_input,
  wide_output,
  wide_solution,
  sparse_solution,
  three_input,
  three_output,
  three_solution,
}
use Rattle.heading_format.specs.Heading.{layout_of}
use Rattle.worked_cases.specs.Evaluate.{solution_bits, sparse_bits}

dense : print_of (ended dense_input) ≡ ended dense_output
unfolding printed ended
dense = refl

dense_solution_lem : solution_bits (ended dense_input) 2 30 ≡ dense_solution
unfolding solution_bits ended
dense_solution_lem = refl

diagonal : print_of (ended diagonal_input) ≡ ended diagonal_output
unfolding printed ended
diagonal = refl

diagonal_solution_lem : solution_bits (ended diagonal_input) 2 22 ≡ diagonal_solution
unfolding solution_bits ended
diagonal_solution_lem = refl

wide : print_of (ended wide_input) ≡ ended wide_output
unfolding printed ended
wide = refl

wide_solution_lem : solution_bits (ended wide_input) 2 55 ≡ wide_solution
unfolding solution_bits ended
wide_solution_lem = refl

three : print_of (ended three_input) ≡ ended three_output
unfolding printed ended
three = refl

three_solution_lem : solution_bits (ended three_input) 3 22 ≡ three_solution
unfolding solution_bits ended
three_solution_lem = refl

-- the rules for a sparse pair
sparse_solution_lem : sparse_bits (ended wide_input) (read_sheet (ended wide_input)) ≡ sparse_solution
unfolding reading sparse_bits ended layout_of
sparse_solution_lem = refl
