-- Document 01's starred cases, together, by computation.
use mathlib.Core.Path.{refl}
use lib.Ieee as Ieee
use Rattle.step_order.specs.Steps.{rust_order}
use Rattle.logarithm.specs.Ln.{ln_of}
use Rattle.heading_format.specs.Heading.{progress_of}
use Rattle.workspace.specs.Compute.{words}
use Rattle.factor_output.specs.Compute.{printed}
use Rattle.worked_cases.specs.Evaluate.{sheet_bytes, input_bytes, output_bytes, one_reading_bytes, loaded, log_determinant_bits, solving, profiled, sigma2_bits, step_counts, gate_verdicts, step_refusals}
use Rattle.worked_cases.specs.Starred.{Starred}

starred : Starred
unfolding printed input_bytes output_bytes sheet_bytes one_reading_bytes loaded log_determinant_bits solving profiled sigma2_bits words step_counts gate_verdicts step_refusals progress_of rust_order ln_of Ieee.to_bits Ieee.mul Ieee.of_bits
starred =
    record {
      worked = refl;
      loads = refl;
      four_steps = refl;
      determinant = refl;
      two_ln_2 = refl;
      solution_ml = refl;
      solution_reml = refl;
      sigma2_ml = refl;
      sigma2_reml = refl;
      counts = refl;
      gate = refl;
      refusals = refl;
      theta_zero = refl;
      no_scale_reml = refl;
    }
