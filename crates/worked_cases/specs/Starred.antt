-- The starred cases of document 01 as one proposition over the definitions.
use Rattle.std.specs.Prelude.{◌≡◌, true, false, Ok}
use Rattle.std.specs.Float.Ieee as Ieee
use Rattle.std.specs.Float.{binary64}
use Rattle.logarithm.specs.Ln.{ln_of}
use Rattle.workspace.specs.Compute.{words}
use Rattle.heading_format.specs.Heading.{progress_of}
use Rattle.profile.specs.declared.Deviance.TheVariants.{NoScale}
use Rattle.factor_output.specs.Program.{print_of}
use Rattle.worked_cases.specs.Table.{one_word, two_word, half_word, third_word, zero_word, two_ln2_word, solution_words, count_cases, gate_cases, step_cases}
use Rattle.worked_cases.specs.Evaluate.{sheet_bytes, input_bytes, output_bytes, one_reading_bytes, loaded, log_determinant_bits, solving, profiled, sigma2_bits, step_counts, gate_verdicts, step_refusals, counts_said, verdicts_said, refusals_said}

pub record Starred : Type 0 where
  -- the input's bytes give the output, byte for byte, through sheet, load, begin, the Rust's order and the printing
  pub worked : print_of input_bytes ≡ output_bytes
  -- the sheet alone loads; four steps are left
  pub loads : (loaded sheet_bytes).answer ≡ (Ok tt)
  pub four_steps : (progress_of (loaded sheet_bytes).left.heading).left ≡ 4
  -- logdet 2 ln 2
  pub determinant : log_determinant_bits sheet_bytes one_word ≡ two_ln2_word
  pub two_ln_2 : Ieee.to_bits binary64 (Ieee.mul binary64 (Ieee.of_bits binary64 two_word) (ln_of (Ieee.of_bits binary64 two_word))) ≡ two_ln2_word
  -- beta 1, u 0.5, b 0.5, sigma2 1/3 ML, 0.5 REML
  pub solution_ml : words (solving sheet_bytes one_word false).result ≡ solution_words
  pub solution_reml : words (solving sheet_bytes one_word true).result ≡ solution_words
  pub sigma2_ml : sigma2_bits (solving sheet_bytes one_word false).answer ≡ third_word
  pub sigma2_reml : sigma2_bits (solving sheet_bytes one_word true).answer ≡ half_word
  -- the counts of steps, the gate, T(1,0) first and C(0) twice
  pub counts : step_counts count_cases ≡ counts_said count_cases
  pub gate : gate_verdicts gate_cases ≡ verdicts_said gate_cases
  pub refusals : step_refusals step_cases ≡ refusals_said step_cases
  -- theta 0: logdet +0
  pub theta_zero : log_determinant_bits sheet_bytes zero_word ≡ zero_word
  -- REML with n = p: no scale
  pub no_scale_reml : profiled one_reading_bytes one_word true ≡ Ok NoScale
