-- The calls on the worked sheet, with all that has to be unfolded to compute them.
use Rattle.std.specs.Prelude.{ℕ, ◌-◌, Bool, false, true, List, [], ◌∷◌, ◌++◌, length, replicate, Float, Result, Ok, Err}
use Rattle.std.specs.Float.Ieee as Ieee
use Rattle.std.specs.Float.{binary64}
use Rattle.step_order.specs.Steps.{Step, rust_order}
use Rattle.sheet.specs.Text.{ended, with_line, reading}
use Rattle.sheet.specs.Sheet.{Outcome, accepted, refused, read_sheet, Sheet}
use Rattle.refusal.specs.declared.Refusal.{Refusal}
use Rattle.refusal.specs.declared.Numbers.{Numbers}
use Rattle.refusal.specs.Numbers.{refusal_of}
use Rattle.layout.specs.declared.Storage.{Storage}
use Rattle.layout.specs.Gate.{numbered, pair_of}
use Rattle.workspace.specs.Answers.{untouched, Outcome as Call}
use Rattle.workspace.specs.Load as Load
use Rattle.workspace.specs.Load.{load_of}
use Rattle.workspace.specs.Compute.{words}
use Rattle.update.specs.Compute.{steps}
use Rattle.update.specs.Calls.{begin_of, run_of, begun, stepped}
use Rattle.profile.specs.Deviance.{profile_of, log_determinant}
use Rattle.profile.specs.Finish.{Solving, solve_of, result_list}
use Rattle.factor_output.specs.Program as Program
use Rattle.factor_output.specs.Worked.{sheet_lines, theta_lines, output_lines}
use Rattle.worked_cases.specs.Table.{one_reading_line, one_word, CountCase, GateCase, StepCase}
use Rattle.layout.specs.declared.Layout.{Layout}
use Rattle.workspace.specs.Memory.{Workspace}
use Rattle.workspace.specs.Loaded.{with_storage, layout_of_sheet}
use Rattle.heading_format.specs.Parts.{heading_length}
use Rattle.profile.specs.declared.Deviance.{Deviance}
use Rattle.profile.specs.declared.Solution.{Solution}

unfoldable pub sheet_bytes : List ℕ
unfolding ended
sheet_bytes = ended sheet_lines

-- the sheet with n = p = 1
unfoldable pub one_reading_bytes : List ℕ
unfolding ended
one_reading_bytes = ended (with_line 1 one_reading_line sheet_lines)

unfoldable pub input_bytes : List ℕ
unfolding ended
input_bytes = ended (sheet_lines ++ theta_lines)

unfoldable pub output_bytes : List ℕ
unfolding ended
output_bytes = ended output_lines

-- a sheet loaded into a workspace that has room for the worked sheet's 14 doubles
unfoldable pub loaded : List ℕ → Call
unfolding steps reading load_of
loaded s = load_of s (replicate heading_length 0) (replicate 14 (Ieee.of_bits binary64 0))

-- the same, begun with one theta, and some steps done
unfoldable pub steps_done : List ℕ → ℕ → List Step → Call
unfolding loaded begin_of run_of
steps_done s theta l =
    let w = (loaded s).left in
    run_of (begin_of w.heading w.doubles (Ieee.of_bits binary64 theta ∷ [])).left l

-- the Rust's order
unfoldable pub finished : List ℕ → ℕ → Call
unfolding steps_done rust_order
finished s theta = steps_done s theta (rust_order 1)

unfoldable pub log_determinant_bits : List ℕ → ℕ → ℕ
unfolding finished
log_determinant_bits s theta = let w = (finished s theta).left in Ieee.to_bits binary64 (log_determinant w.heading w.doubles)

unfoldable pub solving : List ℕ → ℕ → Bool → Solving
unfolding finished solve_of
solving s theta reml =
    let w = (finished s theta).left in
    solve_of w.heading w.doubles reml (replicate 6 (Ieee.of_bits binary64 0))

unfoldable pub profiled : List ℕ → ℕ → Bool → Result Deviance Refusal
unfolding loaded profile_of
profiled s theta reml = let w = (loaded s).left in (profile_of w.heading w.doubles (Ieee.of_bits binary64 theta ∷ []) reml).answer

unfoldable pub sigma2_bits : Result Solution Refusal → ℕ
unfolding Ieee.to_bits
sigma2_bits (Ok s) = Ieee.to_bits binary64 s.sigma2
sigma2_bits (Err r) = 0

-- ---- sheets of several blocks, in a workspace of 200 doubles
unfoldable pub theta_in : List ℕ → Outcome → List Float
unfolding reading
theta_in s (accepted sheet starts) = (Program.theta_lines s sheet.counts.k (record { at = starts.end; line = starts.line; number = 0 })).items
theta_in s (refused number line) = []

-- load of a sheet as read, in which 5 to 9 are not looked for
unfoldable pub loaded_first : Outcome → Call
unfolding steps Load.load_sheet
loaded_first (accepted sheet starts) = Load.load_sheet sheet (replicate heading_length 0) (replicate 200 (Ieee.of_bits binary64 0))
loaded_first (refused number line) = untouched [] [] number line 0

-- the words of the solution's list of a sheet with its theta part
unfoldable pub solution_bits : List ℕ → ℕ → ℕ → List ℕ
unfolding steps reading theta_in loaded_first begin_of run_of rust_order solve_of words
solution_bits s k n =
    let o = read_sheet s in
    let w = (loaded_first o).left in
    let b = (begin_of w.heading w.doubles (theta_in s o)).left in
    let v = (run_of b (rust_order k)).left in
    words (solve_of v.heading v.doubles false (replicate n (Ieee.of_bits binary64 0))).result

-- ---- a pair too small to be stored sparse, worked by the rules for a sparse one: no heading is tested
unfoldable pub steps_untested : Workspace → List Step → Workspace
unfolding steps stepped
steps_untested v [] = v
steps_untested v (s ∷ l) = steps_untested (stepped v.heading v.doubles s) l

abbrev pub stored_sparse : Sheet → Layout
stored_sparse sheet = with_storage (layout_of_sheet sheet) true true

unfoldable pub sparse_bits : List ℕ → Outcome → List ℕ
unfolding theta_in Load.heading_of Load.doubles_of layout_of_sheet begun steps_untested rust_order result_list words
sparse_bits s (accepted sheet starts) =
    let h = Load.heading_of sheet (stored_sparse sheet) in
    let v = steps_untested (begun h (Load.doubles_of sheet (stored_sparse sheet)) (theta_in s (accepted sheet starts))) (rust_order 2) in
    words (result_list v.heading v.doubles)
sparse_bits s (refused number line) = []

-- ---- the rows of the table
unfoldable pub step_counts : List CountCase → List ℕ
unfolding rust_order
step_counts [] = []
step_counts (c ∷ l) = length (rust_order (c.blocks - 1)) ∷ step_counts l

unfoldable pub gate_verdicts : List GateCase → List (Result Storage ℕ)
unfolding steps pair_of
gate_verdicts [] = []
gate_verdicts (g ∷ l) = numbered (pair_of g.k g.rows g.cols g.one_each g.entries) ∷ gate_verdicts l

unfoldable pub step_refusals : List StepCase → List Numbers
unfolding steps_done
step_refusals [] = []
step_refusals (c ∷ l) = refusal_of (steps_done sheet_bytes one_word c.steps).answer ∷ step_refusals l

-- one column of each
abbrev pub counts_said : List CountCase → List ℕ
counts_said [] = []
counts_said (c ∷ l) = c.steps ∷ counts_said l

abbrev pub verdicts_said : List GateCase → List (Result Storage ℕ)
verdicts_said [] = []
verdicts_said (g ∷ l) = g.verdict ∷ verdicts_said l

abbrev pub refusals_said : List StepCase → List Numbers
refusals_said [] = []
refusals_said (c ∷ l) = c.refusal ∷ refusals_said l
