-- The program `factor` (document 01, "Worked sheets"): a sheet and k theta lines to its pivots, or to a refusal, which is then the only line.
use Rattle.std.specs.Prelude.{ℕ, zero, suc, ◌&&◌, cond, List, [], ◌∷◌, ◌++◌, ltb, eqb, length, replicate, Float, Result, Ok, Err}
use Rattle.step_order.specs.Steps.{rust_order}
use Rattle.rules.specs.Arithmetic.{ieee}
use Rattle.sheet.specs.declared.Line.{Line}
use Rattle.sheet.specs.declared.Starts.{Starts}
use Rattle.sheet.specs.Line.{tab, in_form, single_line, Test, verdict_of}
use Rattle.sheet.specs.Run.{Cursor, Run, lines_of, rows_from}
use Rattle.sheet.specs.Sheet.{Sheet, Outcome, read_sheet}
use Rattle.sheet.specs.Fault.{fault_number, faulty_line}
use Rattle.sheet.specs.Answer.{checked}
use Rattle.refusal.specs.declared.Refusal.{Refusal}
use Rattle.refusal.specs.Numbers.{numbers_of}
use Rattle.layout.specs.Shapes.{shape}
use Rattle.heading_format.specs.Heading.{layout_of, entry_row}
use Rattle.workspace.specs.Memory.{Workspace, cell_of, working_block}
use Rattle.workspace.specs.Loaded.{double}
use Rattle.workspace.specs.Load.{load_sheet}
use Rattle.update.specs.Working.{pivot_count}
use Rattle.update.specs.Calls.{begin_of, run_of}
use Rattle.factor_output.specs.Print.{pivot_line, refused_line}
use Rattle.heading_format.specs.Parts.{heading_length}
use Rattle.sheet.specs.declared.Counts.{Counts}

-- it holds this many bytes of input, and this many doubles
abbrev pub bytes_held : ℕ
bytes_held = 32768

abbrev pub doubles_held : ℕ
doubles_held = 4096

-- a heading without the rows of a sparse pair, which has too many doubles
abbrev pub numbers_held : ℕ
numbers_held = heading_length

-- ---- the pivots by block, then row
unfoldable pub pivot_rows : Workspace → ℕ → ℕ → List ℕ
unfolding shape pivot_line
pivot_rows v j zero = []
pivot_rows v j (suc r) =
    let h = v.heading in
    pivot_rows v j r ++ pivot_line j r (cell_of (shape (layout_of h) (entry_row h) j j) (working_block h v.doubles j j) r r)

unfoldable pub pivot_lines : Workspace → ℕ → List ℕ
unfolding pivot_rows shape
pivot_lines v zero = []
pivot_lines v (suc j) = let h = v.heading in pivot_lines v j ++ pivot_rows v j (pivot_count (shape (layout_of h) (entry_row h) j j))

abbrev pub print_refusal : Refusal → List ℕ
print_refusal r = let n = numbers_of r in refused_line n.number n.first n.second

abbrev pub print_steps : Result Unit Refusal → Workspace → ℕ → List ℕ
print_steps (Ok tt) v k = pivot_lines v (suc k)
print_steps (Err r) v k = print_refusal r

-- ---- begin with theta, and the steps in the Rust's order
abbrev pub after_begin : Result Unit Refusal → Workspace → ℕ → List ℕ
after_begin (Ok tt) v k = let o = run_of v (rust_order k) in print_steps o.answer o.left k
after_begin (Err r) v k = print_refusal r

unfoldable pub factor_with : Workspace → ℕ → List Float → List ℕ
unfolding begin_of run_of pivot_lines refused_line
factor_with v k theta = let o = begin_of v.heading v.doubles theta in after_begin o.answer o.left k

-- ---- the theta part: a line for each number of theta, index rising from 0, in sheet order; a line that is not what is due is 2, and so is one left over
abbrev pub thetas_due : Counts → ℕ
thetas_due z = z.k

abbrev pub theta_tag : List ℕ
theta_tag = 116 ∷ 104 ∷ 101 ∷ 116 ∷ 97 ∷ tab ∷ []

abbrev pub theta_tests : ℕ × ℕ → Line → List Test
theta_tests i l = (in_form l.next && eqb l.first i.0, 2) ∷ []

abbrev pub theta_verdict : ℕ × ℕ → Line → ℕ
theta_verdict i l = verdict_of (theta_tests i l)

abbrev pub theta_lines : List ℕ → ℕ → Cursor → Run Float
theta_lines s n c = lines_of (single_line theta_tag s) theta_verdict (λ line l. double l.word) (rows_from (λ r. 1) 0 n) c

abbrev pub after_theta : Run Float → List ℕ → Workspace → ℕ → List ℕ
after_theta t s v k =
    let good = factor_with v k t.items in
    cond (eqb t.past.number 0 && eqb t.past.at (length s)) good (refused_line 2 t.past.line 0)

-- ---- load, whose own 12 comes before the theta part
abbrev pub after_load : Result Unit Refusal → Workspace → Counts → List ℕ → Starts → List ℕ
after_load (Ok tt) v z s starts = after_theta (theta_lines s (thetas_due z) (record { at = starts.end; line = starts.line; number = 0 })) s v z.k
after_load (Err r) v z s starts = print_refusal r

abbrev pub after_sheet : Sheet → List ℕ → Starts → List ℕ
after_sheet sheet s starts =
    let o = load_sheet sheet (replicate numbers_held 0) (replicate doubles_held ieee.zero) in
    after_load o.answer o.left sheet.counts s starts

-- ---- the sheet, whose 1 to 9 come before load's 10 to 12
abbrev pub after_read : Outcome → List ℕ → List ℕ
after_read o s = checked (λ number line. refused_line number line 0) (λ sheet starts. after_sheet sheet s starts) o

-- WHAT IT PRINTS for the input s; more than it holds is 12
unfoldable pub print_of : List ℕ → List ℕ
unfolding read_sheet fault_number faulty_line load_sheet factor_with lines_of rows_from single_line refused_line
print_of s = cond (ltb bytes_held (length s)) (refused_line 12 0 0) (after_read (read_sheet s) s)
