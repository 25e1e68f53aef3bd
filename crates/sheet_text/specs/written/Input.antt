-- The input of the program `factor` (document 01, "Worked sheets"): a sheet, and `theta` index word for each of its blocks.
use Rattle.std.specs.Prelude.{ℕ, ◌^◌, ◌≤◌, ◌<◌, ◌≡◌, List, [], length}
use Rattle.sheet.specs.Run.{rows_from}
use Rattle.sheet.specs.Sheet.{Sheet}
use Rattle.sheet.specs.Whole.{Each}
use Rattle.factor_output.specs.Program.{bytes_held, theta_tag}
use Rattle.sheet_text.specs.written.Written.{single_text, lines_text, sheet_text, InForm}

-- the theta part: the indexes rise from 0
abbrev pub theta_text : List ℕ → List ℕ
theta_text ws = lines_text (single_text theta_tag) (rows_from (λ r. 1) 0 (length ws)) ws []

-- the bytes s are a sheet in form and the words ws of its theta part, any of 64 bits, and the program holds them
pub record Input (s : List ℕ) (sheet : Sheet) (ws : List ℕ) : Type 0 where
  pub text : s ≡ sheet_text sheet (theta_text ws)
  pub form : InForm sheet
  pub count : length ws ≡ sheet.counts.k
  pub words : Each (λ (w : ℕ). w < 2 ^ 64) ws
  pub held : length s ≤ bytes_held
