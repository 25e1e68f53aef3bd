-- Document 01, "Worked sheets": what is said of the worked input (crate factor_output, specs/Worked), and the other starred cases.
use Rattle.std.specs.Prelude.{ℕ, Bool, true, false, List, [], ◌∷◌, Result, Ok, Err}
use Prim.Native.String.{String}
use Rattle.refusal.specs.declared.Numbers.{Numbers}
use Rattle.refusal.specs.Numbers.{numbers}
use Rattle.step_order.specs.Steps.{Step, C, T}
use Rattle.layout.specs.declared.Storage.{Storage}
use Rattle.layout.specs.declared.Storage.TheVariants.{Dense, Sparse}

-- the size line of the same sheet with n = p
abbrev pub one_reading_line : String
one_reading_line = "size 1 1 1 1 1"

-- ---- words: 0, 1, 2, 1/2; the nearest double to 1/3; 2 ln 2
abbrev pub zero_word : ℕ
zero_word = 0

abbrev pub one_word : ℕ
one_word = 0x3ff0000000000000

abbrev pub two_word : ℕ
two_word = 0x4000000000000000

abbrev pub half_word : ℕ
half_word = 0x3fe0000000000000

abbrev pub third_word : ℕ
third_word = 0x3fd5555555555555

-- ln 2 is the double 3fe62e42fefa39ef
abbrev pub two_ln2_word : ℕ
two_ln2_word = 0x3ff62e42fefa39ef

-- beta, b, u, L_X, w of y, w of the column, by ML and by REML
abbrev pub solution_words : List ℕ
solution_words = one_word ∷ half_word ∷ half_word ∷ two_word ∷ one_word ∷ half_word ∷ []

-- ---- K, and the number of steps
pub record CountCase : Type 0 where
  pub blocks : ℕ
  pub steps : ℕ

abbrev pub count_cases : List CountCase
count_cases = record { blocks = 2; steps = 4 } ∷ record { blocks = 3; steps = 10 } ∷ []

-- ---- the gate: a pair of this many rows and columns among k blocks; whether each column has one entry, and how many entries there are;
-- how it is stored, or the number of its refusal
pub record GateCase : Type 0 where
  pub k : ℕ
  pub rows : ℕ
  pub cols : ℕ
  pub one_each : Bool
  pub entries : ℕ
  pub verdict : Result Storage ℕ

abbrev pub gate_cases : List GateCase
gate_cases =
    record { k = 2; rows = 2; cols = 50000; one_each = true; entries = 50000; verdict = Ok Dense }
    ∷ record { k = 2; rows = 2; cols = 50001; one_each = true; entries = 50001; verdict = Err 11 }
    ∷ record { k = 2; rows = 3; cols = 33334; one_each = true; entries = 33334; verdict = Ok Sparse }
    ∷ record { k = 8; rows = 316; cols = 316; one_each = false; entries = 99856; verdict = Ok Dense }
    ∷ []

-- ---- steps from the worked sheet just begun, and what the last of them answers
pub record StepCase : Type 0 where
  pub steps : List Step
  pub refusal : Numbers

abbrev pub step_cases : List StepCase
step_cases =
    record { steps = T 1 0 ∷ []; refusal = numbers 24 0 0 } ∷ record { steps = C 0 ∷ C 0 ∷ []; refusal = numbers 23 0 0 } ∷ []
