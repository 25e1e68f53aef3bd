-- What an answer is under C's conventions: a number, and words in the list that the caller lends for it (include/huskcanyon.h).
use Rattle.std.specs.Prelude.{ℕ, Bool, true, false, List, [], ◌∷◌, Float}
use Rattle.std.proofs.Math.Option.{Option, none, some}
use Rattle.std.specs.Float.{binary64}
use Rattle.std.specs.Float.Ieee.{to_bits}
use Rattle.storage.specs.Part.{store}
use Rattle.refusal.specs.declared.Numbers.{Numbers}
use Rattle.refusal.specs.Numbers.{Meaning}
use Rattle.profile.specs.declared.Solution.{Solution}
use Rattle.profile.specs.Deviance.{DevianceMeaning}
use Rattle.profile.specs.Finish.{SolveMeaning}
use Rattle.load.specs.room.Needs.{NeedsMeaning}
use Rattle.views.specs.Views.{StepsMeaning, ViewMeaning}

-- the number that a function returns, and the answer list that it leaves
pub record Told : Type 0 where
  pub number : ℕ
  pub answer : List ℕ

abbrev pub leaves : ℕ → List ℕ → Told
leaves n l = record { number = n; answer = l }

-- document 01's number; the two places and then the values in the first words of the list, the others as they were
abbrev pub told : Numbers → List ℕ → List ℕ → Told
told r values l = leaves r.number (store 0 (r.first ∷ r.second ∷ values) l)

-- the word of a double, of a NaN 7ff8000000000000, and 0 where there is none
abbrev pub word_of : Float → ℕ
word_of x = to_bits binary64 x

abbrev pub word : Option Float → ℕ
word none = 0
word (some x) = word_of x

-- the words of two doubles
abbrev pub scalars : Option Solution → List ℕ
scalars none = 0 ∷ 0 ∷ []
scalars (some s) = word_of s.deviance ∷ word_of s.sigma2 ∷ []

abbrev pub count : Option ℕ → ℕ
count none = 0
count (some n) = n

-- 1 where there is a value
abbrev pub there : Option Float → ℕ
there none = 0
there (some x) = 1

-- Record 6's case, of value, "no scale" and the Rust's value: 1 a value, 3 no scale, 2 a refused pivot, for which the Rust alone has a value, and 0 refused
abbrev pub case_of : Option Float → Bool → Option Float → ℕ
case_of (some v) s r = 1
case_of none true r = 3
case_of none false (some r) = 2
case_of none false none = 0

-- ---- the words behind the places, for each kind of answer
abbrev pub told_answer : Meaning → List ℕ → Told
told_answer m l = told m.refusal [] l

-- the case, the deviance, the Rust's value
abbrev pub told_deviance : DevianceMeaning → List ℕ → Told
told_deviance m l = told m.refusal (case_of m.value m.no_scale m.rust ∷ word m.value ∷ word m.rust ∷ []) l

-- the deviance and sigma2
abbrev pub told_solve : SolveMeaning → List ℕ → Told
told_solve m l = told m.refusal (scalars m.solution) l

-- the doubles and the numbers that load wants
abbrev pub told_needs : NeedsMeaning → List ℕ → Told
told_needs m l = told m.refusal (count m.doubles ∷ count m.numbers ∷ []) l

-- the steps left
abbrev pub told_steps : StepsMeaning → List ℕ → Told
told_steps m l = told m.refusal (count m.steps ∷ []) l

-- 1 where there is a value, and the value
abbrev pub told_view : ViewMeaning → List ℕ → Told
told_view m l = told m.refusal (there m.value ∷ word m.value ∷ []) l
