-- What an answer means says which answer it is; and the meaning of each case, computed.
use mathlib.Core.Path.{◌≡◌, refl, sym, ap, ◌∙◌}
use mathlib.Core.Bool.{Bool, true, false}
use mathlib.Core.Option.{Option, none, some}
use lib.IntN.{pos}
use lib.Ieee as Ieee
use lib.Ieee.{Float, fin}
use Rattle.refusal.specs.declared.Refusal.{Refusal}
use Rattle.refusal.specs.declared.Numbers.{Numbers}
use Rattle.refusal.specs.Numbers.{numbers}
use Rattle.refusal.proofs.Meaning.{by_numbers, refusal_back}
use Rattle.workspace.specs.Memory.{Workspace}
use Rattle.profile.specs.declared.Deviance.TheVariants.{Value, Pivot, NoScale}
use Rattle.profile.specs.declared.Solution.{Solution}
use Rattle.profile.specs.Deviance.{DevianceMeaning, deviance_meaning, largest, Profiled}
use Rattle.profile.specs.Finish.{SolveMeaning, solve_meaning}
use Rattle.std.specs.Prelude.{Result, Ok, Err}
use Rattle.profile.specs.declared.Deviance.{Deviance}

-- ---- the answer that means this: a value; else "no scale"; else a refused pivot, where the Rust has a value
abbrev answer_by : Option Float → Bool → Option Float → Numbers → Result Deviance Refusal
answer_by (some v) scale rust f = Ok (Value v)
answer_by none true rust f = Ok NoScale
answer_by none false (some x) f = Ok (Pivot f.first f.second)
answer_by none false none f = Err (by_numbers f)

abbrev answer_of : DevianceMeaning → Result Deviance Refusal
answer_of m = answer_by m.value m.no_scale m.rust m.refusal

answer_back : (a : Result Deviance Refusal) → answer_of (deviance_meaning a) ≡ a
answer_back (Ok (Value v)) = refl
answer_back (Ok (Pivot j r)) = refl
answer_back (Ok NoScale) = refl
answer_back (Err r) = ap Err (refusal_back r)

pub deviance_meaning_injective : (a b : Result Deviance Refusal) → deviance_meaning a ≡ deviance_meaning b → a ≡ b
deviance_meaning_injective a b e = sym (answer_back a) ∙ ap answer_of e ∙ answer_back b

-- what `profile_deviance` is promised to answer and to leave, and its outcome
module _ (a : Result Deviance Refusal) (v : Workspace) (o : Profiled) where
  pub profiled_means : record { answer = a; left = v } ≡ o → (deviance_meaning a ≡ deviance_meaning o.answer) × (v ≡ o.left)
  profiled_means e = (ap (λ (x : Profiled). deviance_meaning x.answer) e, ap (λ (x : Profiled). x.left) e)

abbrev solve_by : Option Solution → Numbers → Result Solution Refusal
solve_by (some s) f = Ok s
solve_by none f = Err (by_numbers f)

abbrev solve_of : SolveMeaning → Result Solution Refusal
solve_of m = solve_by m.solution m.refusal

solve_back : (s : Result Solution Refusal) → solve_of (solve_meaning s) ≡ s
solve_back (Ok s) = refl
solve_back (Err r) = ap Err (refusal_back r)

pub solve_meaning_injective : (a b : Result Solution Refusal) → solve_meaning a ≡ solve_meaning b → a ≡ b
solve_meaning_injective a b e = sym (solve_back a) ∙ ap solve_of e ∙ solve_back b

-- ---- a refused pivot is number 26 with its block and row, and the Rust's value is `f64::MAX`, as of "no scale"
pivot_means : ((deviance_meaning (Ok (Pivot 2 1))).refusal ≡ numbers 26 2 1) × ((deviance_meaning (Ok (Pivot 2 1))).rust ≡ some largest)
pivot_means = (refl, refl)

no_scale_means : ((deviance_meaning (Ok NoScale)).refusal ≡ numbers 0 0 0) × ((deviance_meaning (Ok NoScale)).rust ≡ some largest)
no_scale_means = (refl, refl)

-- 2^1024 - 2^971
largest_is : largest ≡ fin false 9007199254740991 (pos 971)
unfolding Ieee.of_bits
largest_is = refl
