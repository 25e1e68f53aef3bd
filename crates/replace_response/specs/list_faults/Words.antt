-- What is wrong with the numbers of one lent list (document 01, number 14).
use Rattle.std.specs.Prelude.{ℕ, List, Float, Result, Ok}
use Rattle.refusal.specs.declared.Refusal.{Refusal}
use Rattle.refusal.specs.Numbers.{refuse}
use Rattle.workspace.specs.Answers.{first_infinite, unless_at}

-- 14 of list i where it has an infinity or NaN
abbrev pub words_fault : ℕ → List Float → Result Unit Refusal
words_fault i l = unless_at (first_infinite 0 l) (λ a. refuse 14 i a) (Ok tt)
