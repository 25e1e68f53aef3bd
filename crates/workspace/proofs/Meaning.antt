-- A call's promise speaks of what its answer means and of what it leaves: the two together are its outcome, and no other.
use mathlib.Core.Path.{◌≡◌, ap, ap₂}
use Rattle.refusal.specs.Numbers.{meaning}
use Rattle.refusal.proofs.Meaning.{meaning_injective}
use Rattle.workspace.specs.Memory.{Workspace}
use Rattle.workspace.specs.Answers.{Outcome}
use Rattle.std.specs.Prelude.{Result}
use Rattle.refusal.specs.declared.Refusal.{Refusal}

abbrev pub both : Result Unit Refusal → Workspace → Outcome
both a v = record { answer = a; left = v }

-- an answer that is handed on
pub answered : {a b : Result Unit Refusal} {v : Workspace} → a ≡ b → both a v ≡ both b v
answered {v = v} e = ap (λ (x : Result Unit Refusal). both x v) e

module _ (a : Result Unit Refusal) (v : Workspace) (o : Outcome) where
  pub outcome_means : record { answer = a; left = v } ≡ o → (meaning a ≡ meaning o.answer) × (v ≡ o.left)
  outcome_means e = (ap (λ (x : Outcome). meaning x.answer) e, ap (λ (x : Outcome). x.left) e)

  pub meant_outcome : (meaning a ≡ meaning o.answer) × (v ≡ o.left) → record { answer = a; left = v } ≡ o
  meant_outcome e = ap₂ both (meaning_injective a o.answer e.0) e.1
