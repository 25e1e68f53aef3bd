-- The first refusal that a step's name meets, test by test.
use Prim.Native.Nat.{ℕ, ◌≤◌}
use mathlib.Core.Path.{◌≡◌, refl, sym, ◌∙◌}
use mathlib.Core.Bool.{Bool, true, false}
use native.Mathlib.Omega.{arith}
use Rattle.step_order.specs.Steps.{Step, S, C, T, IsStep, is_step, forerunners}
use Rattle.step_order.specs.Progress.{all, done}
use Rattle.step_order.proofs.Sets.{named_iff}
use Rattle.heading_format.specs.declared.Progress.{Progress}
use Rattle.heading_format.specs.declared.State.{State}
use Rattle.heading_format.specs.declared.State.TheVariants.{UnderWay}
use Rattle.heading_format.specs.Heading.{stage_of}
use Rattle.refusal.specs.declared.Refusal.{Refusal}
use Rattle.refusal.specs.Numbers.{refuse}
use Rattle.std.specs.Prelude.{Result, Ok}
use Rattle.step.specs.step_check.Faults.{name_fault, fault_of}

module _ (k : ℕ) (g : Progress) (s : Step) where
  abbrev answer : Result Unit Refusal
  answer = name_fault (is_step k s) (done (stage_of g) s) (all (done (stage_of g)) (forerunners s))

  module _ {n : Bool} (is-n : n ≡ is_step k s) where
    pub fault_unnamed : n ≡ false → refuse 21 0 0 ≡ answer
    fault_unnamed e = rw (← is-n, e) refl

    module _ (known : n ≡ true) {d : Bool} (is-d : d ≡ done (stage_of g) s) where
      pub fault_done : d ≡ true → refuse 23 0 0 ≡ answer
      fault_done e = rw (← is-n, known, ← is-d, e) refl

      module _ (undone : d ≡ false) {f : Bool} (is_f : f ≡ all (done (stage_of g)) (forerunners s)) where
        pub fault_none : f ≡ true → Ok tt ≡ answer
        fault_none e = rw (← is-n, known, ← is-d, undone, ← is_f, e) refl

        pub fault_forerun : f ≡ false → refuse 24 0 0 ≡ answer
        fault_forerun e = rw (← is-n, known, ← is-d, undone, ← is_f, e) refl

-- a named step is one of eight blocks and the last
named_more : (k : ℕ) (s : Step) → k ≤ 8 → IsStep k s → IsStep 8 s
named_more k (S i j x) h n = let c = n.2 in (n.0, n.1, omega arith)
named_more k (C j) h n = omega arith
named_more k (T i j) h n = let c = n.1 in (n.0, omega arith)

pub named_eight : (k : ℕ) (s : Step) {b : Bool} → k ≤ 8 → b ≡ is_step k s → b ≡ true → IsStep 8 s
named_eight k s h e t = named_more k s h ((named_iff k s).0 (sym e ∙ t))

-- under way, the name decides
pub fault_named : (k : ℕ) (g : Progress) (s : Step) {state : State} {r : Result Unit Refusal} → state ≡ UnderWay → state ≡ g.state
    → r ≡ name_fault (is_step k s) (done (stage_of g) s) (all (done (stage_of g)) (forerunners s)) → r ≡ fault_of k g s
fault_named k g s e q f = f ∙ rw (← q, e) refl
