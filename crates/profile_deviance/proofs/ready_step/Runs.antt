-- Steps in turn: lists of steps one after the other, and loops over them that leave at the first refusal.
use Prim.Native.Nat.{ℕ, suc, ◌+◌, ◌-◌, ◌≤◌, ◌<◌}
use mathlib.Core.Path.{◌≡◌, refl, sym, ap, subst, ◌∙◌}
use mathlib.Core.Bool.{true, false, true≢false}
use mathlib.Core.List.{List, [], ◌∷◌, ◌++◌, append_assoc}
use native.Mathlib.Omega.{arith}
use native.Mathlib.Numerals.{add-one}
use lib.ListN.{length}
use Rattle.step_order.specs.Steps.{Step, each}
use Rattle.workspace.specs.Memory.{Workspace}
use Rattle.workspace.specs.Answers.{Outcome}
use Rattle.update.specs.Calls.{refused_by, on_pivot, step_of, go_on, run_of}
use Rattle.profile_deviance.specs.ready_step.ReadyInTurn.{is_refused, ReadyInTurn, Ran}
use Rattle.profile_deviance.proofs.ready_step.Turns.{step_is, step_next, prefix}
use Rattle.std.specs.Prelude.{Result, Ok, Err}
use Rattle.refusal.specs.declared.Refusal.{Refusal}

abbrev pub outcome : Result Unit Refusal → Workspace → Outcome
outcome a v = record { answer = a; left = v }

-- an answer that is no refusal
accepted : (a : Result Unit Refusal) → is_refused a ≡ false → a ≡ (Ok tt)
accepted (Ok tt) e = refl
accepted (Err r) e = absurd (true≢false e)

-- going on from an outcome: from what an accepted one leaves, not at all from a refused one
on_accepted : (o : Outcome) (next : Workspace → Outcome) → o.answer ≡ (Ok tt) → go_on o.answer o next ≡ next o.left
on_accepted o next e = rw e refl

on_refused : (o : Outcome) (next : Workspace → Outcome) → is_refused o.answer ≡ true → go_on o.answer o next ≡ o
on_refused o next t = go o.answer t
  where
    go : (a : Result Unit Refusal) → is_refused a ≡ true → go_on a o next ≡ o
    go (Ok tt) e = absurd (true≢false (sym e))
    go (Err r) e = refl

-- ending right behind it is the outcome itself
ending : (a : Result Unit Refusal) (o : Outcome) → o.answer ≡ a → go_on a o (outcome (Ok tt)) ≡ o
ending (Ok tt) o e = ap (λ (b : Result Unit Refusal). outcome b o.left) (sym e)
ending (Err r) o e = refl

run_one : (v : Workspace) (s : Step) → step_of v.heading v.doubles s ≡ run_of v (s ∷ [])
unfolding run_of
run_one v s = sym (ending (step_of v.heading v.doubles s).answer (step_of v.heading v.doubles s) refl)

run_append : (v : Workspace) (a b : List Step) → run_of v (a ++ b) ≡ go_on (run_of v a).answer (run_of v a) (λ u. run_of u b)
unfolding run_of
run_append v [] b = refl
run_append v (s ∷ a) b = go (λ u. run_append u a b) (step_of v.heading v.doubles s).answer (step_of v.heading v.doubles s) refl
  where
    go : ((u : Workspace) → run_of u (a ++ b) ≡ go_on (run_of u a).answer (run_of u a) (λ z. run_of z b)) → (x : Result Unit Refusal) (o : Outcome) → o.answer ≡ x
        → go_on x o (λ u. run_of u (a ++ b)) ≡ go_on (go_on x o (λ u. run_of u a)).answer (go_on x o (λ u. run_of u a)) (λ u. run_of u b)
    go rest (Ok tt) o e = rest o.left
    go rest (Err r) o e = rw e refl

-- ---- runs: none, one step, one list behind another
ran_none : (v : Workspace) → Ran v [] (outcome (Ok tt) v)
unfolding run_of
ran_none v = record { same = refl; next = λ rest u t. u }

pub ran_one : (v : Workspace) (s : Step) → ReadyInTurn v (s ∷ []) → (o : Outcome) → o ≡ on_pivot v.heading v.doubles (refused_by v.heading v.doubles s) s
    → length o.left.doubles ≡ length v.doubles → Ran v (s ∷ []) o
ran_one v s u o e q =
    record { same = e ∙ sym (step_is v s [] u) ∙ run_one v s; next = λ rest z t. step_next v s rest z o e q t }

module _ {v : Workspace} {a : List Step} (b : List Step) {o : Outcome} (r : Ran v a o) where
  -- the first list ends in a refusal
  pub ran_stop : is_refused o.answer ≡ true → Ran v (a ++ b) o
  ran_stop t =
      record {
        same = sym (run_append v a b ∙ ap (λ (z : Outcome). go_on z.answer z (λ u. run_of u b)) (sym r.same) ∙ on_refused o (λ u. run_of u b) t);
        next = λ rest u f. absurd (true≢false (sym t ∙ f));
      }

  module _ (t : is_refused o.answer ≡ false) where
    -- it does not, and the second list is run behind it
    pub ran_more : {p : Outcome} → Ran o.left b p → Ran v (a ++ b) p
    ran_more {p} q =
        record {
          same =
              q.same
              ∙ sym (run_append v a b ∙ ap (λ (z : Outcome). go_on z.answer z (λ u. run_of u b)) (sym r.same) ∙ on_accepted o (λ u. run_of u b) (accepted o.answer t));
          next = λ rest u f. q.next rest (r.next (b ++ rest) (subst (ReadyInTurn v) (append_assoc a b rest) u) t) f;
        }

    -- the second list's turn
    pub turn : ReadyInTurn v (a ++ b) → ReadyInTurn o.left b
    turn u = r.next b u t

-- what a run answers is handed on
pub handed_on : {v u : Workspace} {l : List Step} {a b : Result Unit Refusal} → Ran v l (outcome a u) → b ≡ a → Ran v l (outcome b u)
handed_on {v} {u} {l} r e = subst (λ (x : Result Unit Refusal). Ran v l (outcome x u)) (sym e) r

-- ---- a loop over f x, .., f (end - 1) from v on: their turn has come, and what they come to, the whole list L comes to from v₀ on
pub record Going (v₀ : Workspace) (L : List Step) (f : ℕ → List Step) (x end : ℕ) (v : Workspace) : Type 0 where
  pub within : x ≤ end
  pub ends : (p : Outcome) → Ran v (each f x (end - x)) p → Ran v₀ L p
  pub turn : ReadyInTurn v (each f x (end - x))

pub going_start : (v : Workspace) (f : ℕ → List Step) (a n : ℕ) → ReadyInTurn v (each f a n) → {x end : ℕ} → x ≡ a → end ≡ a + n → Going v (each f a n) f x end v
going_start v f a n u {x} {end} e q =
    let z : end - x ≡ n = omega arith in
    record { within = omega arith; ends = rw (z, e) (λ p r. r); turn = rw (z, e) u }

module _ {v₀ : Workspace} {L : List Step} {f : ℕ → List Step} {x end : ℕ} {v : Workspace} (g : Going v₀ L f x end v) where
  pub going_done : end ≤ x → Ran v₀ L (outcome (Ok tt) v)
  going_done h =
      let z : end - x ≡ 0 = omega arith in
      g.ends (outcome (Ok tt) v) (rw z (ran_none v))

  module _ (h : x < end) where
    count : end - x ≡ suc (end - (x + 1))
    count = omega arith

    whole : each f x (end - x) ≡ f x ++ each f (suc x) (end - (x + 1))
    whole = ap (each f x) count

    -- what the turn of f x asks
    pub going_turn : ReadyInTurn v (f x)
    going_turn = prefix v (f x) (each f (suc x) (end - (x + 1))) (subst (ReadyInTurn v) whole g.turn)

    module _ (o : Outcome) (r : Ran v (f x) o) where
      pub going_refused : is_refused o.answer ≡ true → Ran v₀ L o
      going_refused t = g.ends o (subst (λ (l : List Step). Ran v l o) (sym whole) (ran_stop (each f (suc x) (end - (x + 1))) r t))

      pub going_more : is_refused o.answer ≡ false → Going v₀ L f (x + 1) end o.left
      going_more t =
          let same : each f (x + 1) (end - (x + 1)) ≡ each f (suc x) (end - (x + 1)) = ap (λ (y : ℕ). each f y (end - (x + 1))) (add-one x) in
          record {
            within = omega arith;
            ends =
                λ p q.
                g.ends p
                (subst (λ (l : List Step). Ran v l p) (sym whole)
                (ran_more (each f (suc x) (end - (x + 1))) r t (subst (λ (l : List Step). Ran o.left l p) same q)));
            turn = subst (ReadyInTurn o.left) (sym same) (turn (each f (suc x) (end - (x + 1))) r t (subst (ReadyInTurn v) whole g.turn));
          }
