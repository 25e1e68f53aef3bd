-- What an update and the profiled deviance come to, way out by way out.
use Prim.Native.Nat.{ℕ, ◌≤◌}
use mathlib.Core.Path.{◌≡◌, refl, sym, ap, subst, ◌∙◌}
use mathlib.Core.Bool.{Bool, true, false, true≢false}
use mathlib.Core.List.{List}
use lib.ListN.{length}
use lib.Ieee.{Float}
use Rattle.std.specs.Prelude.{Result, Ok, Err}
use Rattle.step_order.specs.Steps.{rust_order}
use Rattle.refusal.specs.declared.Refusal.{Refusal}
use Rattle.refusal.specs.declared.Numbers.{Numbers}
use Rattle.refusal.specs.Numbers.{numbers_of}
use Rattle.layout.specs.declared.Layout.{Layout}
use Rattle.heading_format.specs.Heading.{layout_of, valid_layout, valid_heading}
use Rattle.heading_format.specs.Parts.{heading_length}
use Rattle.heading_format.specs.Fits.{Room}
use Rattle.heading_format.proofs.Valid.{is_valid}
use Rattle.heading_format.proofs.Fits.{fits}
use Rattle.workspace.specs.Memory.{Workspace}
use Rattle.workspace.specs.Answers.{Outcome, workspace}
use Rattle.update.specs.Calls.{begin_of, run_of}
use Rattle.update.proofs.progress_laws.Calls.{begin_kept, begin_accepted, run_kept}
use Rattle.profile.specs.declared.Deviance.{Deviance}
use Rattle.profile.specs.declared.Deviance.TheVariants.{Pivot as Unfactored}
use Rattle.profile.specs.Deviance.{Profiled, after_steps, after_begin, deviance_value, profile_of, log_determinant}
use Rattle.deviance.specs.deviance_tail.Tail.{log_determinant_of, deviance_with}
use Rattle.deviance.proofs.deviance_tail.Tails.{tail_value}
use Rattle.profile_deviance.specs.declared.full_update.Updated.{Updated}
use Rattle.profile_deviance.specs.declared.full_update.Updated.TheVariants.{Value, Pivot}
use Rattle.profile_deviance.specs.full_update.Updating.{Updating, after_run, factored, after_begun, update_of, is_value, Without}
use Rattle.profile_deviance.specs.ready_step.ReadyInTurn.{ReadyInTurn, Ran}
use Rattle.profile_deviance.proofs.ready_step.Turns.{just_begun}
use Rattle.profile_deviance.proofs.ready_step.Runs.{outcome}

abbrev updating : Result Updated Refusal → Workspace → Updating
updating u v = record { answer = u; left = v }

abbrev profiled : Result Deviance Refusal → Workspace → Profiled
profiled d v = record { answer = d; left = v }

-- the cases of an update that the `else` of its value is for
pub not_value : (u : Updated) → ((x : Float) → u ≡ Value x → ⊥) → is_value u ≡ false
not_value (Value x) n = absurd (n x refl)
not_value (Pivot j r) n = refl

-- the answer to them
pub without_pivot : (u : Updated) (j r : ℕ) → u ≡ Pivot j r → Without u (Unfactored j r)
without_pivot u j r e = subst (λ (x : Updated). Without x (Unfactored j r)) (sym e) refl

-- ---- the Rust's order
-- what it needs of a workspace
pub turn_come : (h : List ℕ) (w : List Float) (y : Layout) → y ≡ layout_of h → valid_layout (layout_of h) ≡ true → ReadyInTurn (workspace h w) (rust_order (layout_of h).k)
    → (y.k ≤ 8) × ReadyInTurn (workspace h w) (rust_order y.k)
turn_come h w y e ok u = ((is_valid y (rw e ok)).blocks.1, rw e u)

-- and what its end needs
pub still : (h : List ℕ) (w w' : List Float) (y : Layout) → y ≡ layout_of h → Room (layout_of h) (length w) → length w' ≡ length w → Room y (length w')
still h w w' y e r q = record { valid = rw e r.valid; room = rw (e, q) r.room }

module _ (h : List ℕ) (w : List Float) (y : Layout) (is_y : y ≡ layout_of h) (a : Result Unit Refusal) (h' : List ℕ) (w' : List Float)
    (ran : Ran (workspace h w) (rust_order y.k) (outcome a (workspace h' w'))) where
  same_run : outcome a (workspace h' w') ≡ run_of (workspace h w) (rust_order (layout_of h).k)
  same_run = ran.same ∙ ap (λ (z : Layout). run_of (workspace h w) (rust_order z.k)) is_y

  by_answer : {b : Result Unit Refusal} → a ≡ b → after_run b (outcome b (workspace h' w')) ≡ factored (workspace h w)
  unfolding factored
  by_answer e = ap (λ (b : Result Unit Refusal). after_run b (outcome b (workspace h' w'))) (sym e) ∙ ap (λ (o : Outcome). after_run o.answer o) same_run

  pub run_refused : (r : Refusal) (n : Numbers) → a ≡ Err r → n ≡ numbers_of r → updating (Ok (Pivot n.first n.second)) (workspace h' w') ≡ factored (workspace h w)
  run_refused r n e q = ap (λ (m : Numbers). updating (Ok (Pivot m.first m.second)) (workspace h' w')) q ∙ by_answer e

  pub run_done : a ≡ Ok tt → (x : Float) → x ≡ log_determinant_of y w' → updating (Ok (Value x)) (workspace h' w') ≡ factored (workspace h w)
  run_done e x q =
      let kept : layout_of h' ≡ layout_of h = ap (λ (o : Outcome). layout_of o.left.heading) ran.same ∙ run_kept (workspace h w) (rust_order y.k) in
      ap (λ (z : Float). updating (Ok (Value z)) (workspace h' w')) (q ∙ ap (λ (z : Layout). log_determinant_of z w') (is_y ∙ sym kept))
      ∙ by_answer e

-- ---- begin before it
module _ (h : List ℕ) (w theta : List Float) (a : Result Unit Refusal) (h' : List ℕ) (w' : List Float) (is : outcome a (workspace h' w') ≡ begin_of h w theta) where
  after : {b : Result Unit Refusal} → a ≡ b → after_begun b (outcome b (workspace h' w')) ≡ update_of h w theta
  unfolding update_of
  after e = ap (λ (b : Result Unit Refusal). after_begun b (outcome b (workspace h' w'))) (sym e) ∙ ap (λ (o : Outcome). after_begun o.answer o) is

  pub begin_refused : {r : Refusal} {u : Result Updated Refusal} → u ≡ Err r → a ≡ Err r → updating u (workspace h' w') ≡ update_of h w theta
  begin_refused q e = ap (λ (x : Result Updated Refusal). updating x (workspace h' w')) q ∙ after e

  module _ (e : a ≡ Ok tt) where
    pub begin_done : {o : Updating} → o ≡ factored (workspace h' w') → o ≡ update_of h w theta
    begin_done q = q ∙ after e

    -- what is begun is a workspace
    pub begun_ready : length h' ≡ length h → length w' ≡ length w
        → (heading_length ≤ length h') × Room (layout_of h') (length w') × ReadyInTurn (workspace h' w') (rust_order (layout_of h').k)
    begun_ready p q =
        let done : (begin_of h w theta).answer ≡ (Ok tt) = ap (λ (o : Outcome). o.answer) (sym is) ∙ e in
        let k = fits h (length w) (begin_accepted h w theta done).0 in
        let kept : layout_of h' ≡ layout_of h = ap (λ (o : Outcome). layout_of o.left.heading) is ∙ begin_kept h w theta in (
          rw p k.long,
          record { valid = rw kept k.valid; room = rw (kept, q) k.room },
          just_begun h (workspace h' w') (rw q (begin_accepted h w theta done).0) (ap (λ (o : Outcome). o.left.heading) is ∙ (begin_accepted h w theta done).2),
        )

-- ---- the deviance behind it
-- the deviance by what the update came to
abbrev on_update : Result Updated Refusal → Updating → Bool → Profiled
on_update (Ok (Value x)) o reml = profiled (Ok (deviance_value o.left.heading o.left.doubles reml)) o.left
on_update (Ok (Pivot j r)) o reml = profiled (Ok (Unfactored j r)) o.left
on_update (Err r) o reml = profiled (Err r) o.left

-- it is begun, and has a log determinant
abbrev has_value : Result Updated Refusal → Bool
has_value (Ok u) = is_value u
has_value (Err r) = false

module _ (h : List ℕ) (w theta : List Float) where
  from_update : (reml : Bool) → on_update (update_of h w theta).answer (update_of h w theta) reml ≡ profile_of h w theta reml
  unfolding update_of factored profile_of
  from_update reml = begin_by (begin_of h w theta).answer (begin_of h w theta) (begin_kept h w theta)
    where
      run_by : (a : Result Unit Refusal) (o : Outcome) → on_update (after_run a o).answer (after_run a o) reml ≡ after_steps a o reml
      run_by (Ok tt) o = refl
      run_by (Err r) o = refl

      begin_by : (a : Result Unit Refusal) (o : Outcome) → layout_of o.left.heading ≡ layout_of h
          → on_update (after_begun a o).answer (after_begun a o) reml ≡ after_begin a o (layout_of h).k reml
      begin_by (Ok tt) o kept =
          let all : Outcome = run_of o.left (rust_order (layout_of o.left.heading).k) in
          run_by all.answer all ∙ ap (λ (y : Layout). after_steps (run_of o.left (rust_order y.k)).answer (run_of o.left (rust_order y.k)) reml) kept
      begin_by (Err r) o kept = refl

  -- an update with a value: it was begun in a workspace, whose layout it keeps, and the value is the log determinant
  pub value_facts : (x : Float) → (update_of h w theta).answer ≡ Ok (Value x)
      → (valid_heading h (length w) ≡ true) × (layout_of (update_of h w theta).left.heading ≡ layout_of h) × (x ≡ log_determinant (update_of h w theta).left.heading (update_of h w theta).left.doubles)
  unfolding update_of factored
  value_facts x = begin_by (begin_of h w theta).answer refl
    where
      Facts : Updating → Type 0
      Facts o = (valid_heading h (length w) ≡ true) × (layout_of o.left.heading ≡ layout_of h) × (x ≡ log_determinant o.left.heading o.left.doubles)

      value_of : Result Updated Refusal → Float
      value_of (Ok (Value z)) = z
      value_of (Ok (Pivot j r)) = x
      value_of (Err r) = x

      run_by : (a : Result Unit Refusal) (o : Outcome) → valid_heading h (length w) ≡ true → layout_of o.left.heading ≡ layout_of h → (after_run a o).answer ≡ Ok (Value x) → Facts (after_run a o)
      run_by (Ok tt) o ok kept e = (ok, kept, ap value_of (sym e))
      run_by (Err r) o ok kept e = absurd (true≢false (ap has_value (sym e)))

      begin_by : (a : Result Unit Refusal) → (begin_of h w theta).answer ≡ a → (after_begun a (begin_of h w theta)).answer ≡ Ok (Value x) → Facts (after_begun a (begin_of h w theta))
      begin_by (Ok tt) q e =
          let v : Workspace = (begin_of h w theta).left in
          run_by (run_of v (rust_order (layout_of v.heading).k)).answer (run_of v (rust_order (layout_of v.heading).k)) (begin_accepted h w theta q).0
          (run_kept v (rust_order (layout_of v.heading).k) ∙ begin_kept h w theta) e
      begin_by (Err r) q e = absurd (true≢false (ap has_value (sym e)))

  module _ (reml : Bool) (u : Result Updated Refusal) (h' : List ℕ) (w' : List Float) (is : updating u (workspace h' w') ≡ update_of h w theta) where
    by_update : {v : Result Updated Refusal} → u ≡ v → on_update v (updating v (workspace h' w')) reml ≡ profile_of h w theta reml
    by_update e =
        ap (λ (v : Result Updated Refusal). on_update v (updating v (workspace h' w')) reml) (sym e)
        ∙ ap (λ (o : Updating). on_update o.answer o reml) is ∙ from_update reml

    pub update_refused : {r : Refusal} {d : Result Deviance Refusal} → d ≡ Err r → u ≡ Err r → profiled d (workspace h' w') ≡ profile_of h w theta reml
    update_refused q e = ap (λ (x : Result Deviance Refusal). profiled x (workspace h' w')) q ∙ by_update e

    -- a refused pivot
    pub no_value : {v : Updated} {d : Deviance} → u ≡ Ok v → Without v d → profiled (Ok d) (workspace h' w') ≡ profile_of h w theta reml
    no_value {v} {d} e q = by v q ∙ by_update e
      where
        by : (v : Updated) → Without v d → profiled (Ok d) (workspace h' w') ≡ on_update (Ok v) (updating (Ok v) (workspace h' w')) reml
        by (Value x) q = absurd q
        by (Pivot j r) q = ap (λ (z : Deviance). profiled (Ok z) (workspace h' w')) q

    module _ (x : Float) (e : u ≡ Ok (Value x)) where
      facts : (valid_heading h (length w) ≡ true) × (layout_of h' ≡ layout_of h) × (x ≡ log_determinant h' w')
      facts =
          subst (λ (o : Updating). (valid_heading h (length w) ≡ true) × (layout_of o.left.heading ≡ layout_of h) × (x ≡ log_determinant o.left.heading o.left.doubles)) (sym is)
          (value_facts x (ap (λ (o : Updating). o.answer) (sym is) ∙ e))

      -- what is left is a workspace
      pub value_ready : length h' ≡ length h → length w' ≡ length w → (y : Layout) → y ≡ layout_of h' → (heading_length ≤ length h') × Room y (length w')
      value_ready p q y is_y = let k = fits h (length w) facts.0 in (rw p k.long, record { valid = rw (is_y, facts.1) k.valid; room = rw (is_y, facts.1, q) k.room })

      -- the value goes on to the tail
      pub value_done : (y : Layout) → y ≡ layout_of h' → (d : Deviance) → d ≡ deviance_with y w' x reml → profiled (Ok d) (workspace h' w') ≡ profile_of h w theta reml
      value_done y is_y d q =
          ap (λ (z : Deviance). profiled (Ok z) (workspace h' w'))
          (q ∙ ap (λ (z : Layout). deviance_with z w' x reml) is_y ∙ ap (λ (z : Float). deviance_with (layout_of h') w' z reml) facts.2 ∙ tail_value h' w' reml)
          ∙ by_update e
