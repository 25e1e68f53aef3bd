-- What an update comes to, whatever the order of its steps.
use Prim.Native.Nat.{ℕ, suc}
use mathlib.Core.Path.{◌≡◌, refl, sym, ap, ◌∙◌}
use mathlib.Core.Bool.{Bool, false}
use mathlib.Core.List.{List, [], ◌∷◌}
use mathlib.Core.Option.{Option, none, some}
use native.Mathlib.Omega.{arith}
use lib.ListN.{length}
use Rattle.step_order.specs.Steps.{Step, col, rust_order, step_count}
use Rattle.step_order.specs.Elimination.{Rules, refused_at}
use Rattle.step_order.specs.Progress.{join, join_all, steps_left, Order, Represents, State, begun, moved, refused_now}
use Rattle.step_order.specs.Outcome.{Outcome, stopped, reached, unless, Complete, run, Correct, Alike}
use Rattle.step_order.proofs.Invariant.{Held, bounded_begun, held_begun, held_moved, held_done}
use Rattle.step_order.proofs.RustOrder.{advance_all, rust_runs, rust_finishes}
use Rattle.step_order.proofs.Sets.{represents_begun, represents_moved, represents_after, ready_after}
use Rattle.step_order.proofs.Next.{rust_order_lem}
use Rattle.step_order.proofs.Left.{left_represents, left_after, left_begun, all_finished}
use Rattle.step_order.proofs.Refusal.{none_refused, refused_at_lem, refused_same}

-- The Rust's order is an order of all steps.
pub rust_complete : (k : ℕ) → Complete k (rust_order k)
rust_complete k = (
  rust_order_lem k,
  left_represents k (advance_all (λ i j. 0) (rust_order k)) _ (represents_after k (rust_order k) (λ i j. 0) (bounded_begun k) (λ s. false) (represents_begun k) (rust_runs k)) ∙ (all_finished k _ (λ i j l m. omega (arith, rust_finishes k i j l m))).1 (rust_finishes k),
)

-- Every order of all steps has Record 4's number of them.
pub complete_length : (k : ℕ) (l : List Step) → Complete k l → length l ≡ step_count (suc k)
complete_length k l w = let e : length l ≡ steps_left k (λ s. false) = omega (arith, left_after k (λ s. false) l w.0, w.1) in e ∙ left_begun k

module _ (R : Rules) (k : ℕ) (start : ℕ → ℕ → R.Block) where
  -- stopped at the pivot that the Rust's order refuses, or at a state with the invariant whose stages stand for the set d
  abbrev pub Kept : (Step → Bool) → Outcome (State R) → Type 0
  Kept d (stopped b r) = refused_at R k start ≡ some (b, r)
  Kept d (reached u) = Held R k start u × Represents k u.stage d

  -- Steps in any order, all of them or not, come to that with the set of done steps.
  pub run_kept : (l : List Step) (u : State R) → Held R k start u → (d : Step → Bool) → Represents k u.stage d → Order k d l → Kept (join_all d l) (run R u l)
  unfolding run
  run_kept [] u H d is o = (H, is)
  run_kept (s ∷ l) u H d is o =
      let r = (ready_after k u.stage H.most d is s o.0).1 (o.1, o.2) in
      go (refused_now R s u) refl (λ x e. refused_at_lem R k start s x (sym (refused_same R k start u H s o.0 r) ∙ e))
      (λ p. run_kept l (moved R s u) (held_moved R k start u H s o.0 r p) (join d s) (represents_moved k u.stage H.most d is s o.0 r) o.3)
    where
      go : (v : Option ℕ) → refused_now R s u ≡ v → ((x : ℕ) → refused_now R s u ≡ some x → refused_at R k start ≡ some (col s, x))
          → (refused_now R s u ≡ none → Kept (join_all (join d s) l) (run R (moved R s u) l)) → Kept (join_all (join d s) l) (unless (col s) v (run R (moved R s u) l))
      go none e f h = h e
      go (some x) e f h = f x e

  -- The order theorem: every order of all steps comes to the working factor and the sum of all its logarithms, or stops at the pivot that is refused first.
  pub any_order : (l : List Step) → Complete k l → Correct R k start (run R (begun R start) l)
  any_order l w = go (run R (begun R start) l) (run_kept l (begun R start) (held_begun R k start) (λ s. false) (represents_begun k) w.0)
    where
      go : (o : Outcome (State R)) → Kept (join_all (λ s. false) l) o → Correct R k start o
      go (stopped b r) e = e
      go (reached u) p =
          let f = (all_finished k u.stage p.0.most).0 (sym (left_represents k u.stage _ p.1) ∙ w.1) in
          let t = held_done R k start u p.0 f in
          (none_refused R start (suc k) (λ j l. t.2 j (omega arith)), t.0, t.1)

  correct_alike : (o p : Outcome (State R)) → Correct R k start o → Correct R k start p → Alike R k o p
  correct_alike (stopped a q) (stopped b r) x y = let z : ◌≡◌ {A = ℕ × ℕ} (a, q) (b, r) = cc in (ap (λ (w : ℕ × ℕ). w.0) z, ap (λ (w : ℕ × ℕ). w.1) z)
  correct_alike (stopped a q) (reached v) x y = absurd (let z : ◌≡◌ {A = ℕ} 0 1 = cc y.0 in omega arith)
  correct_alike (reached u) (stopped b r) x y = absurd (let z : ◌≡◌ {A = ℕ} 0 1 = cc x.0 in omega arith)
  correct_alike (reached u) (reached v) x y = (λ i j l m. x.1 i j l m ∙ sym (y.1 i j l m), x.2 ∙ sym y.2)

  -- Whatever the order of all steps, an update ends as with the Rust's order.
  pub as_rust : (l : List Step) → Complete k l → Alike R k (run R (begun R start) l) (run R (begun R start) (rust_order k))
  as_rust l w = correct_alike (run R (begun R start) l) (run R (begun R start) (rust_order k)) (any_order l w) (any_order (rust_order k) (rust_complete k))
