-- Steps in turn, each ready when its turn comes: they end with all of them in the set, or at the pivot that the Rust's order refuses.
use Prim.Native.Nat.{ℕ}
use mathlib.Core.Path.{◌≡◌, refl, sym, subst}
use mathlib.Core.Bool.{Bool}
use mathlib.Core.List.{List, [], ◌∷◌}
use mathlib.Core.Option.{Option, none, some}
use mathlib.Core.Logic.{◌⊎◌, inl, inr}
use lib.Ieee.{Float}
use Rattle.step_order.specs.Steps.{Step, col}
use Rattle.step_order.specs.Progress.{join, join_all, Order, refused_in}
use Rattle.step_order.proofs.Refusal.{refused_at_lem}
use Rattle.sheet.specs.Sheet.{Sheet}
use Rattle.refusal.specs.Numbers.{refuse}
use Rattle.workspace.specs.Memory.{Workspace}
use Rattle.workspace.specs.Answers.{Outcome}
use Rattle.update.specs.Calls.{step_of, go_on, run_of}
use Rattle.book.specs.Book.{book, last}
use Rattle.book.specs.Values.{rules_here, start_here, refused_pivot}
use Rattle.demand3.proofs.invariant.Invariant.{Site, Invariant}
use Rattle.demand3.proofs.invariant.Step.{Comes, step_comes}
use Rattle.std.specs.Prelude.{Result, Ok}
use Rattle.refusal.specs.declared.Refusal.{Refusal}

module _ (sheet : Sheet) (h : List ℕ) (w : List Float) (here : Site sheet h w) (loaded theta : List Float) where
  -- all steps done, which are the set d
  pub record Through (d : Step → Bool) (o : Outcome) : Type 0 where
    pub answer : o.answer ≡ (Ok tt)
    pub stands : Invariant sheet h w (book loaded theta (some d)) o.left

  -- or the pivot refused that the Rust's order refuses, and no update
  pub record Stopped (o : Outcome) : Type 0 where
    pub block : ℕ
    pub row : ℕ
    pub pivot : refused_pivot sheet loaded theta ≡ some (block, row)
    pub answer : o.answer ≡ refuse 26 block row
    pub stands : Invariant sheet h w (book loaded theta none) o.left

  -- a step's answer decides whether the others follow it
  turn : (d : Step → Bool) (s : Step) (l : List Step) (r : Option ℕ) (o : Outcome)
      → refused_in (rules_here sheet loaded theta) (last sheet) (start_here sheet loaded theta) s ≡ r → Comes sheet h w here loaded theta d s r o
      → ((u : Workspace) → Invariant sheet h w (book loaded theta (some (join d s))) u → Through (join_all (join d s) l) (run_of u l) ⊎ Stopped (run_of u l))
      → Through (join_all (join d s) l) (go_on o.answer o (λ u. run_of u l)) ⊎ Stopped (go_on o.answer o (λ u. run_of u l))
  turn d s l none o e c f =
      subst (λ (a : Result Unit Refusal). Through (join_all (join d s) l) (go_on a o (λ u. run_of u l)) ⊎ Stopped (go_on a o (λ u. run_of u l))) (sym c.0) (f o.left c.1)
  turn d s l (some r) o e c f =
      subst (λ (a : Result Unit Refusal). Through (join_all (join d s) l) (go_on a o (λ u. run_of u l)) ⊎ Stopped (go_on a o (λ u. run_of u l))) (sym c.0)
      (inr
      (record {
        block = col s;
        row = r;
        pivot = refused_at_lem (rules_here sheet loaded theta) (last sheet) (start_here sheet loaded theta) s r e;
        answer = c.0;
        stands = c.1;
      }))

  -- each step in turn joins the set, up to the end or to the refused pivot
  pub run_comes : (l : List Step) (d : Step → Bool) (v : Workspace) → Invariant sheet h w (book loaded theta (some d)) v → Order (last sheet) d l
      → Through (join_all d l) (run_of v l) ⊎ Stopped (run_of v l)
  unfolding run_of
  run_comes [] d v u o = inl (record { answer = refl; stands = u })
  run_comes (s ∷ l) d v u o =
      turn d s l (refused_in (rules_here sheet loaded theta) (last sheet) (start_here sheet loaded theta) s) (step_of v.heading v.doubles s) refl
      (step_comes sheet h w here loaded theta d v u s o.0 o.1 o.2) (λ x t. run_comes l (join d s) x t o.3)
