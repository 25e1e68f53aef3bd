-- "Refusals, loaded numbers, progress and steps left are as in document 01's book."
use Prim.Native.Nat.{ℕ, ◌+◌}
use mathlib.Core.Path.{◌≡◌, sym, ap, subst, ◌∙◌}
use mathlib.Core.Bool.{Bool, false}
use mathlib.Core.List.{List}
use mathlib.Core.Option.{Option, none, some}
use native.Mathlib.Omega.{arith}
use lib.Ieee.{Float}
use borrow.Author.Tests.{le-ltb}
use Rattle.storage.specs.Runs.{start, triangle}
use Rattle.step_order.specs.Steps.{Step, IsStep, row, col, index}
use Rattle.step_order.specs.Progress.{steps_left, done}
use Rattle.step_order.proofs.Left.{left_represents}
use Rattle.sheet.specs.Sheet.{Sheet}
use Rattle.heading_format.specs.declared.Progress.{Progress}
use Rattle.heading_format.specs.Heading.{progress_of, stage_of, idle}
use Rattle.workspace.specs.Memory.{Workspace}
use Rattle.book.specs.Book.{Book, last, book_left, book_state, book_set}
use Rattle.demand3.specs.Demand.{Agrees}
use Rattle.update.proofs.progress_laws.Moves.{stays_valid}
use Rattle.demand3.proofs.invariant.Invariant.{Site, Updating, Invariant}
use Rattle.demand3.proofs.invariant.Site.{layout_of_lem, progress_of_lem, unused_kept, heading_behind, heading_many}
use Rattle.storage.proofs.Cells.{default_at}
use Rattle.heading_format.specs.Parts.{most_targets}

-- with none, no step is done
idle_undone : (k : ℕ) (s : Step) → done (stage_of (idle k)) s ≡ false
idle_undone k s = le-ltb (index s) (stage_of (idle k) (row s) (col s)) (omega (arith, default_at {A = ℕ} 0 most_targets (start triangle (row s) + col s)))

module _ (sheet : Sheet) where
  module _ (b : Book) (g : Progress) (v : Workspace) where
    state_said : (o : Option (Step → Bool)) → Updating sheet b o g v → g.state ≡ book_state sheet o
    state_said none u = ap (λ (x : Progress). x.state) u
    state_said (some d) u = u.0

    left_said : (o : Option (Step → Bool)) → g.left ≡ steps_left (last sheet) (done (stage_of g)) → Updating sheet b o g v → g.left ≡ book_left sheet o
    left_said none l u = ap (λ (x : Progress). x.left) u
    left_said (some d) l u = l ∙ sym (left_represents (last sheet) (stage_of g) d u.1.represents)

    set_said : (o : Option (Step → Bool)) → Updating sheet b o g v → (s : Step) → IsStep (last sheet) s → done (stage_of g) s ≡ book_set sheet o s
    set_said none u s n = ap (λ (x : Progress). done (stage_of x) s) u ∙ idle_undone (last sheet) s
    set_said (some d) u s n = sym (u.1.represents s n)

  pub agrees : (h : List ℕ) (w : List Float) → Site sheet h w → (b : Book) (v : Workspace) → Invariant sheet h w b v → Agrees sheet h w b v
  agrees h w here b v s =
      let g : Progress = s.progress in
      let p : progress_of v.heading ≡ g = progress_of_lem sheet h w here b v s in
      record {
        layout_kept = layout_of_lem sheet h w here b v s;
        loaded = s.loaded;
        state = ap (λ (x : Progress). x.state) p ∙ state_said b g v b.done s.updating;
        left = ap (λ (x : Progress). x.left) p ∙ left_said b g v b.done (stays_valid (last sheet) g s.valid_progress_lem).left s.updating;
        set = λ x n. ap (λ (z : Progress). done (stage_of z) x) p ∙ set_said b g v b.done s.updating x n;
        doubles_behind = s.unwritten;
        unused_kept = unused_kept sheet h w here b v s;
        heading_behind = heading_behind sheet h w here b v s;
        theta_kept = λ d e. (subst (λ (o : Option (Step → Bool)). Updating sheet b o g v) e s.updating).1.theta_kept;
        doubles_many = s.many;
        numbers_many = heading_many sheet h w here b v s;
      }
