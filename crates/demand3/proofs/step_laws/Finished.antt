-- A workspace whose update has no step left: its factor and its sum are the final ones, and no pivot was refused.
use Prim.Native.Nat.{ℕ, suc, ◌≤◌}
use mathlib.Core.Path.{◌≡◌, sym, ap, ◌∙◌}
use mathlib.Core.Bool.{Bool}
use mathlib.Core.List.{List}
use mathlib.Core.Option.{none, some}
use native.Mathlib.Omega.{arith}
use lib.Dec.{eqb}
use lib.Ieee.{Float}
use Rattle.step_order.specs.Steps.{Step, is_step}
use Rattle.step_order.specs.Elimination.{value}
use Rattle.step_order.specs.Progress.{steps_left}
use Rattle.step_order.proofs.Invariant.{held_done}
use Rattle.step_order.proofs.Sets.{named_iff}
use Rattle.step_order.proofs.Left.{none_left, left_represents, all_finished}
use Rattle.step_order.proofs.Refusal.{none_refused}
use Rattle.sheet.specs.Sheet.{Sheet}
use Rattle.heading_format.specs.declared.State.TheVariants.{UnderWay, Finished}
use Rattle.layout.specs.Shapes.{pick}
use Rattle.heading_format.specs.Heading.{stage_of}
use Rattle.workspace.specs.Memory.{Workspace, working_block, log_sum}
use Rattle.book.specs.Book.{book, last}
use Rattle.book.specs.Values.{rules_here, start_here, final_value, logs_after, refused_pivot}
use Rattle.demand3.proofs.same_rules.Same.{state_of}
use Rattle.demand3.proofs.invariant.Invariant.{Begun, Invariant}

module _ (sheet : Sheet) (h : List ℕ) (w : List Float) (loaded theta : List Float) (d : Step → Bool) (v : Workspace)
    (s : Invariant sheet h w (book loaded theta (some d)) v) (left : steps_left (last sheet) d ≡ 0) where
  -- the update on the page
  begun : Begun sheet loaded theta d s.progress v
  begun = s.updating.1

  -- every block is finished, so that all of the order theorem's invariant is known
  all_done_lem : ((i j : ℕ) → j ≤ i → i ≤ last sheet → working_block v.heading v.doubles i j ≡ final_value sheet loaded theta i j)
      × (log_sum v.heading v.doubles ≡ logs_after sheet loaded theta (suc (last sheet)))
      × ((j : ℕ) → j ≤ last sheet → (rules_here sheet loaded theta).pivots j (value (rules_here sheet loaded theta) (start_here sheet loaded theta) j j j) ≡ none)
  all_done_lem =
      held_done (rules_here sheet loaded theta) (last sheet) (start_here sheet loaded theta) (state_of sheet loaded theta v s.progress) begun.held
      ((all_finished (last sheet) (stage_of s.progress) begun.held.most).0
      (sym (left_represents (last sheet) (stage_of s.progress) d begun.represents) ∙ left))

  -- the factor
  pub finished_factor : (i j : ℕ) → j ≤ i → i ≤ last sheet → working_block v.heading v.doubles i j ≡ final_value sheet loaded theta i j
  finished_factor = all_done_lem.0

  -- the logarithms' sum
  pub finished_sum : log_sum v.heading v.doubles ≡ logs_after sheet loaded theta (suc (last sheet))
  finished_sum = all_done_lem.1

  -- no C meets a pivot that it refuses
  pub finished_pivots : (j : ℕ) → j ≤ last sheet → (rules_here sheet loaded theta).pivots j (value (rules_here sheet loaded theta) (start_here sheet loaded theta) j j j) ≡ none
  finished_pivots = all_done_lem.2

  -- and so the Rust's order refuses none
  pub finished_none : refused_pivot sheet loaded theta ≡ none
  finished_none = none_refused (rules_here sheet loaded theta) (start_here sheet loaded theta) (suc (last sheet)) (λ j l. finished_pivots j (omega arith))

  -- the set may as well be that of all steps there are
  pub finished_named : Invariant sheet h w (book loaded theta (some (is_step (last sheet)))) v
  finished_named =
      record {
        progress = s.progress;
        heading = s.heading;
        stages = s.stages;
        valid_progress_lem = s.valid_progress_lem;
        many = s.many;
        loaded = s.loaded;
        unwritten = s.unwritten;
        updating = (
          s.updating.0
              ∙ ap (λ (n : ℕ). pick (eqb n 0) Finished UnderWay) (left ∙ sym ((none_left (last sheet) (is_step (last sheet))).1 (λ t n. (named_iff (last sheet) t).1 n))),
          record {
            theta_many = begun.theta_many;
            theta_finite = begun.theta_finite;
            theta_kept = begun.theta_kept;
            held = begun.held;
            represents = λ t n. (named_iff (last sheet) t).1 n ∙ sym ((none_left (last sheet) d).0 left t n) ∙ begun.represents t n;
          },
        );
      }
