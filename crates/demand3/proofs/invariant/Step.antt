-- A ready step: it refuses the pivot that the Rust's order refuses in it, or joins the set.
use Prim.Native.Nat.{ℕ, zero, suc, ◌≤◌}
use mathlib.Core.Path.{◌≡◌, refl, sym, ap, ap₂, subst, ◌∙◌}
use mathlib.Core.Logic.{⊎_elim}
use mathlib.Core.Bool.{Bool, true, false, cond}
use mathlib.Core.List.{List, ◌++◌}
use mathlib.Core.Option.{Option, none, some}
use native.Mathlib.Omega.{arith}
use lib.Dec.{eqb}
use lib.ListN.{length, get_or, take, drop, length-replicate}
use lib.Ieee.{Float}
use borrow.Author.Tests.{ne_eqb}
use Rattle.storage.specs.Shape.{size_of}
use Rattle.storage.specs.Part.{part}
use Rattle.storage.proofs.Parts.{length_part}
use Rattle.step_order.specs.Steps.{Step, IsStep, row, col, is_step, forerunners}
use Rattle.step_order.specs.Progress.{all, join, steps_left, done, put, Ready, made, summed, moved, refused_now, refused_in}
use Rattle.step_order.proofs.Tables.{at, put_here, put_else, in_range}
use Rattle.step_order.proofs.Invariant.{held_moved, held_same}
use Rattle.step_order.proofs.Sets.{named_iff, ready_after}
use Rattle.step_order.proofs.Refusal.{refused_same as seen_same}
use Rattle.step_order.proofs.Left.{left_joins, left_represents}
use Rattle.rules.specs.Arithmetic.{ieee}
use Rattle.sheet.specs.Sheet.{Sheet}
use Rattle.refusal.specs.Numbers.{refuse}
use Rattle.layout.specs.declared.Layout.{Layout}
use Rattle.heading_format.specs.declared.Progress.{Progress}
use Rattle.heading_format.specs.declared.State.TheVariants.{UnderWay, Finished}
use Rattle.layout.specs.Shapes.{pick, shape, sizes, loaded_length, theta_at, working_at, sum_at, doubles_needed}
use Rattle.heading_format.specs.Heading.{layout_of, progress_of, stage_of, entry_row, written, idle}
use Rattle.layout.proofs.Places.{size_working, working_inside}
use Rattle.heading_format.proofs.Valid.{is_valid}
use Rattle.heading_format.proofs.Heading.{layout_back, progress_stored, idle_valid}
use Rattle.workspace.specs.Memory.{Workspace, working_block, log_sum, heading_with, cleared}
use Rattle.workspace.specs.Answers.{Outcome}
use Rattle.update.specs.Calls.{advanced, made_by, sum_by, refused_by, stepped, dropped, is_under_way, step_of, on_pivot}
use Rattle.book.specs.Book.{book, layout, last}
use Rattle.book.specs.Values.{rules_here, start_here}
use Rattle.update.proofs.progress_laws.Moves.{stays_valid, length_advanced, stage_advanced, represents_advanced, valid_advanced}
use Rattle.demand3.proofs.frame.Step.{with_block, with_length, with_own, with_other, with_sum, with_loaded_lem, with_theta_lem, with_behind}
use Rattle.demand3.proofs.frame.Clear.{cleared_length, cleared_loaded, cleared_behind}
use Rattle.demand3.proofs.same_rules.Same.{state_of, Alike, made_same, sum_same, refused_same, made_length}
use Rattle.demand3.proofs.invariant.Invariant.{Site, Begun, Invariant, behind}
use Rattle.demand3.proofs.invariant.Site.{layout_of_lem, progress_of_lem, valid_heading_of, alike}
use Rattle.heading_format.specs.Parts.{most_targets}
use Rattle.std.specs.Prelude.{Ok}

-- past five tests: three passed, one failed, one passed
through : (a b c d e : Bool) (p q r s t o : Outcome) → a ≡ true → b ≡ true → c ≡ true → d ≡ false → e ≡ true
    → pick a (pick b (pick c (pick d p (pick e o q)) r) s) t ≡ o
through a b c d e p q r s t o aa bb cc dd ee = rw (aa, bb, cc, dd, ee)

-- with one step left the update is finished by it
last_one : (x n : ℕ) → n ≡ suc x → cond (eqb n 1) Finished UnderWay ≡ pick (eqb x 0) Finished UnderWay
last_one zero n e = rw e
last_one (suc x) n e = rw (ne_eqb n 1 (λ z. omega arith), ne_eqb (suc x) 0 (λ z. omega arith))

-- a working block, by the layout that its heading has
pub working_is : (y : Layout) (h : List ℕ) (w : List Float) → layout_of h ≡ y → (i j : ℕ) → working_block h w i j ≡ part (working_at y i j) (sizes y i j) w
working_is y h w e i j =
    ap (λ (z : Layout). part (working_at z i j) (size_of (shape z (entry_row h) i j)) w) e
    ∙ ap (λ (n : ℕ). part (working_at y i j) n w) (size_working y (entry_row h) i j)

module _ (sheet : Sheet) (h : List ℕ) (w : List Float) (here : Site sheet h w) (loaded theta : List Float) (d : Step → Bool) where
  -- what a step on an update with the set d may come to, r being the row of the pivot that the Rust's order refuses in it
  abbrev pub Comes : Step → Option ℕ → Outcome → Type 0
  Comes s none o = (o.answer ≡ (Ok tt)) × Invariant sheet h w (book loaded theta (some (join d s))) o.left
  Comes s (some r) o = (o.answer ≡ refuse 26 (col s) r) × Invariant sheet h w (book loaded theta none) o.left

  module _ (v : Workspace) (u : Invariant sheet h w (book loaded theta (some d)) v) (s : Step) (n : IsStep (last sheet) s) (undone : d s ≡ false)
      (forerun : all d (forerunners s) ≡ true) where
    -- what the site and the book's page say: at most eight blocks, doubles enough, an update that has begun
    few : last sheet ≤ 8
    few = (is_valid (layout sheet) here.layout_valid).blocks.1

    room : doubles_needed (layout sheet) ≤ length v.doubles
    room = omega (arith, here.doubles, u.many)

    begun : Begun sheet loaded theta d u.progress v
    begun = u.updating.1

    -- it is ready by the stages
    ready : Ready (stage_of u.progress) s
    ready = (ready_after (last sheet) (stage_of u.progress) begun.held.most d begun.represents s n).1 (undone, forerun)

    -- some step is left: the update is under way
    one_left : steps_left (last sheet) d ≡ suc (steps_left (last sheet) (join d s))
    one_left = left_joins (last sheet) d s n undone

    under_way_lem : u.progress.state ≡ UnderWay
    under_way_lem = u.updating.0 ∙ ap (λ (b : Bool). pick b Finished UnderWay) (ne_eqb (steps_left (last sheet) d) 0 (λ z. omega (arith, one_left)))

    -- the two tests of the set, by the stages
    tests : (done (stage_of u.progress) s ≡ false) × (all (done (stage_of u.progress)) (forerunners s) ≡ true)
    tests = (ready_after (last sheet) (stage_of u.progress) begun.held.most (done (stage_of u.progress)) (λ t m. refl) s n).0 ready

    -- it goes past 20, 22, 21, 23 and 24
    pub step_ready : step_of v.heading v.doubles s ≡ on_pivot v.heading v.doubles (refused_by v.heading v.doubles s) s
    unfolding step_of
    step_ready =
        let p : progress_of v.heading ≡ u.progress = progress_of_lem sheet h w here (book loaded theta (some d)) v u in
        let y : layout_of v.heading ≡ layout sheet = layout_of_lem sheet h w here (book loaded theta (some d)) v u in
        through _ _ _ _ _ _ _ _ _ _ _ (valid_heading_of sheet h w here (book loaded theta (some d)) v u)
        (ap (λ (g : Progress). is_under_way g.state) p ∙ ap is_under_way under_way_lem)
        (ap (λ (z : Layout). is_step z.k s) y ∙ (named_iff (last sheet) s).1 n)
        (ap (λ (g : Progress). done (stage_of g) s) p ∙ tests.0)
        (ap (λ (g : Progress). all (done (stage_of g)) (forerunners s)) p ∙ tests.1)

    -- ---- an accepted step: what it leaves
    abbrev after_it : Workspace
    after_it = stepped v.heading v.doubles s

    -- its rules are the sheet's
    same : Alike sheet loaded v
    same = alike sheet h w here (book loaded theta (some d)) v u

    -- one progress for another, and nothing else new in the heading
    stepped_heading : after_it.heading ≡ written (layout sheet) (advanced u.progress s) ++ behind sheet h
    unfolding stepped
    stepped_heading =
        ap (λ (g : Progress). heading_with v.heading (advanced g s)) (progress_of_lem sheet h w here (book loaded theta (some d)) v u)
        ∙ ap (λ (x : List ℕ). heading_with x (advanced u.progress s)) u.heading
        ∙ progress_stored (layout sheet) u.progress (advanced u.progress s) (behind sheet h)

    stepped_layout : layout_of after_it.heading ≡ layout sheet
    stepped_layout =
        ap layout_of stepped_heading ∙ layout_back (layout sheet) (advanced u.progress s) (behind sheet h) here.eight_levels here.eight_places

    -- its block and the sum alone are written
    stepped_doubles : after_it.doubles
        ≡ with_block (layout sheet) (row s) (col s) (made_by v.heading v.doubles s) (sum_by v.heading v.doubles s) v.doubles
    unfolding stepped
    stepped_doubles =
        ap (λ (y : Layout). with_block y (row s) (col s) (made_by v.heading v.doubles s) (sum_by v.heading v.doubles s) v.doubles) same.same_layout

    -- its target, in the lower triangle
    left_of_lem : col s ≤ row s
    left_of_lem = (in_range (last sheet) s n).1

    above_last : row s ≤ last sheet
    above_last = (in_range (last sheet) s n).2

    -- what it makes is as long as its target
    size : length (made_by v.heading v.doubles s) ≡ sizes (layout sheet) (row s) (col s)
    size =
        made_length sheet loaded theta v same u.progress s n
        (ap (λ (x : List Float). length x) (working_is (layout sheet) v.heading v.doubles same.same_layout (row s) (col s))
        ∙ length_part (working_at (layout sheet) (row s) (col s)) (sizes (layout sheet) (row s) (col s)) v.doubles
        (omega (arith, room, working_inside (layout sheet) (row s) (col s) left_of_lem above_last)))

    -- what it wrote is what the order theorem's step makes
    same_block : (i j : ℕ) → j ≤ i → i ≤ last sheet
        → put (working_block v.heading v.doubles) (row s) (col s) (made (rules_here sheet loaded theta) s (state_of sheet loaded theta v u.progress)) i j
        ≡ working_block after_it.heading after_it.doubles i j
    same_block i j l m =
        ⊎_elim
        (λ e. ap₂ (λ (a b : ℕ). put (working_block v.heading v.doubles) (row s) (col s) now a b) e.0 e.1
        ∙ put_here (working_block v.heading v.doubles) (row s) (col s) now
        ∙ sym (made_same sheet loaded theta v same u.progress s n)
        ∙ sym (with_own (layout sheet) v.doubles room (row s) (col s) left_of_lem above_last (made_by v.heading v.doubles s) size (sum_by v.heading v.doubles s))
        ∙ ap₂ (λ (a b : ℕ). part (working_at (layout sheet) a b) (sizes (layout sheet) a b) new) (sym e.0) (sym e.1))
        (λ e. put_else (working_block v.heading v.doubles) (row s) (col s) now i j e.1
        ∙ working_is (layout sheet) v.heading v.doubles same.same_layout i j
        ∙ sym (with_other (layout sheet) v.doubles room (row s) (col s) left_of_lem above_last (made_by v.heading v.doubles s) size (sum_by v.heading v.doubles s) i j l m
        (λ x z. e.1 (sym x) (sym z))))
        (at i j (row s) (col s))
        ∙ sym (working_is (layout sheet) after_it.heading after_it.doubles stepped_layout i j
        ∙ ap (part (working_at (layout sheet) i j) (sizes (layout sheet) i j)) stepped_doubles)
      where
        now : List Float
        now = made (rules_here sheet loaded theta) s (state_of sheet loaded theta v u.progress)

        new : List Float
        new = with_block (layout sheet) (row s) (col s) (made_by v.heading v.doubles s) (sum_by v.heading v.doubles s) v.doubles

    -- so is the sum
    same_sum : summed (rules_here sheet loaded theta) s (state_of sheet loaded theta v u.progress) ≡ log_sum after_it.heading after_it.doubles
    same_sum =
        sym
        (ap₂ (λ (y : Layout) (x : List Float). get_or x (sum_at y) ieee.zero) stepped_layout stepped_doubles
        ∙ with_sum (layout sheet) v.doubles room (row s) (col s) left_of_lem above_last (made_by v.heading v.doubles s) size (sum_by v.heading v.doubles s)
        ∙ sum_same sheet loaded theta v same u.progress s n)

    -- where no pivot is refused, the update has come one step further
    moved_on : refused_now (rules_here sheet loaded theta) s (state_of sheet loaded theta v u.progress) ≡ none
        → Begun sheet loaded theta (join d s) (advanced u.progress s) after_it
    moved_on passes =
        record {
          theta_many = begun.theta_many;
          theta_finite = begun.theta_finite;
          theta_kept = ap (part (theta_at (layout sheet)) (last sheet)) stepped_doubles
              ∙ with_theta_lem (layout sheet) v.doubles room (row s) (col s) left_of_lem above_last (made_by v.heading v.doubles s) size (sum_by v.heading v.doubles s)
              ∙ begun.theta_kept;
          held = held_same (rules_here sheet loaded theta) (last sheet) (start_here sheet loaded theta)
              (moved (rules_here sheet loaded theta) s (state_of sheet loaded theta v u.progress)) (state_of sheet loaded theta after_it (advanced u.progress s))
              (λ i j l m. (sym (stage_advanced (last sheet) few u.progress u.stages s n i j l m), same_block i j l m)) same_sum
              (held_moved (rules_here sheet loaded theta) (last sheet) (start_here sheet loaded theta) (state_of sheet loaded theta v u.progress) begun.held s n ready passes);
          represents = represents_advanced (last sheet) few u.progress u.stages s n d begun.held.most begun.represents ready;
        }

    -- and the workspace stands as the page with the step in the set
    flattened : refused_now (rules_here sheet loaded theta) s (state_of sheet loaded theta v u.progress) ≡ none
        → Invariant sheet h w (book loaded theta (some (join d s))) after_it
    flattened passes =
        record {
          progress = advanced u.progress s;
          heading = stepped_heading;
          stages = length_advanced (last sheet) few u.progress u.stages s n;
          valid_progress_lem = valid_advanced (last sheet) few u.progress u.stages s n u.valid_progress_lem under_way_lem ready;
          many = ap (λ (x : List Float). length x) stepped_doubles
              ∙ with_length (layout sheet) v.doubles room (row s) (col s) left_of_lem above_last (made_by v.heading v.doubles s) size (sum_by v.heading v.doubles s)
              ∙ u.many;
          loaded = ap (take (loaded_length (layout sheet))) stepped_doubles
              ∙ with_loaded_lem (layout sheet) v.doubles room (row s) (col s) left_of_lem above_last (made_by v.heading v.doubles s) size (sum_by v.heading v.doubles s)
              ∙ u.loaded;
          unwritten = ap (drop (doubles_needed (layout sheet))) stepped_doubles
              ∙ with_behind (layout sheet) v.doubles room (row s) (col s) left_of_lem above_last (made_by v.heading v.doubles s) size (sum_by v.heading v.doubles s)
              ∙ u.unwritten;
          updating = (
            last_one (steps_left (last sheet) (join d s)) u.progress.left
                ((stays_valid (last sheet) u.progress u.valid_progress_lem).left
                ∙ sym (left_represents (last sheet) (stage_of u.progress) d begun.represents)
                ∙ one_left),
            moved_on passes,
          );
        }

    -- ---- a refused pivot: the working doubles are +0.0, and no update is under way
    stopped : Invariant sheet h w (book loaded theta none) (dropped v.heading v.doubles)
    stopped =
        record {
          progress = idle (last sheet);
          heading = ap₂ (λ (y : Layout) (x : List ℕ). heading_with x (idle y.k)) same.same_layout u.heading
              ∙ progress_stored (layout sheet) u.progress (idle (last sheet)) (behind sheet h);
          stages = length-replicate {A = ℕ} most_targets 0;
          valid_progress_lem = idle_valid (last sheet) few;
          many = ap (λ (y : Layout). length (cleared y v.doubles)) same.same_layout ∙ cleared_length (layout sheet) v.doubles room ∙ u.many;
          loaded = ap (λ (y : Layout). take (loaded_length (layout sheet)) (cleared y v.doubles)) same.same_layout
              ∙ cleared_loaded (layout sheet) v.doubles room ∙ u.loaded;
          unwritten = ap (λ (y : Layout). drop (doubles_needed (layout sheet)) (cleared y v.doubles)) same.same_layout
              ∙ cleared_behind (layout sheet) v.doubles room ∙ u.unwritten;
          updating = refl;
        }

    -- the Rust's order decides which of the two it is
    pub step_comes : Comes s (refused_in (rules_here sheet loaded theta) (last sheet) (start_here sheet loaded theta) s) (step_of v.heading v.doubles s)
    step_comes =
        let seen = seen_same (rules_here sheet loaded theta) (last sheet) (start_here sheet loaded theta) (state_of sheet loaded theta v u.progress) begun.held s n ready in
        subst (Comes s (refused_in (rules_here sheet loaded theta) (last sheet) (start_here sheet loaded theta) s))
        (sym (step_ready ∙ ap (λ (q : Option ℕ). on_pivot v.heading v.doubles q s) (refused_same sheet loaded theta v same u.progress s n ∙ seen)))
        (go (refused_in (rules_here sheet loaded theta) (last sheet) (start_here sheet loaded theta) s) seen)
      where
        go : (q : Option ℕ) → refused_now (rules_here sheet loaded theta) s (state_of sheet loaded theta v u.progress) ≡ q
            → Comes s q (on_pivot v.heading v.doubles q s)
        go none e = (refl, flattened e)
        go (some r) e = (refl, stopped)
