-- "any undone step whose forerunners are done is accepted unless it meets a refused pivot, and writes by its rule its own block, the progress and, where it
-- takes logarithms, their sum, nothing else; until the last step or a refused pivot some step is ready".
use Prim.Native.Nat.{ℕ, suc, ◌+◌, ◌≤◌, ◌<◌}
use mathlib.Core.Path.{◌≡◌, refl, sym, ap, subst, ◌∙◌}
use mathlib.Core.Bool.{Bool, true}
use mathlib.Core.List.{List, ◌++◌}
use mathlib.Core.Option.{Option, none, some}
use mathlib.Core.Logic.{by_cases}
use native.Mathlib.Decide.{dec_lt, ℕ_discrete}
use native.Mathlib.Omega.{arith}
use lib.Dec.{eqb}
use lib.ListN.{length, get_or, length-append}
use lib.Ieee.{Float}
use borrow.Author.Tests.{eq-eqb}
use Rattle.storage.specs.Part.{part}
use Rattle.storage.specs.Shape.{size_of}
use Rattle.storage.proofs.Parts.{take_store, drop_store, length_part}
use Rattle.step_order.specs.Steps.{Step, S, C, T, IsStep, row, col}
use Rattle.step_order.specs.Progress.{steps_left, refused_in}
use Rattle.step_order.proofs.Next.{some_next}
use Rattle.step_order.proofs.Refusal.{refused_below}
use Rattle.rules.specs.Arithmetic.{ieee}
use Rattle.sheet.specs.Sheet.{Sheet}
use Rattle.refusal.specs.Numbers.{refuse}
use Rattle.layout.specs.declared.Layout.{Layout}
use Rattle.heading_format.specs.declared.Progress.{Progress}
use Rattle.heading_format.specs.declared.State.TheVariants.{UnderWay}
use Rattle.layout.specs.Shapes.{shape, sizes, working_at, sum_at, doubles_needed}
use Rattle.heading_format.specs.Heading.{layout_of, progress_of, entry_row, written, progress_numbers}
use Rattle.heading_format.proofs.Valid.{is_valid}
use Rattle.heading_format.proofs.Heading.{length_written, layout_back, progress_back, progress_stored}
use Rattle.layout.proofs.Places.{size_working, working_inside}
use Rattle.workspace.specs.Memory.{Workspace, working_block, log_sum, heading_with}
use Rattle.workspace.specs.Answers.{Outcome}
use Rattle.update.specs.Working.{logged}
use Rattle.update.specs.Calls.{advanced, step_of, stepped, made_by, sum_by, refused_by, on_pivot}
use Rattle.book.specs.Book.{Book, book, layout, last, rust, in_step, book_state, with_done}
use Rattle.book.specs.Values.{rules_here, start_here, refused_pivot}
use Rattle.demand3.specs.Demand.{ReadyBy, TakesLogs, in_own_block, in_sum, Writes, AcceptedOr26, accepts, refuses, UnderWayClaim}
use Rattle.update.proofs.progress_laws.Kept.{numbers_many}
use Rattle.update.proofs.progress_laws.Moves.{length_advanced}
use Rattle.demand3.proofs.frame.Step.{with_block, with_length, with_own, with_sum, with_elsewhere}
use Rattle.demand3.proofs.same_rules.Same.{made_length}
use Rattle.demand3.proofs.invariant.Invariant.{behind, Site, Invariant}
use Rattle.demand3.proofs.invariant.Site.{layout_of_lem, progress_of_lem, alike, loaded_many}
use Rattle.demand3.proofs.invariant.Step.{Comes, step_ready, step_comes}
use Rattle.demand3.proofs.step_laws.Rust.{answer_for, answer_in, rust_answer, in_step_lem}
use Rattle.heading_format.specs.Parts.{progress_at, progress_end}
use Rattle.std.specs.Prelude.{Result, Ok, Err}
use Rattle.refusal.specs.declared.Refusal.{Refusal}

-- a row that is refused is no acceptance
refused_not : {X : Type 0} (n a b : ℕ) → refuse n a b ≡ (Ok tt) → X
refused_not n a b e = absurd (subst Is e tt)
  where
    Is : Result Unit Refusal → Type 0
    Is (Ok tt) = ⊥
    Is (Err r) = Unit

-- an accepted step met no refused pivot
pivot_none : (h : List ℕ) (w : List Float) (s : Step) (r : Option ℕ) → (on_pivot h w r s).answer ≡ (Ok tt) → r ≡ none
pivot_none h w s none e = refl
pivot_none h w s (some r) e = refused_not 26 (col s) r e

-- a step that takes no logarithms leaves their sum
keeps_sum : (h : List ℕ) (w : List Float) (s : Step) → IsStep (layout_of h).k s → (TakesLogs (layout_of h).k s → ⊥) → sum_by h w s ≡ log_sum h w
unfolding sum_by logged
keeps_sum h w (S i j x) n t = refl
keeps_sum h w (C j) n t = let e : j ≡ (layout_of h).k = last_one j (layout_of h).k n t in rw (eq-eqb j (layout_of h).k e) refl
  where
    last_one : (j k : ℕ) → j ≤ k → (j < k → ⊥) → j ≡ k
    last_one j k l t = by_cases (dec_lt j k) (λ a. absurd (t a)) (λ a. omega arith)
keeps_sum h w (T i j) n t = refl

-- a target is a block of the layout
in_layout : (k : ℕ) (s : Step) → IsStep k s → (col s ≤ row s) × (row s ≤ k)
in_layout k (S i j x) n = (n.1, n.2)
in_layout k (C j) n = (omega arith, n)
in_layout k (T i j) n = (omega (arith, n.0), n.1)

module _ (sheet : Sheet) (h : List ℕ) (w : List Float) (here : Site sheet h w) (b : Book) (v : Workspace) (stands : Invariant sheet h w b v) (s : Step) (n : IsStep (last sheet) s) where
  same : layout_of v.heading ≡ layout sheet
  same = layout_of_lem sheet h w here b v stands

  named_here : IsStep (layout_of v.heading).k s
  named_here = subst (λ (z : Layout). IsStep z.k s) (sym same) n

  inside : (col s ≤ row s) × (row s ≤ (layout_of v.heading).k)
  inside = in_layout (layout_of v.heading).k s named_here

  room : doubles_needed (layout_of v.heading) ≤ length v.doubles
  room = rw same (omega (arith, here.doubles, stands.many))

  size : length (made_by v.heading v.doubles s) ≡ sizes (layout_of v.heading) (row s) (col s)
  size =
      let y : Layout = layout_of v.heading in
      let long : length (working_block v.heading v.doubles (row s) (col s)) ≡ sizes (layout sheet) (row s) (col s) =
      ap (λ (m : ℕ). length (part (working_at y (row s) (col s)) m v.doubles)) (size_working y (entry_row v.heading) (row s) (col s))
      ∙ length_part (working_at y (row s) (col s)) (sizes y (row s) (col s)) v.doubles
      (omega (arith, working_inside y (row s) (col s) inside.0 inside.1, room))
      ∙ ap (λ (z : Layout). sizes z (row s) (col s)) same in
      made_length sheet b.loaded b.theta v (alike sheet h w here b v stands) stands.progress s n long ∙ ap (λ (z : Layout). sizes z (row s) (col s)) (sym same)

  -- the heading with another progress has the same layout
  module _ (g : Progress) where
    moved_heading : heading_with v.heading g ≡ written (layout sheet) g ++ behind sheet h
    moved_heading = ap (λ (x : List ℕ). heading_with x g) stands.heading ∙ progress_stored (layout sheet) stands.progress g (behind sheet h)

    moved_layout : layout_of (heading_with v.heading g) ≡ layout_of v.heading
    moved_layout = ap layout_of moved_heading ∙ layout_back (layout sheet) g (behind sheet h) here.eight_levels here.eight_places ∙ sym same

    long : progress_at + length (progress_numbers g) ≤ length v.heading
    long =
        omega (arith, numbers_many g, ap (λ (x : List ℕ). length x) stands.heading, length-append (written (layout sheet) stands.progress) (behind sheet h), length_written (layout sheet) stands.progress)

  -- what it writes
  pub stepped_writes : Writes v s (stepped v.heading v.doubles s)
  unfolding stepped
  stepped_writes =
      let y : Layout = layout_of v.heading in
      let g : Progress = advanced (progress_of v.heading) s in
      let made : List Float = made_by v.heading v.doubles s in
      let sum : Float = sum_by v.heading v.doubles s in
      let u : List Float = with_block y (row s) (col s) made sum v.doubles in
      let sums : get_or u (sum_at y) ieee.zero ≡ sum = with_sum y v.doubles room (row s) (col s) inside.0 inside.1 made size sum in
      record {
        block =
            ap (λ (z : Layout). part (working_at z (row s) (col s)) (size_of (shape z (entry_row (heading_with v.heading g)) (row s) (col s))) u) (moved_layout g)
            ∙ ap (λ (m : ℕ). part (working_at y (row s) (col s)) m u) (size_working y (entry_row (heading_with v.heading g)) (row s) (col s))
            ∙ with_own y v.doubles room (row s) (col s) inside.0 inside.1 made size sum;
        sum = sums;
        lengths = with_length y v.doubles room (row s) (col s) inside.0 inside.1 made size sum;
        elsewhere =
            λ i other.
            by_cases (ℕ_discrete i (sum_at y))
            (λ e. ap (λ (m : ℕ). get_or u m ieee.zero) e ∙ sums
            ∙ keeps_sum v.heading v.doubles s named_here (λ t. other (in_sum t e))
            ∙ ap (λ (m : ℕ). get_or v.doubles m ieee.zero) (sym e))
            (λ e. with_elsewhere y v.doubles room (row s) (col s) inside.0 inside.1 made size sum i (λ l m. other (in_own_block l m)) e);
        before_progress = take_store progress_at (progress_numbers g) v.heading (long g);
        behind_progress = drop_store progress_at (progress_numbers g) v.heading (long g) progress_end (omega (arith, numbers_many g));
        progress =
            let e = progress_of_lem sheet h w here b v stands in
            ap progress_of (moved_heading g)
            ∙ progress_back (layout sheet) g (behind sheet h)
            (length_advanced (last sheet) (is_valid (layout sheet) here.layout_valid).blocks.1 (progress_of v.heading) (ap (λ (x : Progress). length x.stages) e ∙ stands.stages) s n);
      }

-- ---- while an update is under way
module _ (sheet : Sheet) (h : List ℕ) (w : List Float) (here : Site sheet h w) (b : Book) (v : Workspace) (stands : Invariant sheet h w b v) (d : Step → Bool) (e : b.done ≡ some d) where
  -- the book with its set
  with_set : Invariant sheet h w (with_done (some d) b) v
  with_set = subst (λ (o : Option (Step → Bool)). Invariant sheet h w (book b.loaded b.theta o) v) e stands

  comes_answer : (s : Step) (r : Option ℕ) (o : Outcome) → Comes sheet h w here b.loaded b.theta d s r o → o.answer ≡ answer_in s r
  comes_answer s none o c = c.0
  comes_answer s (some r) o c = c.0

  ready_answers : (s : Step) → ReadyBy (last sheet) d s → (step_of v.heading v.doubles s).answer ≡ in_step sheet s (rust sheet b.loaded b.theta).answer
  ready_answers s r =
      let g = with_set.updating.1 in
      comes_answer s (refused_in (rules_here sheet b.loaded b.theta) (last sheet) (start_here sheet b.loaded b.theta) s) (step_of v.heading v.doubles s)
      (step_comes sheet h w here b.loaded b.theta d v with_set s r.exists r.undone r.forerun)
      ∙ sym (in_step_lem sheet h w here b.loaded b.theta (loaded_many sheet h w here b v stands) g.theta_many g.theta_finite s)

  ready_writes : (s : Step) → ReadyBy (last sheet) d s → (step_of v.heading v.doubles s).answer ≡ (Ok tt) → Writes v s (step_of v.heading v.doubles s).left
  ready_writes s r a =
      let t = step_ready sheet h w here b.loaded b.theta d v with_set s r.exists r.undone r.forerun in
      let q : refused_by v.heading v.doubles s ≡ none = pivot_none v.heading v.doubles s (refused_by v.heading v.doubles s) (ap (λ (o : Outcome). o.answer) (sym t) ∙ a) in
      let z : step_of v.heading v.doubles s ≡ on_pivot v.heading v.doubles none s = t ∙ ap (λ (x : Option ℕ). on_pivot v.heading v.doubles x s) q in
      subst (λ (o : Outcome). Writes v s o.left) (sym z) (stepped_writes sheet h w here b v stands s r.exists)

  -- the Rust's order answers accepted, or 26
  pub rust_answers : AcceptedOr26 (last sheet) (rust sheet b.loaded b.theta).answer
  rust_answers =
      let g = with_set.updating.1 in
      subst (AcceptedOr26 (last sheet)) (sym (rust_answer sheet h w here b.loaded b.theta (loaded_many sheet h w here b v stands) g.theta_many g.theta_finite))
      (for (refused_pivot sheet b.loaded b.theta) refl)
    where
      for : (q : Option (ℕ × ℕ)) → refused_pivot sheet b.loaded b.theta ≡ q → AcceptedOr26 (last sheet) (answer_for q)
      for none e = accepts refl
      for (some p) e = refuses p.0 p.1 (let l = refused_below (rules_here sheet b.loaded b.theta) (start_here sheet b.loaded b.theta) (suc (last sheet)) p e in omega arith) refl

  -- some step is left
  some_left : book_state sheet (some d) ≡ UnderWay → 0 < steps_left (last sheet) d
  some_left u =
      by_cases (dec_lt 0 (steps_left (last sheet) d)) (λ l. l)
      (λ l. let q : eqb (steps_left (last sheet) d) 0 ≡ true = eq-eqb (steps_left (last sheet) d) 0 (omega arith) in absurd (let z : ◌≡◌ {A = ℕ} 0 1 = cc in omega arith))

  pub under_way_lem : book_state sheet (some d) ≡ UnderWay → UnderWayClaim sheet b v d
  under_way_lem u =
      let x = some_next (last sheet) d (some_left u) in
      record {
        answers = ready_answers;
        writes = ready_writes;
        some_ready = (x.0, record { exists = x.1; undone = x.2; forerun = x.3 });
      }
