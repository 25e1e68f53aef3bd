-- `profile_deviance` keeps a workspace in step with the book: it answers as on a freshly loaded one, and leaves a finished update or none.
use Prim.Native.Nat.{ℕ, suc}
use mathlib.Core.Path.{◌≡◌, refl, sym, ap, subst, ◌∙◌}
use mathlib.Core.Logic.{⊎_elim}
use mathlib.Core.Bool.{Bool, true, false, ◌||◌}
use mathlib.Core.List.{List, [], ◌++◌}
use mathlib.Core.Option.{Option, none, some}
use native.Mathlib.Omega.{arith}
use lib.Dec.{eqb}
use lib.ListN.{length}
use lib.Ieee.{Float}
use borrow.Author.Tests.{eqb-true}
use Rattle.step_order.specs.Steps.{Step, is_step, rust_order}
use Rattle.step_order.specs.Progress.{join_all}
use Rattle.step_order.proofs.Next.{rust_order_lem}
use Rattle.step_order.proofs.Theorems.{rust_complete}
use Rattle.rules.specs.Arithmetic.{ieee}
use Rattle.rules.specs.Finish.{deviance_of}
use Rattle.sheet.specs.Sheet.{Sheet}
use Rattle.refusal.specs.Numbers.{refusal, refuse}
use Rattle.layout.specs.declared.Layout.{Layout}
use Rattle.layout.specs.Shapes.{pick, last_shape}
use Rattle.heading_format.specs.Heading.{layout_of}
use Rattle.workspace.specs.Memory.{Workspace, cell_of, working_block, log_sum, zeros}
use Rattle.workspace.specs.Answers.{Outcome, first_infinite, unless_at}
use Rattle.workspace.specs.Load.{heading_of}
use Rattle.update.specs.Calls.{begin_of, run_of}
use Rattle.profile.specs.declared.Deviance.{Deviance}
use Rattle.profile.specs.declared.Deviance.TheVariants.{Value, Pivot, NoScale}
use Rattle.profile.specs.Deviance.{freedom, deviance_value, Profiled, after_steps, after_begin, profile_of}
use Rattle.book.specs.Calls.{Reply, plain, deviance, profile_deviance}
use Rattle.book.specs.Book.{Book, book, Entry, entry, nothing, layout, last, fresh, rust, after_all, with_done, with_theta}
use Rattle.book.specs.Values.{final_value, logs_after, refused_pivot}
use Rattle.demand3.proofs.invariant.Invariant.{Site, Invariant, Follows}
use Rattle.demand3.proofs.invariant.Site.{layout_of_lem, loaded_many}
use Rattle.demand3.proofs.invariant.Open.{fresh_site, fresh_invariant}
use Rattle.demand3.proofs.invariant.Begin.{begin_accepts, begin_invariant, begin_follows}
use Rattle.demand3.proofs.step_laws.Run.{Through, run_comes}
use Rattle.demand3.proofs.step_laws.Finished.{finished_factor, finished_sum, finished_none, finished_named}
use Rattle.demand3.proofs.step_laws.Rust.{answer_for, rust_answer}
use Rattle.std.specs.Prelude.{Result, Ok, Err}
use Rattle.refusal.specs.declared.Refusal.{Refusal}

-- ---- the value depends only on the layout, on block (k,k) and on the sum
abbrev value_by : Layout → List Float → Float → Bool → Deviance
value_by y block sum reml =
    let pivot : ℕ → Float = λ r. cell_of (last_shape y) block r r in
    let r2 = ieee.times (pivot y.p) (pivot y.p) in
    let d = freedom y reml in
    pick (ieee.refused r2 || ieee.refused d) NoScale (Value (deviance_of ieee reml d (ieee.over r2 d) (ieee.times ieee.two sum) pivot y.p))

-- it is that value
value_by_lem : (h : List ℕ) (w : List Float) (reml : Bool) → deviance_value h w reml ≡ value_by (layout_of h) (working_block h w (layout_of h).k (layout_of h).k) (log_sum h w) reml
unfolding deviance_value
value_by_lem h w reml = refl

-- the same, where layout, block and sum are known
value_of : (h : List ℕ) (w : List Float) (reml : Bool) (y : Layout) (block : List Float) (sum : Float) → layout_of h ≡ y → working_block h w y.k y.k ≡ block → log_sum h w ≡ sum
    → deviance_value h w reml ≡ value_by y block sum reml
value_of h w reml y block sum e f g =
    value_by_lem h w reml
    ∙ ap (λ (z : Layout). value_by z (working_block h w z.k z.k) (log_sum h w) reml) e
    ∙ ap (λ (x : List Float). value_by y x (log_sum h w) reml) f
    ∙ ap (λ (x : Float). value_by y block x reml) g

-- the set that an accepted call leaves, by the pivot that the Rust's order refuses
abbrev set_by : ℕ → Option (ℕ × ℕ) → Option (Step → Bool)
set_by k none = some (is_step k)
set_by k (some p) = none

-- the book has the same
set_by_lem : (sheet : Sheet) (q : Option (ℕ × ℕ)) → after_all sheet (answer_for q) ≡ set_by (last sheet) q
set_by_lem sheet none = refl
set_by_lem sheet (some p) = refl

module _ (sheet : Sheet) (loaded theta : List Float) (reml : Bool) where
  -- what the call answers, by that pivot
  abbrev answer_by : Option (ℕ × ℕ) → Result Deviance Refusal
  answer_by none = Ok (value_by (layout sheet) (final_value sheet loaded theta (last sheet) (last sheet)) (logs_after sheet loaded theta (suc (last sheet))) reml)
  answer_by (some p) = Ok (Pivot p.0 p.1)

-- once begin is accepted, the steps decide
after_begin_lem : (o : Outcome) (k : ℕ) (reml : Bool) → o.answer ≡ (Ok tt)
    → after_begin o.answer o k reml ≡ after_steps (run_of o.left (rust_order k)).answer (run_of o.left (rust_order k)) reml
after_begin_lem o k reml e = ap (λ (a : Result Unit Refusal). after_begin a o k reml) e

-- the call is begin, and what follows it
profile_begins : (h : List ℕ) (w theta : List Float) (reml : Bool) → profile_of h w theta reml ≡ after_begin (begin_of h w theta).answer (begin_of h w theta) (layout_of h).k reml
unfolding profile_of
profile_begins h w theta reml = refl

module _ (sheet : Sheet) (h : List ℕ) (w : List Float) (here : Site sheet h w) (b : Book) (v : Workspace) (stands : Invariant sheet h w b v) (theta : List Float) (reml : Bool)
    (many : length theta ≡ last sheet) (finite : first_infinite 0 theta ≡ none) where
  -- an accepted call, by the pivot
  abbrev Ends : Option (ℕ × ℕ) → Profiled → Type 0
  Ends q p = (p.answer ≡ answer_by sheet b.loaded theta reml q) × Invariant sheet h w (book b.loaded theta (set_by (last sheet) q)) p.left

  -- the steps of the Rust's order, from the begun update
  abbrev steps : Outcome
  steps = run_of (begin_of v.heading v.doubles theta).left (rust_order (last sheet))

  -- with all steps done it is the value of the final block and sum
  through_ends : Through sheet h w here b.loaded theta (join_all nothing (rust_order (last sheet))) steps → Ends none (after_steps (Ok tt) steps reml)
  through_ends t =
      let all : Step → Bool = join_all nothing (rust_order (last sheet)) in
      let zero_left = (rust_complete (last sheet)).1 in (
        ap Ok
            (value_of steps.left.heading steps.left.doubles reml (layout sheet) (final_value sheet b.loaded theta (last sheet) (last sheet))
            (logs_after sheet b.loaded theta (suc (last sheet)))
            (layout_of_lem sheet h w here (book b.loaded theta (some all)) steps.left t.stands)
            (finished_factor sheet h w b.loaded theta all steps.left t.stands zero_left (last sheet) (last sheet) (omega arith) (omega arith))
            (finished_sum sheet h w b.loaded theta all steps.left t.stands zero_left)),
        finished_named sheet h w b.loaded theta all steps.left t.stands zero_left,
      )

  -- to the end or to the refused pivot
  steps_end : Ends (refused_pivot sheet b.loaded theta) (after_steps steps.answer steps reml)
  steps_end =
      ⊎_elim
      (λ t. subst (λ (q : Option (ℕ × ℕ)). Ends q (after_steps steps.answer steps reml))
      (sym (finished_none sheet h w b.loaded theta (join_all nothing (rust_order (last sheet))) steps.left t.stands (rust_complete (last sheet)).1))
      (subst (λ (a : Result Unit Refusal). Ends none (after_steps a steps reml)) (sym t.answer) (through_ends t)))
      (λ t. subst (λ (q : Option (ℕ × ℕ)). Ends q (after_steps steps.answer steps reml)) (sym t.pivot)
      (subst (λ (a : Result Unit Refusal). Ends (some (t.block, t.row)) (after_steps a steps reml)) (sym t.answer) (refl, t.stands)))
      (run_comes sheet h w here b.loaded theta (rust_order (last sheet)) nothing (begin_of v.heading v.doubles theta).left
      (begin_invariant sheet h w here b v stands theta many finite) (rust_order_lem (last sheet)))

  -- the whole call
  profile_ends : Ends (refused_pivot sheet b.loaded theta) (profile_of v.heading v.doubles theta reml)
  profile_ends =
      subst (λ (p : Profiled). Ends (refused_pivot sheet b.loaded theta) p)
      (sym
      (profile_begins v.heading v.doubles theta reml
      ∙ ap (λ (y : Layout). after_begin (begin_of v.heading v.doubles theta).answer (begin_of v.heading v.doubles theta) y.k reml) (layout_of_lem sheet h w here b v stands)
      ∙ after_begin_lem (begin_of v.heading v.doubles theta) (last sheet) reml (begin_accepts sheet h w here b v stands theta many finite)))
      steps_end

-- the answer in a plain reply
abbrev answer_of : Reply → Result Unit Refusal
answer_of (plain a) = a
answer_of (deviance d) = Ok tt

module _ (sheet : Sheet) (h : List ℕ) (w : List Float) (here : Site sheet h w) (b : Book) (v : Workspace) (stands : Invariant sheet h w b v) (theta : List Float) (reml : Bool) where
  -- an answer against an entry of the book
  abbrev Met : Profiled → Entry → Type 0
  Met p e = (deviance p.answer ≡ e.reply) × Invariant sheet h w e.next p.left

  -- the book's entry where theta is not refused
  abbrev good : Entry
  good =
      entry (deviance (profile_of (heading_of sheet (layout sheet)) (b.loaded ++ zeros (layout sheet)) theta reml).answer)
      (book b.loaded theta (after_all sheet (rust sheet b.loaded theta).answer))

  -- an accepted call answers as on a freshly loaded workspace
  accepted : length theta ≡ last sheet → first_infinite 0 theta ≡ none → Met (profile_of v.heading v.doubles theta reml) good
  accepted many finite =
      let loaded-so = loaded_many sheet h w here b v stands in
      let mine = profile_ends sheet h w here b v stands theta reml many finite in
      let other =
      profile_ends sheet (heading_of sheet (layout sheet)) (b.loaded ++ zeros (layout sheet)) (fresh_site sheet h w here b.loaded loaded-so) (book b.loaded [] none)
      (fresh sheet b.loaded) (fresh_invariant sheet h w here b.loaded loaded-so) theta reml many finite in (
        ap deviance (mine.0 ∙ sym other.0),
        subst (λ (m : Option (Step → Bool)). Invariant sheet h w (book b.loaded theta m) (profile_of v.heading v.doubles theta reml).left)
            (sym (ap (after_all sheet) (rust_answer sheet h w here b.loaded theta loaded-so many finite) ∙ set_by_lem sheet (refused_pivot sheet b.loaded theta)))
            mine.1,
      )

  -- begin's refusal is the call's
  refused : (n a i : ℕ) → (begin_of v.heading v.doubles theta).answer ≡ refuse n a i → Invariant sheet h w b (begin_of v.heading v.doubles theta).left
      → Met (profile_of v.heading v.doubles theta reml) (entry (deviance (Err (refusal n a i))) b)
  refused n a i e u =
      subst (λ (p : Profiled). Met p (entry (deviance (Err (refusal n a i))) b))
      (sym
      (profile_begins v.heading v.doubles theta reml
      ∙ ap (λ (x : Result Unit Refusal). after_begin x (begin_of v.heading v.doubles theta) (layout_of v.heading).k reml) e))
      (refl, u)

  -- whatever the two tests of theta say
  answered : (c : Bool) (f : Option ℕ) → eqb (length theta) (last sheet) ≡ c → first_infinite 0 theta ≡ f
      → (plain (begin_of v.heading v.doubles theta).answer
      ≡ (pick c (unless_at f (λ i. entry (plain (refuse 14 0 i)) b) (entry (plain (Ok tt)) (with_done (some nothing) (with_theta theta b)))) (entry (plain (refuse 13 0 0)) b)).reply)
      × Invariant sheet h w
      (pick c (unless_at f (λ i. entry (plain (refuse 14 0 i)) b) (entry (plain (Ok tt)) (with_done (some nothing) (with_theta theta b)))) (entry (plain (refuse 13 0 0)) b)).next
      (begin_of v.heading v.doubles theta).left
      → Met (profile_of v.heading v.doubles theta reml)
      (pick c (unless_at f (λ i. entry (deviance (Err (refusal 14 0 i))) b) good) (entry (deviance (Err (refusal 13 0 0))) b))
  answered true none e g u = accepted (eqb-true (length theta) (last sheet) e) g
  answered true (some i) e g u = refused 14 0 i (ap answer_of u.0) u.1
  answered false f e g u = refused 13 0 0 (ap answer_of u.0) u.1

  -- refused or not, the call answers as the book does
  pub profile_follows : Follows sheet h w b v (profile_deviance theta reml)
  profile_follows =
      let began = begin_follows sheet h w here b v stands theta in
      let a = answered (eqb (length theta) (last sheet)) (first_infinite 0 theta) refl refl (began.reply, began.left) in
      record { reply = a.0; left = a.1 }
