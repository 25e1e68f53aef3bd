-- Any step keeps a workspace in step with the book, refused ones too.
use Prim.Native.Nat.{ℕ}
use mathlib.Core.Path.{◌≡◌, refl, sym, ap, subst, ◌∙◌}
use mathlib.Core.Bool.{Bool, true, false}
use mathlib.Core.List.{List}
use mathlib.Core.Option.{Option, none, some}
use lib.Dec.{eqb}
use lib.ListN.{length}
use lib.Ieee.{Float}
use Rattle.step_order.specs.Steps.{Step, is_step, forerunners}
use Rattle.step_order.specs.Progress.{all, done, steps_left, refused_in}
use Rattle.step_order.proofs.Sets.{named_iff, ready_after}
use Rattle.sheet.specs.Sheet.{Sheet}
use Rattle.refusal.specs.Numbers.{refuse}
use Rattle.layout.specs.declared.Layout.{Layout}
use Rattle.heading_format.specs.declared.Progress.{Progress}
use Rattle.heading_format.specs.declared.State.TheVariants.{UnderWay, Finished}
use Rattle.layout.specs.Shapes.{pick}
use Rattle.heading_format.specs.Heading.{layout_of, progress_of, stage_of, valid_heading}
use Rattle.workspace.specs.Memory.{Workspace}
use Rattle.workspace.specs.Answers.{Outcome, untouched}
use Rattle.update.specs.Calls.{is_under_way, on_pivot, refused_by, step_of}
use Rattle.book.specs.Calls.{step, plain}
use Rattle.book.specs.Book.{Book, book, Entry, entry, last, rust, in_step, on_ready, on_set}
use Rattle.book.specs.Values.{rules_here, start_here}
use Rattle.demand3.proofs.invariant.Invariant.{Site, Begun, Invariant, Follows}
use Rattle.demand3.proofs.invariant.Site.{layout_of_lem, progress_of_lem, valid_heading_of, loaded_many}
use Rattle.demand3.proofs.invariant.Step.{Comes, step_ready, step_comes}
use Rattle.heading_format.proofs.Valid.{same_bools}
use Rattle.demand3.proofs.step_laws.Rust.{answer_in, in_step_lem}
use Rattle.std.specs.Prelude.{Result}
use Rattle.refusal.specs.declared.Refusal.{Refusal}

-- what a step comes to where 20 does not, by the four tests that follow: under way, named, done, its forerunners done
abbrev tested : Workspace → Step → Bool → Bool → Bool → Bool → Outcome
tested v s under exists already forerun =
    pick under
    (pick exists
    (pick already (untouched v.heading v.doubles 23 0 0)
    (pick forerun (on_pivot v.heading v.doubles (refused_by v.heading v.doubles s) s) (untouched v.heading v.doubles 24 0 0)))
    (untouched v.heading v.doubles 21 0 0))
    (untouched v.heading v.doubles 22 0 0)

-- it comes to that
step_tested : (v : Workspace) (s : Step) (k : ℕ) (g : Progress) → valid_heading v.heading (length v.doubles) ≡ true → (layout_of v.heading).k ≡ k
    → progress_of v.heading ≡ g → step_of v.heading v.doubles s ≡ tested v s (is_under_way g.state) (is_step k s) (done (stage_of g) s) (all (done (stage_of g)) (forerunners s))
unfolding step_of
step_tested v s k g e f p =
    rw (e, f) (ap (λ (x : Progress). tested v s (is_under_way x.state) (is_step k s) (done (stage_of x) s) (all (done (stage_of x)) (forerunners s))) p)

-- an update is under way where a step is left
under_way_lem : (b : Bool) → is_under_way (pick b Finished UnderWay) ≡ pick b false true
under_way_lem true = refl
under_way_lem false = refl

module _ (sheet : Sheet) (h : List ℕ) (w : List Float) (here : Site sheet h w) (loaded theta : List Float) (v : Workspace) (s : Step) where
  -- an outcome against an entry of the book
  abbrev Met : Outcome → Entry → Type 0
  Met o e = (plain o.answer ≡ e.reply) × Invariant sheet h w e.next o.left

  -- a ready step, by the pivot that the Rust's order refuses in it
  ready_met : (d : Step → Bool) (r : Option ℕ) (o : Outcome) → Comes sheet h w here loaded theta d s r o → Met o (on_ready sheet (answer_in s r) s d (book loaded theta (some d)))
  ready_met d none o c = (ap plain c.0, c.1)
  ready_met d (some r) o c = (ap plain c.0, c.1)

  -- no update: 22
  met_none : Invariant sheet h w (book loaded theta none) v → Met (step_of v.heading v.doubles s) (on_set sheet s none (book loaded theta none))
  met_none u =
      let b : Book = book loaded theta none in
      subst (λ (o : Outcome). Met o (on_set sheet s none b))
      (sym
      (step_tested v s (last sheet) u.progress (valid_heading_of sheet h w here b v u) (ap (λ (y : Layout). y.k) (layout_of_lem sheet h w here b v u)) (progress_of_lem sheet h w here b v u)
      ∙ ap (λ (g : Progress). tested v s (is_under_way g.state) (is_step (last sheet) s) (done (stage_of u.progress) s) (all (done (stage_of u.progress)) (forerunners s))) u.updating))
      (refl, u)

  module _ (d : Step → Bool) (u : Invariant sheet h w (book loaded theta (some d)) v) where
    -- the book's page and the update on it
    abbrev page : Book
    page = book loaded theta (some d)

    begun : Begun sheet loaded theta d u.progress v
    begun = u.updating.1

    -- a ready step answers as the book does
    met_ready : is_step (last sheet) s ≡ true → d s ≡ false → all d (forerunners s) ≡ true
        → Met (on_pivot v.heading v.doubles (refused_by v.heading v.doubles s) s) (on_ready sheet (in_step sheet s (rust sheet loaded theta).answer) s d page)
    met_ready e f g =
        let n = (named_iff (last sheet) s).0 e in
        subst (λ (o : Outcome). Met o (on_ready sheet (in_step sheet s (rust sheet loaded theta).answer) s d page)) (step_ready sheet h w here loaded theta d v u s n f g)
        (subst (λ (a : Result Unit Refusal). Met (step_of v.heading v.doubles s) (on_ready sheet a s d page))
        (sym (in_step_lem sheet h w here loaded theta (loaded_many sheet h w here page v u) begun.theta_many begun.theta_finite s))
        (ready_met d (refused_in (rules_here sheet loaded theta) (last sheet) (start_here sheet loaded theta) s) (step_of v.heading v.doubles s)
        (step_comes sheet h w here loaded theta d v u s n f g)))

    -- of an undone step, the forerunners' test by the stages is that by the set
    forerun_same : is_step (last sheet) s ≡ true → d s ≡ false → all (done (stage_of u.progress)) (forerunners s) ≡ all d (forerunners s)
    forerun_same e f =
        let n = (named_iff (last sheet) s).0 e in
        let g = stage_of u.progress in
        let by-set = ready_after (last sheet) g begun.held.most d begun.represents s n in
        let by-stage = ready_after (last sheet) g begun.held.most (done g) (λ t m. refl) s n in
        same_bools (all (done g) (forerunners s)) (all d (forerunners s)) (λ x. (by-set.0 (by-stage.1 (sym (begun.represents s n) ∙ f, x))).1) (λ x. (by-stage.0 (by-set.1 (f, x))).1)

    -- whatever the tests say
    answered : (z exists already forerun : Bool) (by-stage by-stages : Bool) → is_step (last sheet) s ≡ exists → d s ≡ already → all d (forerunners s) ≡ forerun
        → (exists ≡ true → by-stage ≡ already) → (exists ≡ true → already ≡ false → by-stages ≡ forerun)
        → Met (tested v s (pick z false true) exists by-stage by-stages)
        (pick z (entry (plain (refuse 22 0 0)) page)
        (pick exists
        (pick already (entry (plain (refuse 23 0 0)) page)
        (pick forerun (on_ready sheet (in_step sheet s (rust sheet loaded theta).answer) s d page) (entry (plain (refuse 24 0 0)) page)))
        (entry (plain (refuse 21 0 0)) page)))
    answered true exists already forerun x y e f g p q = (refl, u)
    answered false false already forerun x y e f g p q = (refl, u)
    answered false true true forerun x y e f g p q = rw (p refl) (refl, u)
    answered false true false false x y e f g p q = rw (p refl, q refl refl) (refl, u)
    answered false true false true x y e f g p q = rw (p refl, q refl refl) (met_ready e f g)

    -- an update: the workspace's tests are the book's
    met_some : Met (step_of v.heading v.doubles s) (on_set sheet s (some d) page)
    met_some =
        let g = u.progress in
        subst (λ (o : Outcome). Met o (on_set sheet s (some d) page))
        (sym
        (step_tested v s (last sheet) g (valid_heading_of sheet h w here page v u) (ap (λ (y : Layout). y.k) (layout_of_lem sheet h w here page v u)) (progress_of_lem sheet h w here page v u)
        ∙ ap (λ (b : Bool). tested v s b (is_step (last sheet) s) (done (stage_of g) s) (all (done (stage_of g)) (forerunners s)))
        (ap is_under_way u.updating.0 ∙ under_way_lem (eqb (steps_left (last sheet) d) 0))))
        (answered (eqb (steps_left (last sheet) d) 0) (is_step (last sheet) s) (d s) (all d (forerunners s)) (done (stage_of g) s) (all (done (stage_of g)) (forerunners s)) refl refl refl
        (λ e. sym (begun.represents s ((named_iff (last sheet) s).0 e))) (λ e f. forerun_same e f))

  -- with an update or without one
  met : (m : Option (Step → Bool)) → Invariant sheet h w (book loaded theta m) v → Met (step_of v.heading v.doubles s) (on_set sheet s m (book loaded theta m))
  met none u = met_none u
  met (some d) u = met_some d u

module _ (sheet : Sheet) (h : List ℕ) (w : List Float) (here : Site sheet h w) (b : Book) (v : Workspace) (stands : Invariant sheet h w b v) (s : Step) where
  -- refused or not, a step answers as the book does
  pub step_follows : Follows sheet h w b v (step s)
  step_follows =
      let a = met sheet h w here b.loaded b.theta v s b.done stands in
      record { reply = a.0; left = a.1 }
