-- Begin keeps a workspace in step with the book.
use Prim.Native.Nat.{ℕ, zero, suc, ◌+◌, ◌≤◌}
use mathlib.Core.Path.{◌≡◌, refl, sym, ap, ap₂, subst, ◌∙◌}
use mathlib.Core.Bool.{Bool, true, false}
use mathlib.Core.List.{List, ◌++◌}
use mathlib.Core.Option.{Option, none, some}
use native.Mathlib.Omega.{arith}
use lib.Dec.{eqb}
use lib.ListN.{length, get_or, take, drop, replicate, length-replicate}
use lib.Ieee.{Float}
use borrow.Author.Tests.{eqb-true, eq-eqb, ne_eqb}
use Rattle.storage.specs.Runs.{start, triangle}
use Rattle.storage.specs.Part.{part}
use Rattle.step_order.specs.Steps.{C}
use Rattle.step_order.specs.Progress.{join, steps_left, begun as begins}
use Rattle.step_order.proofs.Invariant.{held_begun, held_same}
use Rattle.step_order.proofs.Sets.{represents_begun, represents_same}
use Rattle.step_order.proofs.Left.{left_joins}
use Rattle.rules.specs.Arithmetic.{ieee}
use Rattle.sheet.specs.Sheet.{Sheet}
use Rattle.refusal.specs.Numbers.{refuse}
use Rattle.layout.specs.declared.Layout.{Layout}
use Rattle.heading_format.specs.declared.State.TheVariants.{UnderWay, Finished}
use Rattle.layout.specs.Shapes.{pick, loaded_length, theta_at, sum_at, doubles_needed}
use Rattle.heading_format.specs.Heading.{layout_of, stage_of, written, under_way}
use Rattle.heading_format.proofs.Valid.{is_valid}
use Rattle.heading_format.proofs.Heading.{layout_back, progress_stored, under_way_valid}
use Rattle.workspace.specs.Memory.{Workspace, working_block, log_sum, heading_with}
use Rattle.workspace.specs.Answers.{Outcome, untouched, first_infinite, unless_at}
use Rattle.update.specs.Calls.{begun, begin_of}
use Rattle.book.specs.Calls.{begin, plain}
use Rattle.book.specs.Book.{Book, book, Entry, layout, last, nothing, entry, on_begin, with_done, with_theta}
use Rattle.book.specs.Values.{rules_here, start_here}
use Rattle.demand3.proofs.frame.Begin.{begun_length, begun_block, begun_sum, begun_loaded, begun_theta, begun_behind}
use Rattle.demand3.proofs.same_rules.Same.{state_of, scaled_same}
use Rattle.demand3.proofs.invariant.Invariant.{Site, Begun, Invariant, Follows, behind}
use Rattle.demand3.proofs.invariant.Site.{layout_of_lem, valid_heading_of, alike}
use Rattle.demand3.proofs.invariant.Step.{working_is}
use Rattle.heading_format.specs.Parts.{most_targets}
use Rattle.std.specs.Prelude.{Ok}

-- past two tests and an index
goes : (a b : Bool) (f : Option ℕ) (bad : ℕ → Outcome) (o p q : Outcome) → a ≡ true → b ≡ true → f ≡ none → pick a (pick b (unless_at f bad o) p) q ≡ o
goes a b f bad o p q aa bb ff = rw (aa, bb, ff)

-- a list of zeros
zero_at : (n i : ℕ) → get_or {A = ℕ} (replicate n 0) i 0 ≡ 0
zero_at zero i = refl
zero_at (suc n) zero = refl
zero_at (suc n) (suc i) = zero_at n i

module _ (sheet : Sheet) (h : List ℕ) (w : List Float) (here : Site sheet h w) (b : Book) (v : Workspace) (s : Invariant sheet h w b v) (theta : List Float) where
  -- at most eight blocks, and doubles enough
  few : last sheet ≤ 8
  few = (is_valid (layout sheet) here.layout_valid).blocks.1

  -- its layout is the sheet's
  same : layout_of v.heading ≡ layout sheet
  same = layout_of_lem sheet h w here b v s

  room : doubles_needed (layout_of v.heading) ≤ length v.doubles
  room = subst (λ (y : Layout). doubles_needed y ≤ length v.doubles) (sym same) (omega (arith, here.doubles, s.many))

  -- with a theta that is not refused
  module _ (many : length theta ≡ last sheet) (finite : first_infinite 0 theta ≡ none) where
    fits : length theta ≡ (layout_of v.heading).k
    fits = many ∙ ap (λ (y : Layout). y.k) (sym same)

    -- it goes past 20, 13 and 14
    begins_so : begin_of v.heading v.doubles theta ≡ record { answer = Ok tt; left = begun v.heading v.doubles theta }
    unfolding begin_of
    begins_so = goes _ _ _ _ _ _ _ (valid_heading_of sheet h w here b v s) (eq-eqb (length theta) (layout_of v.heading).k fits) finite

    pub begin_accepts : (begin_of v.heading v.doubles theta).answer ≡ (Ok tt)
    begin_accepts = ap (λ (o : Outcome). o.answer) begins_so

    -- what it leaves
    abbrev after_it : Workspace
    after_it = begun v.heading v.doubles theta

    -- an update just begun for the old progress, and nothing else new in the heading
    begun_heading : after_it.heading ≡ written (layout sheet) (under_way (last sheet)) ++ behind sheet h
    unfolding begun
    begun_heading =
        ap₂ (λ (y : Layout) (x : List ℕ). heading_with x (under_way y.k)) same s.heading
        ∙ progress_stored (layout sheet) s.progress (under_way (last sheet)) (behind sheet h)

    begun_layout : layout_of after_it.heading ≡ layout sheet
    begun_layout = ap layout_of begun_heading ∙ layout_back (layout sheet) (under_way (last sheet)) (behind sheet h) here.eight_levels here.eight_places

    -- blocks, sum and stages are those of an update just begun
    same_block : (i j : ℕ) → j ≤ i → i ≤ last sheet → start_here sheet b.loaded theta i j ≡ working_block after_it.heading after_it.doubles i j
    same_block i j l m =
        sym
        (working_is (layout_of v.heading) after_it.heading after_it.doubles (begun_layout ∙ sym same) i j
        ∙ begun_block v.heading v.doubles theta room fits i j l (subst (λ (y : Layout). i ≤ y.k) (sym same) m)
        ∙ scaled_same sheet b.loaded theta v (alike sheet h w here b v s) (under_way (last sheet)) i j l m)

    same_sum : ieee.zero ≡ log_sum after_it.heading after_it.doubles
    same_sum =
        sym
        (ap (λ (y : Layout). get_or after_it.doubles (sum_at y) ieee.zero) (begun_layout ∙ sym same) ∙ begun_sum v.heading v.doubles theta room fits)

    same_stage : (i j : ℕ) → 0 ≡ stage_of (under_way (last sheet)) i j
    same_stage i j = sym (zero_at most_targets (start triangle i + j))

    -- so the order theorem's invariant begins to hold
    scaled_out : Begun sheet b.loaded theta nothing (under_way (last sheet)) after_it
    scaled_out =
        record {
          theta_many = many;
          theta_finite = finite;
          theta_kept = subst (λ (y : Layout). part (theta_at y) y.k after_it.doubles ≡ theta) same (begun_theta v.heading v.doubles theta room fits);
          held = held_same (rules_here sheet b.loaded theta) (last sheet) (start_here sheet b.loaded theta)
              (begins (rules_here sheet b.loaded theta) (start_here sheet b.loaded theta)) (state_of sheet b.loaded theta after_it (under_way (last sheet)))
              (λ i j l m. (same_stage i j, same_block i j l m)) same_sum
              (held_begun (rules_here sheet b.loaded theta) (last sheet) (start_here sheet b.loaded theta));
          represents = represents_same (last sheet) (λ i j. 0) (stage_of (under_way (last sheet))) nothing (λ i j l m. same_stage i j) (represents_begun (last sheet));
        }

    -- C(0) is left
    under_way_lem : UnderWay ≡ pick (eqb (steps_left (last sheet) nothing) 0) Finished UnderWay
    under_way_lem =
        let left : steps_left (last sheet) nothing ≡ suc (steps_left (last sheet) (join nothing (C 0))) = left_joins (last sheet) nothing (C 0) (omega arith) refl in
        sym (ap (λ (t : Bool). pick t Finished UnderWay) (ne_eqb (steps_left (last sheet) nothing) 0 (λ z. omega arith)))

    -- the workspace stands as the page with the empty set
    begun_invariant : Invariant sheet h w (with_done (some nothing) (with_theta theta b)) after_it
    begun_invariant =
        record {
          progress = under_way (last sheet);
          heading = begun_heading;
          stages = length-replicate {A = ℕ} most_targets 0;
          valid_progress_lem = under_way_valid (last sheet) few;
          many = begun_length v.heading v.doubles theta room fits ∙ s.many;
          loaded = subst (λ (y : Layout). take (loaded_length y) after_it.doubles ≡ take (loaded_length y) v.doubles) same (begun_loaded v.heading v.doubles theta room fits)
              ∙ s.loaded;
          unwritten = subst (λ (y : Layout). drop (doubles_needed y) after_it.doubles ≡ drop (doubles_needed y) v.doubles) same (begun_behind v.heading v.doubles theta room fits)
              ∙ s.unwritten;
          updating = (under_way_lem, scaled_out);
        }

    pub begin_invariant : Invariant sheet h w (with_done (some nothing) (with_theta theta b)) (begin_of v.heading v.doubles theta).left
    begin_invariant = subst (λ (o : Outcome). Invariant sheet h w (book b.loaded theta (some nothing)) o.left) (sym begins_so) begun_invariant

  -- an outcome against an entry of the book
  abbrev Met : Outcome → Entry → Type 0
  Met o e = (plain o.answer ≡ e.reply) × Invariant sheet h w e.next o.left

  -- whatever the two tests of theta say
  answered : (c : Bool) (f : Option ℕ) → eqb (length theta) (last sheet) ≡ c → first_infinite 0 theta ≡ f
      → Met (pick c (unless_at f (λ i. untouched v.heading v.doubles 14 0 i) (record { answer = Ok tt; left = begun v.heading v.doubles theta })) (untouched v.heading v.doubles 13 0 0))
      (pick c (unless_at f (λ i. entry (plain (refuse 14 0 i)) b) (entry (plain (Ok tt)) (with_done (some nothing) (with_theta theta b)))) (entry (plain (refuse 13 0 0)) b))
  answered true none e g = (refl, begun_invariant (eqb-true (length theta) (last sheet) e) g)
  answered true (some i) e g = (refl, s)
  answered false f e g = (refl, s)

  -- 20 does not come, and the number of blocks is the sheet's
  met : Met (begin_of v.heading v.doubles theta) (on_begin sheet theta b)
  unfolding begin_of
  met =
      subst (λ (o : Outcome). Met o (on_begin sheet theta b))
      (sym
      (ap₂ (λ (t : Bool) (k : ℕ). pick t (pick (eqb (length theta) k)
      (unless_at (first_infinite 0 theta) (λ i. untouched v.heading v.doubles 14 0 i) (record { answer = Ok tt; left = begun v.heading v.doubles theta }))
      (untouched v.heading v.doubles 13 0 0)) (untouched v.heading v.doubles 20 0 0))
      (valid_heading_of sheet h w here b v s) (ap (λ (y : Layout). y.k) same)))
      (answered (eqb (length theta) (last sheet)) (first_infinite 0 theta) refl refl)

  pub begin_follows : Follows sheet h w b v (begin theta)
  begin_follows = record { reply = met.0; left = met.1 }
