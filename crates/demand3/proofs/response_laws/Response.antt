-- A new response keeps a workspace in step with the book.
use Prim.Native.Nat.{ℕ, ◌≤◌}
use mathlib.Core.Path.{◌≡◌, refl, sym, ap, subst, ◌∙◌}
use mathlib.Core.Bool.{Bool, true, false}
use mathlib.Core.List.{List}
use mathlib.Core.Option.{none}
use native.Mathlib.Omega.{arith}
use lib.Dec.{eqb}
use lib.ListN.{length, take, length-replicate}
use lib.Ieee.{Float}
use Rattle.sheet.specs.Sheet.{Sheet}
use Rattle.layout.specs.declared.Layout.{Layout}
use Rattle.layout.specs.Shapes.{pick, loaded_length, doubles_needed}
use Rattle.heading_format.specs.Heading.{layout_of, valid_heading, idle}
use Rattle.heading_format.proofs.Valid.{is_valid}
use Rattle.heading_format.proofs.Heading.{progress_stored, idle_valid}
use Rattle.workspace.specs.Memory.{Workspace, heading_with}
use Rattle.workspace.specs.Answers.{Outcome, unchanged, list_fault, unless_refused}
use Rattle.workspace.specs.Load.{heading_of}
use Rattle.workspace.specs.Response.{Response, lists_of, response_lengths, responded, replace_of}
use Rattle.book.specs.Calls.{plain, replace_response}
use Rattle.book.specs.Book.{Book, Entry, layout, last, on_response, with_done, with_loaded}
use Rattle.demand3.proofs.frame.Response.{responded_length, responded_behind, responded_loaded}
use Rattle.demand3.proofs.invariant.Invariant.{behind, Site, Invariant, Follows}
use Rattle.demand3.proofs.invariant.Site.{loaded_within, heading_layout, layout_of_lem, valid_heading_of}
use Rattle.heading_format.specs.Parts.{most_targets}
use Rattle.std.specs.Prelude.{Result, Ok, Err}
use Rattle.refusal.specs.declared.Refusal.{Refusal}

-- what a new response comes to where 20 does not, with the prescribed lengths given
abbrev tested : List ℕ → List ℕ → List Float → Response → Outcome
tested prescribed h w r = unless_refused (list_fault prescribed (lists_of r)) (unchanged h w) (responded h w r)

-- where 20 does not come, it comes to that
replace_tested : (h : List ℕ) (w : List Float) (r : Response) → valid_heading h (length w) ≡ true → replace_of h w r ≡ tested (response_lengths (layout_of h)) h w r
unfolding replace_of
replace_tested h w r e = rw e

-- it is accepted, progress none, and no other number of the heading is new
responded_answer : (h : List ℕ) (w : List Float) (r : Response) → (responded h w r).answer ≡ (Ok tt)
unfolding responded
responded_answer h w r = refl

responded_heading : (h : List ℕ) (w : List Float) (r : Response) → (responded h w r).left.heading ≡ heading_with h (idle (layout_of h).k)
unfolding responded
responded_heading h w r = refl

module _ (sheet : Sheet) (h : List ℕ) (w : List Float) where
  -- an outcome and an entry of the book say the same
  abbrev Agree : Outcome → Entry → Type 0
  Agree o e = (plain o.answer ≡ e.reply) × Invariant sheet h w e.next o.left

  -- a test that both make
  agree_unless : (f : Result Unit Refusal) (bad : Refusal → Outcome) (good : Outcome) (bad' : Refusal → Entry) (good' : Entry) → ((r : Refusal) → Agree (bad r) (bad' r)) → Agree good good'
      → Agree (unless_refused f bad good) (unless_refused f bad' good')
  agree_unless (Ok tt) bad good bad' good' a b = b
  agree_unless (Err r) bad good bad' good' a b = a r

module _ (sheet : Sheet) (h : List ℕ) (w : List Float) (here : Site sheet h w) (b : Book) (v : Workspace) (stands : Invariant sheet h w b v) (r : Response) where
  -- its layout is the sheet's, and the loaded numbers are among its doubles
  same : layout_of v.heading ≡ layout sheet
  same = layout_of_lem sheet h w here b v stands

  room : loaded_length (layout_of v.heading) ≤ length v.doubles
  room = rw same (omega (arith, stands.many, here.doubles, loaded_within (layout sheet)))

  -- the loaded numbers are the book's, with the new response
  loaded_new : take (loaded_length (layout sheet)) (responded v.heading v.doubles r).left.doubles ≡ (responded (heading_of sheet (layout sheet)) b.loaded r).left.doubles
  loaded_new =
      ap (λ (y : Layout). take (loaded_length y) (responded v.heading v.doubles r).left.doubles) (sym same)
      ∙ responded_loaded v.heading v.doubles r room (heading_of sheet (layout sheet)) (heading_layout sheet here.eight_levels here.eight_places ∙ sym same)
      ∙ ap (λ (l : List Float). (responded (heading_of sheet (layout sheet)) l r).left.doubles)
      (ap (λ (y : Layout). take (loaded_length y) v.doubles) same ∙ stands.loaded)

  -- an accepted response leaves a workspace that stands as the book's next page
  response_invariant : Invariant sheet h w (with_done none (with_loaded (responded (heading_of sheet (layout sheet)) b.loaded r).left.doubles b)) (responded v.heading v.doubles r).left
  response_invariant =
      record {
        progress = idle (last sheet);
        heading =
            responded_heading v.heading v.doubles r
            ∙ ap (λ (y : Layout). heading_with v.heading (idle y.k)) same
            ∙ ap (λ (l : List ℕ). heading_with l (idle (last sheet))) stands.heading
            ∙ progress_stored (layout sheet) stands.progress (idle (last sheet)) (behind sheet h);
        stages = length-replicate {A = ℕ} most_targets 0;
        valid_progress_lem = idle_valid (last sheet) (is_valid (layout sheet) here.layout_valid).blocks.1;
        many = responded_length v.heading v.doubles r room ∙ stands.many;
        loaded = loaded_new;
        unwritten =
            responded_behind v.heading v.doubles r room (doubles_needed (layout sheet)) (rw same (loaded_within (layout sheet)))
            ∙ stands.unwritten;
        updating = refl;
      }

  -- past 20 the tests of both are the same, and so are their ends
  agrees : Agree sheet h w (tested (response_lengths (layout sheet)) v.heading v.doubles r) (on_response sheet r b)
  agrees = agree_unless sheet h w (list_fault (response_lengths (layout sheet)) (lists_of r)) _ _ _ _ (λ f. (refl, stands)) (ap plain (responded_answer v.heading v.doubles r), response_invariant)

  -- a new response answers as the book does, and leaves what the book's next page says
  pub response_follows : Follows sheet h w b v (replace_response r)
  response_follows =
      let a =
      subst (λ (o : Outcome). Agree sheet h w o (on_response sheet r b))
      (sym (replace_tested v.heading v.doubles r (valid_heading_of sheet h w here b v stands)
      ∙ ap (λ (y : Layout). tested (response_lengths y) v.heading v.doubles r) same))
      agrees in
      record { reply = a.0; left = a.1 }
