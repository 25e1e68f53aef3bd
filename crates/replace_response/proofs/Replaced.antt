-- What `replace_response` leaves of a workspace, refusal by refusal.
use Prim.Native.Nat.{ℕ, ◌≤◌}
use mathlib.Core.Path.{◌≡◌, refl, sym, ap₂, subst, ◌∙◌}
use mathlib.Core.Bool.{true, false}
use mathlib.Core.List.{List}
use native.Mathlib.Omega.{arith}
use lib.ListN.{length}
use Rattle.std.specs.Prelude.{Ok, Err}
use lib.Ieee.{Float}
use Rattle.refusal.specs.declared.Refusal.{Refusal}
use Rattle.refusal.specs.Numbers.{refusal}
use Rattle.layout.specs.declared.Layout.{Layout}
use Rattle.layout.specs.Shapes.{loaded_length, sum_at, doubles_needed}
use Rattle.heading_format.specs.Heading.{layout_of, valid_layout, idle, valid_heading}
use Rattle.workspace.specs.Memory.{heading_with}
use Rattle.workspace.specs.Answers.{accept, unchanged, list_fault, unless_refused}
use Rattle.workspace.specs.Response.{Response, lists_of, response_lengths, Prescribed, responded, replace_of}
use Rattle.workspace.proofs.ListFaults.{no_fault}
use Rattle.heading_format.proofs.Fits.{fits}
use Rattle.replace_response.specs.write_rows.Strided.{response_rows}
use Rattle.replace_response.proofs.write_rows.Stored.{rows_stored}
use Rattle.heading_format.specs.Parts.{heading_length}

-- the loaded numbers lie within the doubles
loaded_below : (y : Layout) (n : ℕ) → doubles_needed y ≤ n → loaded_length y ≤ n
unfolding sum_at
loaded_below y n h = omega arith

-- ---- the outcome

module _ (h : List ℕ) (w : List Float) (r : Response) where
  -- 20
  pub not_valid_heading : valid_heading h (length w) ≡ false → unchanged h w (refusal 20 0 0) ≡ replace_of h w r
  unfolding replace_of
  not_valid_heading e = rw e refl

  -- the layout that was read, and the verdict on the lists
  module _ (ok : valid_heading h (length w) ≡ true) (y : Layout) (is : y ≡ layout_of h) where
    in_turn : replace_of h w r ≡ unless_refused (list_fault (response_lengths y) (lists_of r)) (unchanged h w) (responded h w r)
    unfolding replace_of
    in_turn = rw (ok, is) refl

    -- 13 and 14
    pub list_refused : {f : Refusal} → Err f ≡ list_fault (response_lengths y) (lists_of r) → unchanged h w f ≡ replace_of h w r
    list_refused e = sym (in_turn ∙ rw (← e) refl)

    module _ (fine : Ok tt ≡ list_fault (response_lengths y) (lists_of r)) where
      -- what is written to
      pub ready : (heading_length ≤ length h) × (valid_layout y ≡ true) × (loaded_length y ≤ length w) × Prescribed y r
      ready =
          let k = fits h (length w) ok in (
            k.long,
            rw is k.valid,
            rw is (loaded_below (layout_of h) (length w) k.room),
            (no_fault y r (sym fine)).0,
          )

      -- the response
      pub replaced : (h' : List ℕ) (w' : List Float) → (h' ≡ heading_with h (idle y.k)) × (w' ≡ response_rows y r w) → accept h' w' ≡ replace_of h w r
      unfolding responded
      replaced h' w' p =
          let k = fits h (length w) ok in
          ap₂ accept (rw is at p.0) (rw is at p.1 ∙ rows_stored h w r k.valid (loaded_below (layout_of h) (length w) k.room) (subst (λ (z : Layout). Prescribed z r) is ready.3))
          ∙ sym (in_turn ∙ rw (← fine) refl)
