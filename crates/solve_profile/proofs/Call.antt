-- The call's ways out, in document 01's order: 20, 25, 13, and the finish.
use Prim.Native.Nat.{ℕ}
use mathlib.Core.Path.{◌≡◌, refl, sym, ap, ◌∙◌}
use mathlib.Core.Bool.{Bool, true, false}
use mathlib.Core.List.{List}
use lib.ListN.{length}
use lib.Ieee.{Float}
use borrow.Author.Tests.{eq-eqb, ne_eqb}
use Rattle.std.specs.Prelude.{Result, Ok, Err}
use Rattle.layout.specs.declared.Layout.{Layout}
use Rattle.layout.specs.Shapes.{pick}
use Rattle.heading_format.specs.Heading.{layout_of, progress_of, valid_layout, valid_heading}
use Rattle.heading_format.specs.Fits.{Fits}
use Rattle.heading_format.proofs.Fits.{fits, read_fits}
use Rattle.refusal.specs.declared.Refusal.{Refusal}
use Rattle.refusal.specs.Numbers.{refusal}
use Rattle.refusal.proofs.Meaning.{differ}
use Rattle.profile.specs.declared.Solution.{Solution}
use Rattle.profile.specs.Deviance.{is_finished, of_finished}
use Rattle.profile.specs.Finish.{solve_of, result_length}
use Rattle.deviance.proofs.Finished.{valid}
use Rattle.solution_vectors.specs.result_places.Places.{result_length_of}
use Rattle.solution_vectors.proofs.result_places.Parts.{length_formula}
use Rattle.solution_finish.specs.Outcome.{finish_of}

module _ (h : List ℕ) (w : List Float) (reml : Bool) (out : List Float) where
  -- an answer and a list at exit are the definition's
  abbrev pub Is : Result Solution Refusal → List Float → Type 0
  Is s v = (s ≡ (solve_of h w reml out).answer) × (v ≡ (solve_of h w reml out).result)

  -- 20 and 25
  pub unfinished : {r : Refusal} {s : Result Solution Refusal} → s ≡ Err r → ◌≡◌ {A = Result Layout Refusal} (Err r) (of_finished h (length w) (Ok (layout_of h))) → Is s out
  unfolding solve_of
  unfinished {r} {s} q e = go (valid_heading h (length w)) (is_finished (progress_of h).state) refl refl e
    where
      go : (b c : Bool) → valid_heading h (length w) ≡ b → is_finished (progress_of h).state ≡ c
          → ◌≡◌ {A = Result Layout Refusal} (Err r) (pick b (pick c (Ok (layout_of h)) (Err (refusal 25 0 0))) (Err (refusal 20 0 0))) → Is s out
      go true true u t e = absurd (differ (sym e))
      go true false u t e = let z : r ≡ refusal 25 0 0 = cc in rw (u, t) (q ∙ ap Err z, refl)
      go false c u t e = let z : r ≡ refusal 20 0 0 = cc in rw u (q ∙ ap Err z, refl)

  module _ {y : Layout} (e : ◌≡◌ {A = Result Layout Refusal} (Ok y) (of_finished h (length w) (Ok (layout_of h)))) where
    is_valid : valid_heading h (length w) ≡ true
    is_valid = (valid h (length w) (layout_of h) e).0

    is_y : y ≡ layout_of h
    is_y = (valid h (length w) (layout_of h) e).1

    done : is_finished (progress_of h).state ≡ true
    done = go (valid_heading h (length w)) (is_finished (progress_of h).state) e
      where
        go : (b c : Bool) → ◌≡◌ {A = Result Layout Refusal} (Ok y) (pick b (pick c (Ok (layout_of h)) (Err (refusal 25 0 0))) (Err (refusal 20 0 0))) → c ≡ true
        go true true e = refl
        go true false e = absurd (differ e)
        go false true e = refl
        go false false e = absurd (differ e)

    -- what its parts need
    pub layout_valid : valid_layout y ≡ true
    layout_valid = rw is_y (fits h (length w) is_valid).valid

    pub workspace_fits : Fits y h (length w)
    workspace_fits = read_fits is_y (fits h (length w) is_valid)

    -- the length is asked for by places, and is document 01's formula
    formula : result_length_of y ≡ result_length (layout_of h)
    formula = length_formula y ∙ ap result_length is_y

    pub other_length : (n : ℕ) → n ≡ result_length_of y → (length out ≡ n → ⊥) → Is (Err (refusal 13 0 0)) out
    unfolding solve_of
    other_length n q o = rw (is_valid, done, ne_eqb (length out) (result_length (layout_of h)) (λ k. o (k ∙ sym formula ∙ sym q))) (refl, refl)

    pub finishes : (n : ℕ) → n ≡ result_length_of y → length out ≡ n → (s : Result Solution Refusal) (v : List Float)
        → (s ≡ (finish_of h w reml (result_length_of y)).answer) × (v ≡ (finish_of h w reml (result_length_of y)).result) → Is s v
    unfolding solve_of
    finishes n q o s v p = rw (is_valid, done, eq-eqb (length out) (result_length (layout_of h)) (o ∙ q ∙ formula), o ∙ q) p
