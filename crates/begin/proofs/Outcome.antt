-- What `begin` answers and leaves, refusal by refusal.
use Prim.Native.Nat.{ℕ, ◌≤◌}
use mathlib.Core.Path.{◌≡◌, refl, sym, ap, ap₂, ◌∙◌}
use mathlib.Core.Bool.{true, false}
use mathlib.Core.List.{List, [], ◌∷◌}
use mathlib.Core.Option.{Option, none, some}
use lib.ListN.{length}
use Rattle.std.specs.Prelude.{Result, Ok, Err}
use lib.Ieee.{Float}
use borrow.Author.Tests.{eq-eqb, ne_eqb}
use Rattle.refusal.specs.declared.Refusal.{Refusal}
use Rattle.refusal.specs.Numbers.{refusal, refuse}
use Rattle.refusal.proofs.Meaning.{differ}
use Rattle.storage.specs.Part.{store}
use Rattle.rules.specs.Arithmetic.{ieee}
use Rattle.layout.specs.declared.Layout.{Layout}
use Rattle.layout.specs.Shapes.{sum_at, theta_length}
use Rattle.heading_format.specs.Heading.{layout_of, entry_row, under_way, valid_heading}
use Rattle.workspace.specs.Memory.{heading_with}
use Rattle.workspace.specs.Answers.{workspace, accept, first_infinite, unless_at}
use Rattle.heading_format.proofs.Fits.{fits, read_fits, room_of_lem}
use Rattle.heading.specs.writer.Small.{SmallProgress}
use Rattle.heading.proofs.writer.Idle.{idle_small}
use Rattle.replace_response.specs.list_faults.Words.{words_fault}
use Rattle.update.specs.Calls.{begun, begin_of}
use Rattle.begin.specs.write_begin.Begun.{DoublesBegun}
use Rattle.begin.proofs.write_begin.Stored.{blocks_stored}
use Rattle.heading_format.specs.Parts.{heading_length}
use Rattle.heading_format.specs.Fits.{Room}

-- ---- an update just begun fits the heading

pub under_way_small : (k : ℕ) → k ≤ 8 → SmallProgress (under_way k)
under_way_small k h = let i = idle_small k h in record { left = i.left; stages = i.stages }

-- ---- the outcome

module _ (h : List ℕ) (w theta : List Float) where
  -- 20
  pub not_valid_heading : valid_heading h (length w) ≡ false → record { answer = Err (refusal 20 0 0); left = workspace h w } ≡ begin_of h w theta
  unfolding begin_of
  not_valid_heading e = rw e refl

  -- the layout that was read
  module _ (ok : valid_heading h (length w) ≡ true) (y : Layout) (is : y ≡ layout_of h) where
    -- 13
    pub wrong_length : (length theta ≡ y.k → ⊥) → record { answer = Err (refusal 13 0 0); left = workspace h w } ≡ begin_of h w theta
    unfolding begin_of
    wrong_length n = rw (ok, ne_eqb (length theta) (layout_of h).k (λ e. n (e ∙ ap (λ (z : Layout). z.k) (sym is)))) refl

    module _ (long : length theta ≡ y.k) where
      same_long : length theta ≡ (layout_of h).k
      same_long = long ∙ ap (λ (z : Layout). z.k) is

      -- 14
      pub not_finite : {f : Refusal} → Err f ≡ words_fault 0 theta → record { answer = Err f; left = workspace h w } ≡ begin_of h w theta
      unfolding begin_of
      not_finite {f} v = go (first_infinite 0 theta) refl v
        where
          go : (o : Option ℕ) → first_infinite 0 theta ≡ o → ◌≡◌ {A = Result Unit Refusal} (Err f) (unless_at o (λ a. refuse 14 0 a) (Ok tt)) → record { answer = Err f; left = workspace h w } ≡ begin_of h w theta
          go none e v = absurd (differ (sym v))
          go (some i) e v = let q : f ≡ refusal 14 0 i = cc in rw (ok, eq-eqb (length theta) (layout_of h).k same_long, e, q) refl

      finite : Ok tt ≡ words_fault 0 theta → first_infinite 0 theta ≡ none
      finite v = go (first_infinite 0 theta) refl v
        where
          go : (o : Option ℕ) → first_infinite 0 theta ≡ o → ◌≡◌ {A = Result Unit Refusal} (Ok tt) (unless_at o (λ a. refuse 14 0 a) (Ok tt)) → first_infinite 0 theta ≡ none
          go none e v = e
          go (some i) e v = absurd (differ v)

      -- what is written to
      pub ready : (heading_length ≤ length h) × Room y (length w) × (length theta ≡ theta_length y)
      ready = let k = read_fits is (fits h (length w) ok) in (k.long, room_of_lem k, long)

      -- begun
      pub accepted : Ok tt ≡ words_fault 0 theta → (h' : List ℕ) (w' : List Float) → (h' ≡ heading_with h (under_way y.k)) × DoublesBegun y theta w w'
          → accept h' w' ≡ begin_of h w theta
      unfolding begin_of
      accepted v h' w' p =
          let e = finite v in
          let d : DoublesBegun (layout_of h) theta w w' = rw is at p.1 in
          let left : w' ≡ (begun h w theta).doubles =
          d (entry_row h)
          ∙ ap (store (sum_at (layout_of h)) (ieee.zero ∷ [])) (sym (blocks_stored h w theta (fits h (length w) ok).room same_long)) in
          ap₂ accept (p.0 ∙ ap (λ (z : Layout). heading_with h (under_way z.k)) is) left
          ∙ rw (ok, eq-eqb (length theta) (layout_of h).k same_long, e) refl
