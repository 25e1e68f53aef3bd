-- What the looks answer, refusal by refusal.
use Prim.Native.Nat.{ℕ, ◌≤◌, ◌<◌}
use mathlib.Core.Path.{◌≡◌, refl, sym, ap, ◌∙◌}
use mathlib.Core.Bool.{Bool, true, false, not, ◌&&◌, ◌||◌}
use mathlib.Core.List.{List}
use mathlib.Core.Option.{Option, none, some}
use native.Mathlib.Omega.{arith}
use lib.Dec.{ltb, leb}
use lib.ListN.{length, get_or}
use lib.Ieee.{Float, nan}
use borrow.Author.Tests.{le-leb, lt-leb, lt-ltb, le-ltb}
use Rattle.storage.specs.Shape.{Shape, size_of}
use Rattle.storage.specs.Part.{part}
use Rattle.refusal.specs.declared.Refusal.{Refusal}
use Rattle.refusal.specs.declared.Numbers.{Numbers}
use Rattle.refusal.specs.Numbers.{refusal}
use Rattle.refusal.proofs.Meaning.{by_numbers, refusal_back}
use Rattle.layout.specs.declared.Layout.{Layout}
use Rattle.heading_format.specs.declared.Progress.{Progress}
use Rattle.layout.specs.Shapes.{pick, levels, shape, working_at, doubles_needed}
use Rattle.heading_format.specs.Heading.{layout_of, progress_of, entry_row, every, valid_layout, valid_progress, valid_heading, numbers_needed}
use Rattle.workspace.specs.Memory.{cell_of, working_block}
use Rattle.profile.specs.Deviance.{of_finished, log_determinant}
use Rattle.deviance.proofs.Finished.{finished, refused}
use Rattle.block_places.proofs.block_sizes.Sizes.{doubles_small}
use Rattle.deviance.specs.deviance_tail.Tail.{log_determinant_of}
use Rattle.block_places.specs.block_kinds.Rows.{rows_of}
use Rattle.views.specs.pivot_places.Pivots.{is_pivot, pivot_at}
use Rattle.views.specs.Views.{StepsMeaning, steps_meaning, ViewMeaning, view_meaning, value_meaning, steps_left_of, finished_view, determinant_of, pivot_of, pivot_view}
use Rattle.views.proofs.pivot_places.Places.{shape_is}
use Rattle.heading_format.specs.Parts.{sparse_at, diagonal_at, progress_at, heading_length}
use Rattle.std.specs.Prelude.{Result, Ok, Err, Option as RustOption, Some, None}

-- ---- 20 by the heading alone: more doubles than any workspace has are as good as those that it needs
enough : (a b c d e f g x z i : Bool) → (e ≡ true → x ≡ z) → (a && b && c && d && e && f && g && x && i) ≡ (a && b && c && d && e && f && g && z && i)
enough a b c d true f g x z i h = rw (h refl) refl
enough a b c d false f g x z i h = go (a && b && c && d)
  where
    go : (l : Bool) → (l && false && f && g && x && i) ≡ (l && false && f && g && z && i)
    go true = refl
    go false = refl

pub valid_heading_alone : (h : List ℕ) → valid_heading h 2199023255552 ≡ valid_heading h (doubles_needed (layout_of h))
unfolding valid_heading
valid_heading_alone h =
    let y : Layout = layout_of h in
    enough (leb heading_length (length h)) (leb (get_or h sparse_at 0) 1) (leb (get_or h diagonal_at 0) 1) (leb (get_or h progress_at 0) 2) (valid_layout y) (valid_progress y.k (progress_of h))
    (leb (numbers_needed y) (length h)) (leb (doubles_needed y) 2199023255552) (leb (doubles_needed y) (doubles_needed y))
    (not y.sparse || every (λ c. ltb (entry_row h c) (levels y 1)) (levels y 0))
    (λ ok. le-leb (doubles_needed y) 2199023255552 (omega (arith, doubles_small y ok)) ∙ sym (le-leb (doubles_needed y) (doubles_needed y) (omega arith)))

module _ (h : List ℕ) (b : Bool) (is_b : b ≡ valid_heading h 2199023255552) where
  pub no_heading : b ≡ false → Err (refusal 20 0 0) ≡ steps_left_of h
  unfolding steps_left_of
  no_heading e = rw (← valid_heading_alone h, ← is_b, e) refl

  pub steps : b ≡ true → (g : Progress) → g ≡ progress_of h → Ok g.left ≡ steps_left_of h
  unfolding steps_left_of
  steps e g q = rw (← valid_heading_alone h, ← is_b, e, q) refl

-- ---- a finished factor
module _ (h : List ℕ) (w : List Float) where
  -- a view is what is asked of a finished factor
  pub view_is : {A : Type 0} (v : Result A Refusal) → of_finished h (length w) v ≡ finished_view h w v
  unfolding finished_view
  view_is v = refl

  pub refused_view : {A : Type 0} {r : Refusal} (v : Result A Refusal) → ◌≡◌ {A = Result Layout Refusal} (Err r) (of_finished h (length w) (Ok (layout_of h))) → Err r ≡ finished_view h w v
  refused_view v e = refused h (length w) (layout_of h) v e ∙ view_is v

  module _ {y : Layout} (e : ◌≡◌ {A = Result Layout Refusal} (Ok y) (of_finished h (length w) (Ok (layout_of h)))) where
    pub determinant : {x : Float} → x ≡ log_determinant_of y w → Ok x ≡ determinant_of h w
    determinant q = ap Ok q ∙ finished h (length w) (layout_of h) (λ z. Ok (log_determinant_of z w)) e ∙ view_is (Ok (log_determinant h w))

    -- the pivot by the layout is the pivot of the workspace
    pub pivot_same : (j r : ℕ) {v : RustOption Float} → v ≡ pivot_view y w j r → Ok v ≡ pivot_of h w j r
    unfolding pivot_at
    pivot_same j r q =
        ap Ok q ∙ finished h (length w) (layout_of h) (λ z. Ok (pivot_view z w j r)) e
        ∙ ap (λ (s : Shape). of_finished h (length w) (Ok (pick (is_pivot (layout_of h) j r) (Some (cell_of s (part (working_at (layout_of h) j j) (size_of s) w) r r)) None))) (sym (shape_is (layout_of h) (entry_row h) j))
        ∙ view_is (Ok (pick (is_pivot (layout_of h) j r) (Some (cell_of (shape (layout_of h) (entry_row h) j j) (working_block h w j j) r r)) None))

module _ (y : Layout) (w : List Float) (j r : ℕ) where
  pub no_block : y.k < j → None ≡ pivot_view y w j r
  no_block h = rw (lt-leb j y.k h) refl

  module _ (there : j ≤ y.k) (n : ℕ) (is-n : n ≡ rows_of y j) where
    pub no_row : n ≤ r → None ≡ pivot_view y w j r
    no_row h = rw (le-leb j y.k there, le-ltb r (rows_of y j) (omega arith)) refl

    pub a_pivot : r < n → (v : Float) → v ≡ pivot_at y w j r → Some v ≡ pivot_view y w j r
    a_pivot h v e = rw (le-leb j y.k there, lt-ltb r (rows_of y j) (omega arith)) (ap Some e)

-- ---- the number of an answer: that of a refusal, and 0 of any other
numbers : ((steps_meaning (Err (refusal 20 0 0))).refusal.number ≡ 20)
    × ((steps_meaning (Ok 4)).refusal.number ≡ 0)
    × ((view_meaning (Err (refusal 25 0 0))).refusal.number ≡ 25)
    × ((view_meaning (Ok None)).refusal.number ≡ 0)
    × ((view_meaning (Ok (Some nan))).refusal.number ≡ 0)
numbers = (refl, refl, refl, refl, refl)

-- ---- what an answer means says which answer it is
abbrev steps_by : Option ℕ → Numbers → Result ℕ Refusal
steps_by (some n) f = Ok n
steps_by none f = Err (by_numbers f)

steps_back : (a : Result ℕ Refusal) → steps_by (steps_meaning a).steps (steps_meaning a).refusal ≡ a
steps_back (Ok n) = refl
steps_back (Err r) = ap Err (refusal_back r)

pub steps_meaning_injective : (a b : Result ℕ Refusal) → steps_meaning a ≡ steps_meaning b → a ≡ b
steps_meaning_injective a b e = sym (steps_back a) ∙ ap (λ (m : StepsMeaning). steps_by m.steps m.refusal) e ∙ steps_back b

abbrev view_by : Option Float → Bool → Numbers → Result (RustOption Float) Refusal
view_by (some v) accepted f = Ok (Some v)
view_by none true f = Ok None
view_by none false f = Err (by_numbers f)

view_back : (a : Result (RustOption Float) Refusal) → view_by (view_meaning a).value (view_meaning a).accepted (view_meaning a).refusal ≡ a
view_back (Ok (Some v)) = refl
view_back (Ok None) = refl
view_back (Err r) = ap Err (refusal_back r)

pub view_meaning_injective : (a b : Result (RustOption Float) Refusal) → view_meaning a ≡ view_meaning b → a ≡ b
view_meaning_injective a b e = sym (view_back a) ∙ ap (λ (m : ViewMeaning). view_by m.value m.accepted m.refusal) e ∙ view_back b

abbrev value_by : Option Float → Numbers → Result Float Refusal
value_by (some v) f = Ok v
value_by none f = Err (by_numbers f)

value_back : (a : Result Float Refusal) → value_by (value_meaning a).value (value_meaning a).refusal ≡ a
value_back (Ok v) = refl
value_back (Err r) = ap Err (refusal_back r)

pub value_meaning_injective : (a b : Result Float Refusal) → value_meaning a ≡ value_meaning b → a ≡ b
value_meaning_injective a b e = sym (value_back a) ∙ ap (λ (m : ViewMeaning). value_by m.value m.refusal) e ∙ value_back b
