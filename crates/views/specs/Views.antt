-- What a caller may look at (document 01, Record 5, "Refused because of the state"): the steps left, the log determinant, a pivot. 20 where the numbers
-- and doubles are no workspace, 25 where the factor is not finished.
use Rattle.std.specs.Prelude.{ℕ, Bool, true, false, List, length, Float, Result, Ok, Err, Option as RustOption, Some, None}
use Rattle.std.proofs.Math.Option.{Option, none, some}
use Rattle.refusal.specs.declared.Refusal.{Refusal}
use Rattle.refusal.specs.declared.Numbers.{Numbers}
use Rattle.refusal.specs.Numbers.{numbers_of, refusal, no_refusal}
use Rattle.layout.specs.declared.Layout.{Layout}
use Rattle.layout.specs.Shapes.{pick, shape, doubles_needed}
use Rattle.heading_format.specs.Heading.{layout_of, progress_of, entry_row, valid_heading}
use Rattle.workspace.specs.Memory.{cell_of, working_block}
use Rattle.profile.specs.Deviance.{is_finished, log_determinant}
use Rattle.views.specs.pivot_places.Pivots.{is_pivot, pivot_at}

-- WHAT AN ANSWER MEANS (document 01: "That definition gives this paper's number and values for each of the enum's cases"): number and places, 0 where it is none
-- of its refusals, and the number of steps, or the double where there is one of that name.
pub record StepsMeaning : Type 0 where
  pub refusal : Numbers
  pub steps : Option ℕ

abbrev pub steps_meaning : Result ℕ Refusal → StepsMeaning
steps_meaning (Ok n) = record { refusal = no_refusal; steps = some n }
steps_meaning (Err r) = record { refusal = numbers_of r; steps = none }

pub record ViewMeaning : Type 0 where
  pub accepted : Bool
  pub refusal : Numbers
  pub value : Option Float

abbrev pub view_meaning : Result (RustOption Float) Refusal → ViewMeaning
view_meaning (Ok (Some v)) = record { accepted = true; refusal = no_refusal; value = some v }
view_meaning (Ok None) = record { accepted = true; refusal = no_refusal; value = none }
view_meaning (Err r) = record { accepted = false; refusal = numbers_of r; value = none }

abbrev pub value_meaning : Result Float Refusal → ViewMeaning
value_meaning (Ok v) = view_meaning (Ok (Some v))
value_meaning (Err r) = view_meaning (Err r)

-- the steps left (Record 5), with none all of them: 20 by the heading alone, with as many doubles as it says
unfoldable pub steps_left_of : List ℕ → Result ℕ Refusal
unfolding valid_heading
steps_left_of h = pick (valid_heading h (doubles_needed (layout_of h))) (Ok (progress_of h).left) (Err (refusal 20 0 0))

-- a look at a finished factor: 20, 25
unfoldable pub finished_view : {A : Type 0} → List ℕ → List Float → Result A Refusal → Result A Refusal
unfolding valid_heading
finished_view h w v =
    pick (valid_heading h (length w)) (pick (is_finished (progress_of h).state) v (Err (refusal 25 0 0))) (Err (refusal 20 0 0))

-- the log determinant
abbrev pub determinant_of : List ℕ → List Float → Result Float Refusal
determinant_of h w = finished_view h w (Ok (log_determinant h w))

-- pivot r of block j: absent where there is no block j, or where it has no row r
abbrev pub pivot_of : List ℕ → List Float → ℕ → ℕ → Result (RustOption Float) Refusal
pivot_of h w j r =
    finished_view h w
    (Ok (pick (is_pivot (layout_of h) j r) (Some (cell_of (shape (layout_of h) (entry_row h) j j) (working_block h w j j) r r)) None))

-- pivot r of block j by the layout alone, or that there is none
abbrev pub pivot_view : Layout → List Float → ℕ → ℕ → RustOption Float
pivot_view y w j r = pick (is_pivot y j r) (Some (pivot_at y w j r)) None
