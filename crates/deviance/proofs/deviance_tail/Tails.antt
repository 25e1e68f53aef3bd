-- The deviance of a workspace by its layout, and where the pivots and the sum of a valid layout lie.
use Prim.Native.Nat.{ℕ, suc, ◌+◌, ◌≤◌, ◌<◌}
use mathlib.Core.Path.{◌≡◌, refl, sym, ap, ◌∙◌}
use mathlib.Core.Bool.{Bool, true, false, ◌||◌}
use mathlib.Core.List.{List}
use native.Mathlib.Omega.{arith}
use lib.ListN.{length, get_or}
use lib.Ieee.{Float, nan}
use borrow.Author.Tests.{eq-eqb}
use Rattle.storage.specs.Runs.{start, triangle}
use Rattle.storage.specs.Shape.{packed, size_of}
use Rattle.storage.specs.Part.{part}
use Rattle.storage.specs.Placed.{block_of, as_triangle}
use Rattle.storage.proofs.Starts.{start_below}
use Rattle.storage.proofs.Blocks.{cell_part}
use Rattle.rules.specs.Arithmetic.{ieee}
use Rattle.rules.specs.Finish.{deviance_of}
use Rattle.block_runs.proofs.blocks.Laws.{read_block, has_packed}
use Rattle.re_factor.specs.Factor.{pivot_at}
use Rattle.layout.specs.declared.Layout.{Layout}
use Rattle.layout.specs.Shapes.{pick, shape, sizes, working_at, sum_at, doubles_needed, last_rows, last_shape}
use Rattle.heading_format.specs.Heading.{layout_of, entry_row, valid_layout, valid_heading}
use Rattle.heading_format.proofs.Valid.{is_valid}
use Rattle.layout.proofs.Places.{working_inside}
use Rattle.block_places.proofs.block_sizes.Sizes.{doubles_small}
use Rattle.heading_format.proofs.Fits.{fits, room_of_lem, read_fits}
use Rattle.refusal.specs.declared.Refusal.{Refusal}
use Rattle.workspace.specs.Memory.{cell_of, working_block}
use Rattle.profile.specs.declared.Deviance.{Deviance}
use Rattle.profile.specs.declared.Deviance.TheVariants.{Value, NoScale}
use Rattle.profile.specs.Deviance.{of_finished, freedom, deviance_value, deviance_from_factor}
use Rattle.deviance.specs.deviance_tail.Tail.{pivot_of, log_determinant_of, deviance_with}
use Rattle.storage.proofs.Cells.{any_default}
use Rattle.heading_format.specs.Fits.{Room}
use Rattle.std.specs.Prelude.{Result, Ok}
use Rattle.deviance.proofs.Finished.{finished}

-- block k has the last block's shape
pub last_shape_lem : (y : Layout) (row : ℕ → ℕ) → shape y row y.k y.k ≡ last_shape y
unfolding shape
last_shape_lem y row = rw (eq-eqb y.k y.k refl) refl

-- it lies within the doubles
pub last_within : (y : Layout) (n : ℕ) → doubles_needed y ≤ n → working_at y y.k y.k + size_of (last_shape y) ≤ n
last_within y n h =
    let e : sizes y y.k y.k ≡ size_of (last_shape y) = ap size_of (last_shape_lem y (λ x. 0)) in
    omega (arith, working_inside y y.k y.k (omega arith) (omega arith))

-- the pivots of block k, by the layout
pub last_pivot : (h : List ℕ) (w : List Float) (r : ℕ) → pivot_of (layout_of h) w r ≡ cell_of (last_shape (layout_of h)) (working_block h w (layout_of h).k (layout_of h).k) r r
last_pivot h w r =
    let y : Layout = layout_of h in
    ap (λ (n : ℕ). cell_of (last_shape y) (part (working_at y y.k y.k) n w) r r) (ap size_of (sym (last_shape_lem y (entry_row h))))

-- the deviance where block k is read as a list of n doubles
abbrev outcome : Layout → ℕ → List Float → Float → Bool → Deviance
outcome y n w logdet reml =
    let pivot : ℕ → Float = λ r. cell_of (last_shape y) (part (working_at y y.k y.k) n w) r r in
    let r2 = ieee.times (pivot y.p) (pivot y.p) in
    let d = freedom y reml in
    pick (ieee.refused r2 || ieee.refused d) NoScale (Value (deviance_of ieee reml d (ieee.over r2 d) logdet pivot y.p))

-- THE TAIL: the deviance of a workspace is that of its layout, its doubles and its log determinant
pub tail_value : (h : List ℕ) (w : List Float) (reml : Bool) → deviance_with (layout_of h) w (log_determinant_of (layout_of h) w) reml ≡ deviance_value h w reml
unfolding deviance_with deviance_value
tail_value h w reml =
    let y : Layout = layout_of h in
    ap (λ (n : ℕ). outcome y n w (log_determinant_of y w) reml) (ap size_of (sym (last_shape_lem y (entry_row h))))

-- the value, from the pivots of a triangle of one row fewer
pub first_pivots : (y : Layout) (w : List Float) (at r : ℕ) → at ≡ working_at y y.k y.k → r < y.p → pivot_at (as_triangle (block_of at y.p y.p)) w r ≡ pivot_of y w r
first_pivots y w at r q h =
    cell_part ieee.zero (packed y.p) at w r r (has_packed y.p r r h (omega arith))
    ∙ ap (λ (x : ℕ). get_or w (x + (start triangle r + r)) ieee.zero) q
    ∙ sym (cell_part ieee.zero (last_shape y) (working_at y y.k y.k) w r r (has_packed (last_rows y) r r (omega arith) (omega arith)))

-- the tail's two ways out
module _ (y : Layout) (w : List Float) (logdet : Float) (reml : Bool) (x d : Float) (is_x : x ≡ pivot_of y w y.p) (is-d : d ≡ freedom y reml) where
  pub no_scale_lem : (ieee.refused (ieee.times x x) || ieee.refused d) ≡ true → NoScale ≡ deviance_with y w logdet reml
  unfolding deviance_with
  no_scale_lem t = rw (← is_x, ← is-d, t) refl

  pub scaled : (v : Float) → (ieee.refused (ieee.times x x) || ieee.refused d) ≡ false
      → v ≡ deviance_of ieee reml d (ieee.over (ieee.times x x) d) logdet (pivot_of y w) y.p → Value v ≡ deviance_with y w logdet reml
  unfolding deviance_with
  scaled v t e = rw (← is_x, ← is-d, t) (ap Value e)

-- ---- places
module _ (y : Layout) (n : ℕ) (ok : valid_layout y ≡ true) (room : doubles_needed y ≤ n) where
  -- few doubles, so that no place overflows
  pub few_effects : y.p ≤ 32
  few_effects = (is_valid y ok).effects.1

  -- the last pivot lies within the doubles, and far below 2 ^ 63
  pub last_place : (at s : ℕ) → at ≡ working_at y y.k y.k → s ≡ start triangle y.p → (at + s + y.p < n) × (at + s + y.p < 2199023255552)
  last_place at s e q =
      let a : start triangle y.p + suc y.p ≤ size_of (last_shape y) = start_below triangle y.p (last_rows y) (omega arith) in
      (omega (arith, last_within y n room), omega (arith, last_within y (doubles_needed y) (omega arith), doubles_small y ok))

  -- the first p rows of block k lie within the doubles
  pub first_rows : (at : ℕ) → at ≡ working_at y y.k y.k → at + size_of (packed y.p) ≤ n
  first_rows at e = omega (arith, last_within y n room, start_below triangle y.p (last_rows y) (omega arith))

pub pivot_read : (y : Layout) (w : List Float) → doubles_needed y ≤ length w → (at s : ℕ) → at ≡ working_at y y.k y.k → s ≡ start triangle y.p
    → get_or w (at + s + y.p) nan ≡ pivot_of y w y.p
pivot_read y w room at s e q =
    read_block (last_shape y) (working_at y y.k y.k) w y.p y.p (at + s + y.p) (has_packed (last_rows y) y.p y.p (omega arith) (omega arith)) (last_within y (length w) room) (omega arith)

pub sum_read : (y : Layout) (w : List Float) → doubles_needed y ≤ length w → (at : ℕ) → at ≡ sum_at y → ieee.times ieee.two (get_or w at nan) ≡ log_determinant_of y w
sum_read y w room at e =
    ap (ieee.times ieee.two) (ap (λ (i : ℕ). get_or w i nan) e ∙ any_default w (sum_at y) nan ieee.zero (omega arith))

-- ---- of a workspace
module _ (h : List ℕ) (w : List Float) (reml : Bool) where
  -- the tail of a finished factor is its deviance
  pub deviance_is : {y : Layout} {logdet : Float} {r : Deviance} → ◌≡◌ {A = Result Layout Refusal} (Ok y) (of_finished h (length w) (Ok (layout_of h)))
      → logdet ≡ log_determinant_of y w → r ≡ deviance_with y w logdet reml → Ok r ≡ deviance_from_factor h w reml
  unfolding deviance_from_factor
  deviance_is {y} e is-l is-r =
      ap Ok (is-r ∙ ap (λ (x : Float). deviance_with y w x reml) is-l)
      ∙ finished h (length w) (layout_of h) (λ z. Ok (deviance_with z w (log_determinant_of z w) reml)) e
      ∙ ap (λ (d : Deviance). of_finished h (length w) (Ok d)) (tail_value h w reml)

  -- what the calls on a workspace need
  pub workspace_fits : valid_heading h (length w) ≡ true → (y : Layout) → y ≡ layout_of h → Room y (length w)
  workspace_fits ok y e = room_of_lem (read_fits e (fits h (length w) ok))
