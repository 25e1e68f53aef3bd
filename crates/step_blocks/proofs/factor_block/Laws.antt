-- C(j) of a workspace out of what its parts do: the block, the answer, and the logarithms.
use Prim.Native.Nat.{ℕ, ◌≤◌, ◌<◌}
use mathlib.Core.Path.{◌≡◌, refl, sym, ap, ap₂, ◌∙◌}
use mathlib.Core.List.{List, [], ◌∷◌}
use mathlib.Core.Option.{none, some}
use native.Mathlib.Omega.{arith}
use lib.ListN.{length, get_or}
use lib.Ieee.{Float}
use Rattle.storage.specs.Shape.{Shape, packed, diagonal, size_of}
use Rattle.storage.specs.Part.{part, store}
use Rattle.storage.specs.declared.Block.{Block}
use Rattle.storage.specs.Placed.{Placed, Lies}
use Rattle.storage.proofs.Starts.{start_single}
use Rattle.storage.proofs.Parts.{length_store, part_same, store_behind}
use Rattle.storage.proofs.Blocks.{length_fill}
use Rattle.step_order.specs.Steps.{C}
use Rattle.rules.specs.Arithmetic.{ieee}
use Rattle.layout.specs.declared.Layout.{Layout}
use Rattle.layout.specs.declared.FactorKind.{FactorKind}
use Rattle.layout.specs.declared.FactorKind.TheVariants.{Diagonal, Packed}
use Rattle.layout.specs.Shapes.{factor_kind, shape, sizes, sum_at, doubles_needed}
use Rattle.heading_format.specs.Heading.{layout_of, entry_row}
use Rattle.heading_format.specs.Fits.{Fits}
use Rattle.layout.proofs.Places.{size_working, working_inside}
use Rattle.workspace.specs.Memory.{cell_of, log_sum}
use Rattle.block_places.specs.block_kinds.Rows.{rows_of}
use Rattle.block_places.specs.Working.{working, as_factor}
use Rattle.block_places.proofs.block_kinds.Shapes.{own_shape, packed_limit}
use Rattle.std.specs.Prelude.{Ok, Err}
use Rattle.re_lower.specs.declared.RefusedPivot.{RefusedPivot}
use Rattle.re_lower.specs.Lower.{Pivots, answer_of}
use Rattle.re_lower.proofs.Blocks.{accepted_none, refused_some, triangle_room, diagonal_room}
use Rattle.re_factor.specs.Factor.{pivot_at}
use Rattle.update.specs.Working.{refused_row, factored, logged, pivot_count}
use Rattle.update.specs.Calls.{made_by, sum_by, refused_by}
use Rattle.step_blocks.specs.factor_logs.Factors.{left_of, BlockFactored, sum_with, Factors}

-- ---- a factor's block b, and its doubles l
module _ (b : Block) (l : List Float) where
  -- what C leaves has room in it
  left_room : (d : FactorKind) (p : Pivots) → p ≡ answer_of (refused_row (as_factor d b).shape l) → length (left_of (as_factor d b).shape l p) ≤ size_of (as_factor d b).shape
  unfolding refused_row
  left_room Diagonal p e = omega (arith, start_single b.rows, diagonal_room (λ r. cell_of (diagonal b.rows) l r r) b.rows p e)
  left_room Packed p e = triangle_room (cell_of (packed b.rows) l) b.rows p e

  -- accepted, it is the factor
  left_factored : (d : FactorKind) → left_of (as_factor d b).shape l (Ok tt) ≡ factored (as_factor d b).shape l
  unfolding factored
  left_factored Diagonal = refl
  left_factored Packed = refl

  -- which has the block's length
  length_factored : (d : FactorKind) → length (factored (as_factor d b).shape l) ≡ size_of (as_factor d b).shape
  unfolding factored
  length_factored Diagonal = length_fill (diagonal b.rows) _
  length_factored Packed = length_fill (packed b.rows) _

rows_counted : (b : Block) (d : FactorKind) → pivot_count (as_factor d b).shape ≡ b.rows
rows_counted b Diagonal = refl
rows_counted b Packed = refl

-- ---- the workspace
module _ (h : List ℕ) (w : List Float) (y : Layout) (fit : Fits y h (length w)) (j : ℕ) (below : j ≤ y.k) where
  room : doubles_needed y ≤ length w
  room = fit.room

  -- its block, as it lies
  abbrev own : Placed
  own = as_factor (factor_kind y j) (working y j j)

  abbrev cells : List Float
  cells = part own.at (size_of own.shape) w

  is_shape : shape y (entry_row h) j j ≡ own.shape
  is_shape = own_shape y fit.valid (entry_row h) j below refl

  own_size : sizes y j j ≡ size_of own.shape
  own_size = sym (size_working y (entry_row h) j j) ∙ ap size_of is_shape

  -- it ends before the sum
  inside : Lies (sum_at y) own
  inside = omega (arith, own_size, working_inside y j j (omega arith) below)

  -- what the kernels ask
  pub limited : factor_kind y j ≡ Packed → rows_of y j ≤ 316
  limited e = packed_limit y fit.valid j below e

  pub first_diagonal : j ≡ 0 → factor_kind y j ≡ Diagonal
  first_diagonal e = rw e refl

  pub block_fits : Lies (length w) own
  block_fits = omega (arith, inside, room)

  -- ---- the definitions, by the block
  refused_is : refused_by h w (C j) ≡ refused_row own.shape cells
  unfolding refused_by
  refused_is = rw (← is_shape, fit.same) refl

  made_is : made_by h w (C j) ≡ factored own.shape cells
  unfolding made_by
  made_is = rw (← is_shape, fit.same) refl

  abbrev before : Float
  before = get_or w (sum_at y) ieee.zero

  -- the sum s with the logarithms of a factor f of shape b
  abbrev with_logs : Layout → Shape → Float → List Float → ℕ → Float
  with_logs z b s f m = sum_with z j s (λ i. cell_of b f i i) m

  sum_read : sum_by h w (C j) ≡ with_logs (layout_of h) (shape (layout_of h) (entry_row h) j j) (log_sum h w) (made_by h w (C j)) (pivot_count (shape (layout_of h) (entry_row h) j j))
  unfolding sum_by logged
  sum_read = refl

  sum_is : sum_by h w (C j) ≡ with_logs y own.shape before (factored own.shape cells) (rows_of y j)
  sum_is =
      sum_read
      ∙ ap (λ (z : Layout). with_logs z (shape z (entry_row h) j j) (get_or w (sum_at z) ieee.zero) (made_by h w (C j)) (pivot_count (shape z (entry_row h) j j))) (sym fit.same)
      ∙ ap (λ (s : Shape). with_logs y s before (made_by h w (C j)) (pivot_count s)) is_shape
      ∙ ap₂ (λ (f : List Float) (m : ℕ). with_logs y own.shape before f m) made_is (rows_counted (working y j j) (factor_kind y j))

  -- ---- what fit.same left
  module _ (w₁ : List Float) (p : Pivots) (f : BlockFactored own w w₁ p) where
    left_fits : length (left_of own.shape cells p) ≤ size_of own.shape
    left_fits = left_room (working y j j) cells (factor_kind y j) p f.answer

    length_same : length w₁ ≡ length w
    length_same = rw f.exit (length_store own.at (left_of own.shape cells p) w (omega (arith, left_fits, block_fits)))

    -- the sum has its room still, and the block
    pub still_fits : (sum_at y < length w₁) × Lies (length w₁) own
    still_fits = (omega (arith, length_same, room), omega (arith, length_same, block_fits))

    answered : p ≡ answer_of (refused_by h w (C j))
    answered = f.answer ∙ ap answer_of (sym refused_is)

    -- a pivot fit.same refused
    pub refused_left : (x : RefusedPivot) → p ≡ Err x → Factors y h w w₁ j (Err x)
    refused_left x e =
        let some_row : refused_by h w (C j) ≡ some x.row = refused_some (refused_by h w (C j)) x.row (sym e ∙ answered) in
        record {
          answer = sym e ∙ answered;
          accepted = λ q. absurd (let z : ◌≡◌ {A = ℕ} 0 1 = cc in omega arith);
          refused = λ q t. record {
            left = left_of own.shape cells p;
            fits = omega (arith, left_fits, own_size);
            stands = f.exit;
          };
        }

    -- none fit.same
    module _ (e : p ≡ Ok tt) where
      abbrev new : List Float
      new = factored own.shape cells

      new_length : length new ≡ size_of own.shape
      new_length = length_factored (working y j j) cells (factor_kind y j)

      made : w₁ ≡ store own.at new w
      made = f.exit ∙ ap (λ (x : Pivots). store own.at (left_of own.shape cells x) w) e ∙ ap (λ (l : List Float). store own.at l w) (left_factored (working y j j) cells (factor_kind y j))

      own_now : part own.at (size_of own.shape) w₁ ≡ new
      own_now = ap (part own.at (size_of own.shape)) made ∙ part_same own.at new w (omega (arith, new_length, block_fits)) (size_of own.shape) new_length

      sum_now : get_or w₁ (sum_at y) ieee.zero ≡ before
      sum_now = ap (λ (l : List Float). get_or l (sum_at y) ieee.zero) made ∙ store_behind own.at new w (omega (arith, new_length, block_fits)) ieee.zero (sum_at y) (omega (arith, new_length, inside))

      pub accepted_left : (w₂ : List Float) → w₂ ≡ store (sum_at y) (sum_with y j (get_or w₁ (sum_at y) ieee.zero) (pivot_at own w₁) (rows_of y j) ∷ []) w₁ → Factors y h w w₂ j (Ok tt)
      accepted_left w₂ s =
          let none_refused : refused_by h w (C j) ≡ none = accepted_none (refused_by h w (C j)) (sym e ∙ answered) in
          record {
            answer = sym e ∙ answered;
            accepted = λ q. s ∙ ap₂ (λ (x : Float) (l : List Float). store (sum_at y) (x ∷ []) l)
                (ap₂ (λ (x : Float) (l : List Float). with_logs y own.shape x l (rows_of y j)) sum_now own_now ∙ sym sum_is)
                (made ∙ ap (λ (l : List Float). store own.at l w) (sym made_is));
            refused = λ r q. absurd (let z : ◌≡◌ {A = ℕ} 0 1 = cc in omega arith);
          }
