-- A block of the vector solved with its factor: what the kernels ask at the places of a layout, and that they make what is defined.
use Prim.Native.Nat.{ℕ, ◌+◌, ◌≤◌, ◌<◌}
use mathlib.Core.Path.{◌≡◌, sym, ap, ap₂, ◌∙◌}
use mathlib.Core.Bool.{true}
use mathlib.Core.List.{List}
use native.Mathlib.Omega.{arith}
use lib.ListN.{length}
use lib.Ieee.{Float}
use Rattle.storage.specs.Shape.{Shape, size_of}
use Rattle.storage.specs.Part.{part, store}
use Rattle.storage.specs.Placed.{Placed, Lies}
use Rattle.block_runs.specs.blocks.Blocks.{entry}
use Rattle.rules.specs.Arithmetic.{ieee}
use Rattle.rules.specs.Cholesky.{at}
use Rattle.layout.specs.declared.Layout.{Layout}
use Rattle.layout.specs.declared.FactorKind.{FactorKind}
use Rattle.layout.specs.declared.FactorKind.TheVariants.{Packed}
use Rattle.layout.specs.Shapes.{levels, factor_kind}
use Rattle.heading_format.specs.Heading.{valid_layout, entry_row}
use Rattle.heading_format.specs.Fits.{Fits}
use Rattle.workspace.specs.Memory.{working_block}
use Rattle.workspace.specs.Loaded.{row_start}
use Rattle.profile.specs.Solves.{factor_shape_of}
use Rattle.block_places.proofs.sheet_rows.AllRows.{rows_within}
use Rattle.block_places.specs.block_kinds.Rows.{rows_of}
use Rattle.block_places.specs.Working.{working, as_factor, placed}
use Rattle.block_places.proofs.block_kinds.Shapes.{rows_level, packed_limit}
use Rattle.block_places.proofs.Placing.{is_factor, lies}
use Rattle.solution_vectors.specs.Vectors.{with_block_at, block_at}

-- factor i of a workspace, by its kind, and block i of the vector at `from`, which starts at s of it
module _ (h : List ℕ) (w : List Float) (y : Layout) (fit : Fits y h (length w)) (i : ℕ) (g : i < y.k) (from s : ℕ) (e₁ : s ≡ row_start y i)
    {d : FactorKind} (t : factor_kind y i ≡ d) where
  ok : valid_layout y ≡ true
  ok = fit.valid

  is_own : placed y (entry_row h) i i ≡ as_factor d (working y i i)
  is_own = is_factor y (entry_row h) ok i (omega arith) t

  -- what the kernels ask
  pub divide_ready : (long : ℕ) → from + y.q ≤ long → (from + s + rows_of y i ≤ long) × Lies (length w) (as_factor d (working y i i))
  divide_ready long room = (omega (arith, rows_level y i g, rows_within y ok i g), lies y (entry_row h) fit.room (omega arith) (omega arith) is_own)

  pub solve_ready : d ≡ Packed → (long : ℕ) → from + y.q ≤ long → (rows_of y i ≤ 316) × (from + s + rows_of y i ≤ long) × Lies (length w) (as_factor d (working y i i))
  solve_ready q long room = let r = divide_ready long room in (packed_limit y ok i (omega arith) (t ∙ q), r.0, r.1)

  -- what they make, by any rule of a shape, a factor and a vector
  module _ (rule : Shape → List Float → (ℕ → Float) → List Float) (v : List Float) where
    abbrev by : Placed → ℕ → ℕ → List Float
    by p z n = store z (rule p.shape (part p.at (size_of p.shape) w) (entry z n v)) v

    pub solved_by : {v' : List Float} → v' ≡ by (as_factor d (working y i i)) (from + s) (rows_of y i) → v' ≡ with_block_at y from i (rule (factor_shape_of h w i) (working_block h w i i) (at ieee (block_at y from v i))) v
    solved_by q =
        q
        ∙ ap₂ (λ (x n : ℕ). by (as_factor d (working y i i)) (from + x) n) e₁ (rows_level y i g)
        ∙ ap (λ (p : Placed). by p (from + row_start y i) (levels y i)) (sym is_own)
        ∙ ap (λ (z : Layout). by (placed z (entry_row h) i i) (from + row_start y i) (levels y i)) fit.same
