-- v of a fixed row, as it stands where b will be.
use Prim.Native.Nat.{ℕ}
use mathlib.Core.Path.{◌≡◌, ap}
use mathlib.Core.List.{List}
use lib.ListN.{length}
use lib.Ieee.{Float}
use Rattle.layout.specs.declared.Layout.{Layout}
use Rattle.heading_format.specs.Fits.{Fits}
use Rattle.profile.specs.Solves.{scaled_row}
use Rattle.profile.specs.Finish.{in_sheet_order, v_of}
use Rattle.solution_vectors.proofs.Order.{order_length}
use Rattle.triangular_solves.proofs.scaled_row.Scaled.{row_sized}

abbrev pub vector : List ℕ → List Float → Layout → ℕ → List Float
vector h w y r = in_sheet_order y (scaled_row h w r) y.k

module _ (h : List ℕ) (w : List Float) (y : Layout) (fit : Fits y h (length w)) (r : ℕ) where
  pub vector_length : length (vector h w y r) ≡ y.q
  vector_length = order_length y fit.valid (scaled_row h w r) (row_sized h w y fit r)

  pub vector_is : vector h w y r ≡ v_of h w r
  unfolding v_of
  vector_is = ap (λ (z : Layout). in_sheet_order z (scaled_row h w r) z.k) fit.same
