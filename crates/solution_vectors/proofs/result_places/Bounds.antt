-- The result list of a valid layout is short: no place in it is past what a word holds.
use Prim.Native.Nat.{ℕ, ◌+◌, ◌*◌, ◌≤◌}
use mathlib.Core.Path.{◌≡◌, refl}
use mathlib.Core.Bool.{true}
use native.Mathlib.Nat.{mul-le-mul}
use native.Mathlib.Omega.{arith}
use borrow.Author.Tests.{eq-eqb, ne_eqb}
use Rattle.storage.specs.Runs.{start, triangle}
use Rattle.storage.proofs.Starts.{start_triangle}
use Rattle.layout.specs.declared.Layout.{Layout}
use Rattle.layout.specs.Shapes.{levels, last_rows}
use Rattle.layout.proofs.Sums.{sum_small}
use Rattle.heading_format.specs.Heading.{valid_layout}
use Rattle.heading_format.proofs.Valid.{is_valid}
use Rattle.solution_vectors.specs.result_places.Places.{lx_at, w_at}

module _ (y : Layout) (ok : valid_layout y ≡ true) where
  pub few_effects : y.p ≤ 32
  few_effects = (is_valid y ok).effects.1

  pub few_rows : y.q ≤ 524280
  few_rows = omega (arith, (is_valid y ok).total, sum_small (levels y) 65535 y.k (λ j h. ((is_valid y ok).level j h).1), (is_valid y ok).blocks.1)

  pub few_cells : start triangle y.p ≤ 528
  few_cells =
      let h = few_effects in
      let g : last_rows y ≤ 33 = omega arith in
      omega (arith, start_triangle y.p, mul-le-mul h g)

  pub few_products : (r : ℕ) → r ≤ y.p → r * y.q ≤ 16776960
  few_products r h = let g : r ≤ 32 = omega (arith, few_effects) in omega (arith, mul-le-mul g few_rows)

-- where w of y starts, and w of a column
module _ (y : Layout) (r f t : ℕ) (e : f ≡ lx_at y) (g : t ≡ start triangle y.p) where
  pub at_response : r ≡ y.p → f + t ≡ w_at y r
  at_response h = rw (eq-eqb r y.p h, e, g) refl

  pub at_column : (r ≡ y.p → ⊥) → f + t + y.q + r * y.q ≡ w_at y r
  at_column h = rw (ne_eqb r y.p h, e, g) refl
