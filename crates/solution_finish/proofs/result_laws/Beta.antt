-- beta from the factor and the right side as they stand is the definition's.
use Prim.Native.Nat.{ℕ, ◌+◌, ◌≤◌, ◌<◌}
use mathlib.Core.Path.{◌≡◌, sym, ap, ◌∙◌}
use mathlib.Core.List.{List}
use mathlib.Core.Logic.{inr}
use native.Mathlib.Omega.{arith}
use lib.ListN.{length}
use lib.Ieee.{Float}
use Rattle.storage.specs.Runs.{start, triangle}
use Rattle.storage.specs.Shape.{packed, fill, cell}
use Rattle.storage.specs.Part.{part}
use Rattle.storage.proofs.Cells.{get_or_tab}
use Rattle.storage.proofs.Parts.{length_store, part_same, part_else}
use Rattle.storage.proofs.Blocks.{cell_fill, fill_packed}
use Rattle.rules.specs.Arithmetic.{ieee}
use Rattle.rules.specs.Sums.{dot}
use Rattle.rules.specs.Cholesky.{at, forward, rows, factor, cell_of as entry_of}
use Rattle.rules.specs.Solves.{backward}
use Rattle.re_lower.proofs.Laws.{forward_ext}
use Rattle.re_lower.proofs.Back.{length_backward, backward_ext}
use Rattle.block_runs.specs.blocks.Blocks.{block, entry}
use Rattle.re_factor.specs.Factor.{pivot_at}
use Rattle.block_runs.proofs.blocks.Laws.{has_packed}
use Rattle.rules.proofs.Exact.{dot_ext}
use Rattle.layout.specs.declared.Layout.{Layout}
use Rattle.heading_format.specs.Heading.{layout_of}
use Rattle.profile.specs.Finish.{flattened, fixed_triangle, fixed_factor, fixed_rhs, beta}
use Rattle.solution_finish.specs.l_x.Factor.{triangle_at}
use Rattle.solution_finish.specs.beta.Beta.{beta_of, Effects}
use Rattle.solution_vectors.specs.result_places.Places.{lx_at, result_length_of}
use Rattle.solution_finish.specs.result_laws.Ready.{Ready}
use Rattle.solution_finish.proofs.result_laws.Factor.{rows_flattened}

module _ (h : List ℕ) (w : List Float) (y : Layout) (e : y ≡ layout_of h) (v : List Float) (is : part (lx_at y) (start triangle y.p) v ≡ flattened (fixed_factor h w)) where
  abbrev xx : ℕ → ℕ → Float
  xx = fixed_triangle h w

  -- what stands in the place of L_X, as a packed block and by its cells
  stands : part (lx_at y) (start triangle y.p) v ≡ fill (packed y.p) (factor ieee xx y.p)
  unfolding fixed_factor
  stands =
      is ∙ ap (λ (z : Layout). flattened (rows ieee xx z.p)) (sym e) ∙ rows_flattened xx y.p ∙ sym (fill_packed y.p (factor ieee xx y.p))

  pub same_factor : (r x : ℕ) → r < y.p → x ≤ r → block (lx_at y) (packed y.p) v r x ≡ factor ieee xx y.p r x
  same_factor r x l m =
      ap (λ (z : List Float). cell ieee.zero (packed y.p) z r x) stands ∙ cell_fill ieee.zero (packed y.p) (factor ieee xx y.p) r x (has_packed y.p r x l m)

-- the pivots that stand there
pub same_pivots : (h : List ℕ) (w : List Float) (y : Layout) → y ≡ layout_of h → (v : List Float) → part (lx_at y) (start triangle y.p) v ≡ flattened (fixed_factor h w)
    → (r : ℕ) → r < y.p → pivot_at (triangle_at (lx_at y) y.p) v r ≡ entry_of ieee (fixed_factor h w) r r
unfolding fixed_factor
same_pivots h w y e v is r l = same_factor h w y e v is r r l (omega arith) ∙ ap (λ (z : Layout). entry_of ieee (rows ieee (fixed_triangle h w) z.p) r r) e

module _ (h : List ℕ) (w : List Float) (y : Layout) (e : y ≡ layout_of h) (v : List Float) (ready : Ready h w y v) where
  same_right : (x : ℕ) → x < y.p → entry 0 y.p v x ≡ fixed_rhs h w x
  same_right x l = ap (λ (z : List Float). at ieee z x) ready.right ∙ get_or_tab y.p (fixed_rhs h w) x ieee.zero l

  abbrev cells_same : (r x : ℕ) → r < y.p → x ≤ r → block (lx_at y) (packed y.p) v r x ≡ factor ieee (fixed_triangle h w) y.p r x
  cells_same = same_factor h w y e v ready.factor

  -- beta with the factor of p rows
  abbrev beta_with : ℕ → List Float
  beta_with p = let L = entry_of ieee (rows ieee (fixed_triangle h w) p) in backward ieee (at ieee (forward ieee (fixed_rhs h w) L p)) L p p

  is_beta : beta_of (lx_at y) y.p v ≡ beta h w
  unfolding beta fixed_factor
  is_beta =
      let L : ℕ → ℕ → Float = block (lx_at y) (packed y.p) v in
      let z : forward ieee (entry 0 y.p v) L y.p ≡ forward ieee (fixed_rhs h w) (factor ieee (fixed_triangle h w) y.p) y.p =
      forward_ext ieee (entry 0 y.p v) (fixed_rhs h w) L (factor ieee (fixed_triangle h w) y.p) y.p same_right cells_same in
      backward_ext ieee _ (at ieee (forward ieee (fixed_rhs h w) (factor ieee (fixed_triangle h w) y.p) y.p)) L (factor ieee (fixed_triangle h w) y.p) y.p y.p (omega arith) (λ x l. ap (λ (t : List Float). at ieee t x) z) cells_same
      ∙ ap (λ (t : Layout). beta_with t.p) e

  module _ (v' : List Float) (r : Float) (c : Effects (lx_at y) y.p v v' r) where
    many : length (beta_of (lx_at y) y.p v) ≡ y.p
    many = length_backward ieee _ _ y.p y.p

    room : 0 + length (beta_of (lx_at y) y.p v) ≤ length v
    room = omega (arith, many, ready.long)

    pub beta_long : length v' ≡ result_length_of y
    beta_long = ap length c.exit ∙ length_store 0 (beta_of (lx_at y) y.p v) v room ∙ ready.long

    pub beta_part : part 0 y.p v' ≡ beta h w
    beta_part = ap (part 0 y.p) c.exit ∙ part_same 0 (beta_of (lx_at y) y.p v) v room y.p many ∙ is_beta

    -- what lies behind beta stays
    pub beta_else : (off n : ℕ) → y.p ≤ off → part off n v' ≡ part off n v
    beta_else off n l = ap (part off n) c.exit ∙ part_else 0 (beta_of (lx_at y) y.p v) v room off n (inr (omega (arith, many)))

    pub beta_right : r ≡ dot ieee (at ieee (beta h w)) (fixed_rhs h w) y.p
    beta_right = c.answer ∙ dot_ext ieee _ (at ieee (beta h w)) _ (fixed_rhs h w) y.p (λ x l. ap (λ (z : List Float). at ieee z x) is_beta) same_right
