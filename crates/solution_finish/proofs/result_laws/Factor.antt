-- The factor of X'X - V'W: what stands in the place of L_X is the definition's, and so is the refused row.
use Prim.Native.Nat.{ℕ, zero, suc, ◌+◌, ◌≤◌, ◌<◌}
use mathlib.Core.Path.{◌≡◌, refl, sym, ap, ap₂, subst, ◌∙◌}
use mathlib.Core.Bool.{false}
use mathlib.Core.List.{List, [], ◌∷◌, ◌++◌}
use mathlib.Core.Logic.{inl, inr}
use mathlib.Core.Option.{none}
use native.Mathlib.Omega.{arith}
use lib.ListN.{length}
use lib.Ieee.{Float, binary64}
use lib.Ieee.Fits.{sub-fits}
use Rattle.storage.specs.Runs.{start, triangle, tab, cells}
use Rattle.storage.specs.Shape.{packed, size_of, fill, cell}
use Rattle.storage.specs.Part.{part, store}
use Rattle.storage.proofs.Parts.{length_store, part_same, part_else}
use Rattle.storage.proofs.Blocks.{length_fill, cell_fill, fill_packed}
use Rattle.rules.specs.Arithmetic.{ieee}
use Rattle.rules.specs.Cholesky.{at, rows, factor, radicand, left_of_pivot, row_of, finish_pivots, cell_of as entry_of}
use Rattle.rules.proofs.Rows.{chain_ext}
use Rattle.re_lower.proofs.Laws.{forward_ext, rows_grow}
use Rattle.block_runs.specs.blocks.Blocks.{block}
use Rattle.block_runs.proofs.blocks.Laws.{has_packed}
use Rattle.layout.specs.declared.Layout.{Layout}
use Rattle.heading_format.specs.Heading.{layout_of}
use Rattle.profile.specs.Finish.{flattened, fixed_triangle, fixed_factor, refused_row, fixed_rhs}
use Rattle.solution_finish.specs.l_x.Factor.{triangle_at, not_above}
use Rattle.solution_finish.proofs.l_x.Finish.{first_same, pivots_never_null}
use Rattle.rules.proofs.Doubles.{Double}
use Rattle.re_factor.proofs.Pivotal.{Doubles}
use Rattle.solution_vectors.specs.result_places.Places.{lx_at, w_at, result_length_of, Solved}
use Rattle.solution_vectors.proofs.result_places.Parts.{flattened_snoc, solved_behind}
use Rattle.solution_finish.specs.result_laws.Ready.{Ready}
use Rattle.layout.specs.Shapes.{last_rows}

-- ---- the factor looks at the triangle's own cells alone
module _ (b b' : ℕ → ℕ → Float) where
  module _ (r : ℕ) (e : rows ieee b r ≡ rows ieee b' r) (h : (y : ℕ) → y ≤ r → b r y ≡ b' r y) where
    left_of_pivot_of : left_of_pivot ieee b (factor ieee b r) r ≡ left_of_pivot ieee b' (factor ieee b' r) r
    left_of_pivot_of =
        forward_ext ieee (b r) (b' r) (factor ieee b r) (factor ieee b' r) r (λ x l. h x (omega arith)) (λ x y l m. ap (λ (z : List (List Float)). entry_of ieee z x y) e)

    radicand_of_lem : radicand ieee b r ≡ radicand ieee b' r
    radicand_of_lem =
        let same : (y : ℕ) → y < r → at ieee (left_of_pivot ieee b (factor ieee b r) r) y ≡ at ieee (left_of_pivot ieee b' (factor ieee b' r) r) y =
        λ y l. ap (λ (z : List Float). at ieee z y) left_of_pivot_of in
        chain_ext ieee (b r r) (b' r r) _ _ _ _ r (h r (omega arith)) same same

  rows_ext : (n : ℕ) → ((x y : ℕ) → x < n → y ≤ x → b x y ≡ b' x y) → rows ieee b n ≡ rows ieee b' n
  unfolding rows
  rows_ext zero h = refl
  rows_ext (suc r) h =
      let e : rows ieee b r ≡ rows ieee b' r = rows_ext r (λ x y l m. h x y (omega arith) m) in
      let k : (y : ℕ) → y ≤ r → b r y ≡ b' r y = λ y m. h r y (omega arith) m in
      ap₂ (λ (l : List (List Float)) (x : List Float). l ++ (x ∷ [])) e
      (ap₂ (λ (l : List Float) (x : Float). l ++ (ieee.root x ∷ [])) (left_of_pivot_of r e k) (radicand_of_lem r e k))

  radicand_ext : (n : ℕ) → ((x y : ℕ) → x < n → y ≤ x → b x y ≡ b' x y) → (r : ℕ) → r < n → radicand ieee b r ≡ radicand ieee b' r
  radicand_ext n h r l = radicand_of_lem r (rows_ext r (λ x y m k. h x y (omega arith) k)) (λ y k. h r y l k)

-- the rows one after the other are the packed factor
pub rows_flattened : (b : ℕ → ℕ → Float) (n : ℕ) → flattened (rows ieee b n) ≡ cells triangle n (factor ieee b n)
unfolding rows cells flattened
rows_flattened b zero = refl
rows_flattened b (suc r) =
    flattened_snoc (rows ieee b r) (row_of ieee b (factor ieee b r) r)
    ∙ ap (λ (l : List Float). l ++ row_of ieee b (factor ieee b r) r) (rows_flattened b r) ∙ sym (rows_grow ieee b r)

-- ---- X'X - V'W in the place of L_X, before C and after
module _ (h : List ℕ) (w : List Float) (y : Layout) (e : y ≡ layout_of h) (v : List Float) (long : length v ≡ result_length_of y) where
  abbrev b : ℕ → ℕ → Float
  b = block (lx_at y) (packed y.p) v

  abbrev xx : ℕ → ℕ → Float
  xx = fixed_triangle h w

  -- there is room
  pub factor_room : lx_at y + size_of (packed y.p) ≤ length v
  factor_room = omega arith

  module _ (c : part (lx_at y) (start triangle y.p) v ≡ fill (packed y.p) xx) where
    same_cells : (r x : ℕ) → r < y.p → x ≤ r → b r x ≡ xx r x
    same_cells r x l m =
        ap (λ (z : List Float). cell ieee.zero (packed y.p) z r x) c ∙ cell_fill ieee.zero (packed y.p) xx r x (has_packed y.p r x l m)

    -- every diagonal cell is the result of a difference, so it is a double
    pub triangle_doubles : Doubles (triangle_at (lx_at y) y.p) y.p v
    unfolding fixed_triangle
    triangle_doubles r l = subst Double (sym (same_cells r r l (omega arith))) (sub-fits binary64 _ _)

    -- the refused row
    pub same_row : finish_pivots ieee (radicand ieee b) y.p ≡ refused_row h w
    unfolding refused_row
    same_row =
        first_same not_above (radicand ieee b) (radicand ieee xx) y.p (λ r l. ap not_above (radicand_ext b xx y.p same_cells r l))
        ∙ ap (λ (z : Layout). finish_pivots ieee (radicand ieee xx) z.p) e

    module _ (solved : Solved h w y (last_rows y) v) (right : part 0 y.p v ≡ tab y.p (fixed_rhs h w)) where
      -- C has accepted it
      pub is_ready : (v' : List Float) → v' ≡ store (lx_at y) (fill (packed y.p) (factor ieee b y.p)) v → Ready h w y v'
      unfolding fixed_factor
      is_ready v' q =
          let l : List Float = fill (packed y.p) (factor ieee b y.p) in
          let n : length l ≡ start triangle y.p = length_fill (packed y.p) (factor ieee b y.p) in
          let room : lx_at y + length l ≤ length v = omega arith in
          record {
            long = ap length q ∙ length_store (lx_at y) l v room ∙ long;
            solved =
                λ r m. ap (part (w_at y r) y.q) q ∙ part_else (lx_at y) l v room (w_at y r) y.q (inr (omega (arith, solved_behind y r (omega arith)))) ∙ solved r m;
            factor =
                ap (part (lx_at y) (start triangle y.p)) q ∙ part_same (lx_at y) l v room (start triangle y.p) n
                ∙ fill_packed y.p (factor ieee b y.p) ∙ ap (λ (z : List (List Float)). cells triangle y.p (entry_of ieee z)) (rows_ext b xx y.p same_cells)
                ∙ sym (rows_flattened xx y.p) ∙ ap (λ (z : Layout). flattened (rows ieee xx z.p)) e;
            right = ap (part 0 y.p) q ∙ part_else (lx_at y) l v room 0 y.p (inl (omega arith)) ∙ right;
          }

-- Where the finish accepts, no pivot of L_X is 0, of either sign: no division in it is by 0 (document 01, port order).
pub l_x_divisors : (h : List ℕ) (w : List Float) → none ≡ refused_row h w → (r : ℕ) → r < (layout_of h).p → ieee.null (entry_of ieee (fixed_factor h w) r r) ≡ false
unfolding refused_row fixed_factor fixed_triangle
l_x_divisors h w e r l = pivots_never_null (fixed_triangle h w) (layout_of h).p (λ x m. sub-fits binary64 _ _) (sym e) r l
