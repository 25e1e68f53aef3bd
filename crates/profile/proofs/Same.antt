-- Deviance and solution read of a workspace only whether it is a finished one, its layout, a sparse pair's rows, its loaded and working blocks, theta and the
-- logarithms' sum: two workspaces that agree in these have the same.
use Prim.Native.Nat.{ℕ, zero, suc, ◌+◌, ◌-◌, ◌<◌, ◌≤◌}
use mathlib.Core.Path.{◌≡◌, refl, sym, ap, ap₂, subst, fun_ext, ◌∙◌}
use mathlib.Core.Bool.{Bool, true, false, not, ◌&&◌, true≢false}
use mathlib.Core.List.{List, ◌∷◌}
use native.Mathlib.Omega.{arith}
use lib.Dec.{eqb}
use lib.ListN.{length, replicate}
use lib.Ieee.{Float}
use borrow.Author.Tests.{ne_eqb}
use Rattle.storage.specs.Runs.{tab}
use Rattle.storage.specs.Shape.{diagonal}
use Rattle.storage.proofs.Cells.{tab_ext}
use Rattle.rules.specs.Arithmetic.{ieee}
use Rattle.rules.specs.Begin.{fixed_cell}
use Rattle.rules.specs.Cholesky.{at}
use Rattle.rules.specs.Finish.{offset_of}
use Rattle.rules.specs.Solves.{matvec_sub, sparse_matvec_sub, matvec_t_sub, sparse_matvec_t_sub}
use Rattle.rules.proofs.Rows.{less_counts}
use Rattle.layout.specs.declared.Layout.{Layout}
use Rattle.layout.specs.Shapes.{pick, levels, block_rows, last_shape, shape, loaded_shape}
use Rattle.layout.proofs.Rows.{pick_ext, pick_at, shape_factor, cell_shape, cell_loaded}
use Rattle.heading_format.specs.Heading.{layout_of, progress_of, entry_row, valid_heading}
use Rattle.workspace.specs.Memory.{cell_of, loaded_block, working_block, theta_of, log_sum}
use Rattle.profile.specs.Solves.{
  block_in,
  backward_in,
  factor_shape_of,
  cross_cell_of,
  sparse_value,
  subtract_forward,
  subtract_first,
  forward_solved,
  subtract_backward,
  subtract_later,
  backward_solved,
  solved_for,
  scaled_row,
}
use Rattle.profile.specs.Deviance.{last_block_pivot, deviance_value, deviance_from_factor}
use Rattle.profile.specs.Finish.{
  in_sheet_order,
  result_length,
  v_of,
  w_of,
  theta_rows,
  cross_product,
  fixed_triangle,
  fixed_factor,
  refused_row,
  fixed_rhs,
  beta,
  sigma2,
  solution_of,
  u_vector,
  b_vector,
  result_list,
  solve_of,
}

-- they agree in all of it
pub record Same (h : List ℕ) (w : List Float) (h' : List ℕ) (w' : List Float) : Type 0 where
  pub valid : valid_heading h (length w) ≡ valid_heading h' (length w')
  pub state : (progress_of h).state ≡ (progress_of h').state
  pub layout : layout_of h ≡ layout_of h'
  -- a sparse pair is that of two blocks, and only the rows of its columns count
  pub two : (layout_of h').sparse ≡ true → (layout_of h').k ≡ 2
  pub rows : (layout_of h').sparse ≡ true → (c : ℕ) → c < levels (layout_of h') 0 → entry_row h c ≡ entry_row h' c
  pub loaded : (i j : ℕ) → j ≤ i → i ≤ (layout_of h').k → loaded_block h w i j ≡ loaded_block h' w' i j
  pub working : (i j : ℕ) → j ≤ i → i ≤ (layout_of h').k → working_block h w i j ≡ working_block h' w' i j
  pub theta : (j : ℕ) → j < (layout_of h').k → theta_of h w j ≡ theta_of h' w' j
  pub sum : log_sum h w ≡ log_sum h' w'

module _ {h : List ℕ} {w : List Float} {h' : List ℕ} {w' : List Float} (s : Same h w h' w') where
  -- the layout that both have
  abbrev y : Layout
  y = layout_of h'

  -- ---- the solves
  -- a factor's shape, the cells of a working block, and the entries of a sparse pair
  factor_same : (j : ℕ) → factor_shape_of h w j ≡ factor_shape_of h' w' j
  factor_same j = ap (λ (x : Layout). shape x (entry_row h) j j) s.layout ∙ shape_factor y (entry_row h) (entry_row h') j

  cross_same : (i j : ℕ) → j ≤ i → i ≤ (layout_of h').k → cross_cell_of h w i j ≡ cross_cell_of h' w' i j
  cross_same i j l m =
      ap₂ (λ (x : Layout) (b : List Float). cell_of (shape x (entry_row h) i j) b) s.layout (s.working i j l m)
      ∙ cell_shape y (entry_row h) (entry_row h') ieee.zero i j (working_block h' w' i j)

  values_same : 1 ≤ (layout_of h').k → sparse_value h w ≡ sparse_value h' w'
  values_same l = ap (at ieee) (s.working 1 0 (omega arith) l)

  -- going forward, a pair times a block of the solution: a sparse one's rows are asked in its columns alone
  forward_same : (i j : ℕ) → j < i → i < (layout_of h').k → (z : List Float) (v : ℕ → Float) → subtract_forward h w i j z v ≡ subtract_forward h' w' i j z v
  forward_same i j l m z v =
      ap
      (λ (x : Layout). pick x.sparse (sparse_matvec_sub ieee (entry_row h) (sparse_value h w) (at ieee z) v (block_rows x j))
      (matvec_sub ieee (cross_cell_of h w i j) (at ieee z) v (block_rows x j)))
      s.layout
      ∙ pick_ext y.sparse _ _ _ _
      (λ e. let first : j ≡ 0 = omega (arith, s.two e) in
      fun_ext
      (λ r. less_counts ieee (v r) (λ c. eqb (entry_row h c) r && not (ieee.null (at ieee z c))) (λ c. eqb (entry_row h' c) r && not (ieee.null (at ieee z c)))
      (sparse_value h w) (at ieee z) (block_rows y j)
      (λ c n. ap (λ (x : ℕ). eqb x r && not (ieee.null (at ieee z c))) (s.rows e c (subst (λ (x : ℕ). c < levels y x) first n))))
      ∙ ap (λ (x : ℕ → Float). sparse_matvec_sub ieee (entry_row h') x (at ieee z) v (block_rows y j)) (values_same (omega arith)))
      (λ e. ap (λ (x : ℕ → ℕ → Float). matvec_sub ieee x (at ieee z) v (block_rows y j)) (cross_same i j (omega arith) (omega arith)))

  -- so the blocks before block i
  first_same : (i n : ℕ) → n ≤ i → i < (layout_of h').k → (z : List (List Float)) (v : ℕ → Float) → subtract_first h w i z v n ≡ subtract_first h' w' i z v n
  unfolding subtract_first
  first_same i zero l m z v = refl
  first_same i (suc j) l m z v =
      forward_same i j l m (block_in z j) (subtract_first h w i z v j) ∙ ap (subtract_forward h' w' i j (block_in z j)) (first_same i j (omega arith) m z v)

  -- and the first n blocks of the solution
  forwards_same : (v : List (List Float)) (n : ℕ) → n ≤ (layout_of h').k → forward_solved h w v n ≡ forward_solved h' w' v n
  unfolding forward_solved
  forwards_same v zero l = refl
  forwards_same v (suc i) l =
      let b : ℕ → Float = at ieee (block_in v i) in
      rw (forwards_same v i (omega arith), s.working i i (omega arith) (omega arith), factor_same i, first_same i i (omega arith) l (forward_solved h' w' v i) b)

  -- going backward, row c of a pair's transpose times a block: of a sparse one a column that it has
  backward_same : (j i : ℕ) → i < j → j < (layout_of h').k → (z : List Float) (v v' : ℕ → Float) (c : ℕ) → ((layout_of h').sparse ≡ true → c < levels (layout_of h') 0) → v c ≡ v' c
      → subtract_backward h w j i z v c ≡ subtract_backward h' w' j i z v' c
  backward_same j i l m z v v' c n q =
      ap
      (λ (x : Layout). pick x.sparse (sparse_matvec_t_sub ieee (entry_row h) (sparse_value h w) (at ieee z) v)
      (matvec_t_sub ieee (cross_cell_of h w j i) (at ieee z) v (block_rows x j)) c)
      s.layout
      ∙ pick_at y.sparse _ _ _ _ c
      (λ e. ap₂ ieee.minus q
      (ap₂ (λ (x : ℕ → Float) (r : ℕ). ieee.plus ieee.zero (ieee.times (x c) (at ieee z r))) (values_same (omega arith)) (s.rows e c (n e))))
      (λ e. ap₂ (λ (x : Float) (f : ℕ → ℕ → Float). matvec_t_sub ieee f (at ieee z) (λ a. x) (block_rows y j) c) q (cross_same j i (omega arith) (omega arith)))

  -- so the blocks behind block i
  later_same : (i n : ℕ) → i + n < (layout_of h').k → (z : List (List Float)) (v : ℕ → Float) (c : ℕ) → ((layout_of h').sparse ≡ true → c < levels (layout_of h') 0)
      → subtract_later h w i z v n c ≡ subtract_later h' w' i z v n c
  unfolding subtract_later
  later_same i zero l z v c m = refl
  later_same i (suc x) l z v c m =
      backward_same (i + suc x) i (omega arith) l (block_in z x) (subtract_later h w i z v x) (subtract_later h' w' i z v x) c m (later_same i x (omega arith) z v c m)

  -- the first factor is a diagonal
  first_factor : 0 < (layout_of h').k → factor_shape_of h' w' 0 ≡ diagonal (levels (layout_of h') 0)
  unfolding shape
  first_factor l = rw (ne_eqb 0 y.k (λ (e : 0 ≡ y.k). omega arith)) refl

  -- The solve inside a factor asks no more: where a pair is sparse, a later block is subtracted from the first alone, which is divided by its diagonal.
  inside_same : (b : Bool) → (layout_of h').sparse ≡ b → (i n : ℕ) → i + n < (layout_of h').k → (f : List Float) (z : List (List Float)) (v : ℕ → Float)
      → backward_in (factor_shape_of h' w' i) f (subtract_later h w i z v n) ≡ backward_in (factor_shape_of h' w' i) f (subtract_later h' w' i z v n)
  unfolding subtract_later
  inside_same false e i n l f z v = ap (backward_in (factor_shape_of h' w' i) f) (fun_ext (λ c. later_same i n l z v c (λ q. absurd (true≢false (sym q ∙ e)))))
  inside_same true e i zero l f z v = refl
  inside_same true e i (suc x) l f z v =
      let first : i ≡ 0 = omega (arith, s.two e) in
      subst
      (λ (k : ℕ). backward_in (factor_shape_of h' w' k) f (subtract_later h w k z v (suc x)) ≡ backward_in (factor_shape_of h' w' k) f (subtract_later h' w' k z v (suc x)))
      (sym first)
      (rw (first_factor (omega arith))
      (tab_ext (levels y 0) _ _
      (λ c m. ap (λ (t : Float). ieee.over t (cell_of (diagonal (levels y 0)) f c c)) (later_same 0 (suc x) (omega arith) z v c (λ q. m)))))

  -- and the last n blocks of the solution
  backwards_same : (z : List (List Float)) (n : ℕ) → n ≤ (layout_of h').k → backward_solved h w z n ≡ backward_solved h' w' z n
  unfolding backward_solved
  backwards_same z zero l = refl
  backwards_same z (suc n) l =
      let i : ℕ = y.k - suc n in
      let rest : List (List Float) = backward_solved h w z n in
      ap (λ (x : Layout). let q = x.k - suc n in backward_in (factor_shape_of h w q) (working_block h w q q) (subtract_later h w q rest (at ieee (block_in z q)) n) ∷ rest) s.layout
      ∙ rw (
        s.working i i (omega arith) (omega arith),
        factor_same i,
        backwards_same z n (omega arith),
        inside_same y.sparse refl i n (omega arith) (working_block h' w' i i) (backward_solved h' w' z n) (at ieee (block_in z i)),
      ) refl

  -- forward, then backward
  solved_same : (v : List (List Float)) → solved_for h w v ≡ solved_for h' w' v
  unfolding solved_for
  solved_same v =
      ap (λ (x : Layout). backward_solved h w (forward_solved h w v x.k) x.k) s.layout
      ∙ backwards_same (forward_solved h w v y.k) y.k (omega arith) ∙ ap (λ (z : List (List Float)). backward_solved h' w' z y.k) (forwards_same v y.k (omega arith))

  -- the loaded cells of a fixed row, times theta
  scaled_same : (r : ℕ) → scaled_row h w r ≡ scaled_row h' w' r
  unfolding scaled_row
  scaled_same r =
      ap
      (λ (x : Layout). tab x.k (λ j. tab (block_rows x j) (λ c. fixed_cell ieee (theta_of h w j) (cell_of (loaded_shape x (entry_row h) x.k j) (loaded_block h w x.k j) r c))))
      s.layout
      ∙ tab_ext y.k _ _
      (λ j l. ap₂ (λ (t : Float) (f : ℕ → ℕ → Float). tab (block_rows y j) (λ c. fixed_cell ieee t (f r c))) (s.theta j l)
      (ap (cell_of (loaded_shape y (entry_row h) y.k j)) (s.loaded y.k j (omega arith) (omega arith))
      ∙ cell_loaded y (entry_row h) (entry_row h') ieee.zero y.k j (loaded_block h' w' y.k j)))

  -- ---- the finish
  -- v and w of a row, theta of each row, and the loaded triangle
  v_same : (r : ℕ) → v_of h w r ≡ v_of h' w' r
  unfolding v_of
  v_same r = ap₂ (λ (x : Layout) (l : List (List Float)). in_sheet_order x l x.k) s.layout (scaled_same r)

  w_same : (r : ℕ) → w_of h w r ≡ w_of h' w' r
  unfolding w_of
  w_same r = ap₂ (λ (x : Layout) (l : List (List Float)). in_sheet_order x l x.k) s.layout (solved_same (scaled_row h w r) ∙ ap (solved_for h' w') (scaled_same r))

  theta_same : theta_rows h w ≡ theta_rows h' w'
  unfolding theta_rows
  theta_same =
      ap (λ (x : Layout). in_sheet_order x (tab x.k (λ j. replicate (block_rows x j) (theta_of h w j))) x.k) s.layout
      ∙ ap (λ (l : List (List Float)). in_sheet_order y l y.k) (tab_ext y.k _ _ (λ j l. ap (replicate (block_rows y j)) (s.theta j l)))

  product_same : (i j : ℕ) → cross_product h w i j ≡ cross_product h' w' i j
  product_same i j =
      ap₂ (λ (x : Layout) (b : List Float). cell_of (last_shape x) b i j) s.layout
      (ap (λ (x : Layout). loaded_block h w x.k x.k) s.layout ∙ s.loaded y.k y.k (omega arith) (omega arith))

  -- X'X - V'W, its factor L_X and the pivot that it refuses
  triangle_same : fixed_triangle h w ≡ fixed_triangle h' w'
  unfolding fixed_triangle
  triangle_same = fun_ext (λ i. fun_ext (λ j. rw (product_same i j, v_same i, w_same j, s.layout) refl))

  fixed_same : fixed_factor h w ≡ fixed_factor h' w'
  unfolding fixed_factor
  fixed_same = rw (triangle_same, s.layout) refl

  refused_same : refused_row h w ≡ refused_row h' w'
  unfolding refused_row
  refused_same = rw (triangle_same, s.layout) refl

  -- beta and its right side, sigma2 and the deviance
  rhs_same : fixed_rhs h w ≡ fixed_rhs h' w'
  unfolding fixed_rhs
  rhs_same = fun_ext (λ j. rw (product_same (layout_of h).p j, v_same j, w_same (layout_of h).p, s.layout) refl)

  beta_same : beta h w ≡ beta h' w'
  unfolding beta
  beta_same = rw (fixed_same, rhs_same, s.layout) refl

  sigma_same : (reml : Bool) → sigma2 h w reml ≡ sigma2 h' w' reml
  unfolding sigma2
  sigma_same reml = rw (beta_same, rhs_same, product_same (layout_of h).p (layout_of h).p, v_same (layout_of h).p, w_same (layout_of h).p, s.layout) refl

  solution_same : (reml : Bool) → solution_of h w reml ≡ solution_of h' w' reml
  unfolding solution_of
  solution_same reml = rw (s.sum, sigma_same reml, fixed_same, s.layout) refl

  -- u, b and the whole list
  u_same : u_vector h w ≡ u_vector h' w'
  unfolding u_vector
  u_same =
      ap (λ (f : ℕ → List Float). let x = layout_of h in tab x.q (offset_of ieee (at ieee (f x.p)) (λ j i. at ieee (f j) i) (at ieee (beta h w)) x.p)) (fun_ext w_same)
      ∙ rw (beta_same, s.layout) refl

  b_same : b_vector h w ≡ b_vector h' w'
  unfolding b_vector
  b_same = rw (theta_same, u_same, s.layout) refl

  result_same : result_list h w ≡ result_list h' w'
  unfolding result_list
  result_same = rw (b_same, u_same, beta_same, fixed_same, w_same (layout_of h).p, fun_ext w_same, s.layout) refl

  -- ---- the deviance, by the pivots of block k
  last_same : (reml : Bool) (r : ℕ) → last_block_pivot h w reml r ≡ last_block_pivot h' w' reml r
  last_same reml r =
      ap₂ (λ (x : Layout) (b : List Float). cell_of (last_shape x) b r r) s.layout
      (ap (λ (x : Layout). working_block h w x.k x.k) s.layout ∙ s.working y.k y.k (omega arith) (omega arith))

  value_same : (reml : Bool) → deviance_value h w reml ≡ deviance_value h' w' reml
  unfolding deviance_value
  value_same reml = rw (last_same reml (layout_of h).p, fun_ext (last_same reml), s.sum, s.layout) refl

  -- ---- `deviance_from_factor` and `solve_profile_blocked`, with their refusals
  pub same_deviance : (reml : Bool) → deviance_from_factor h w reml ≡ deviance_from_factor h' w' reml
  unfolding deviance_from_factor
  same_deviance reml = rw (s.valid, s.state, value_same reml) refl

  pub same_solution : (reml : Bool) (out : List Float) → solve_of h w reml out ≡ solve_of h' w' reml out
  unfolding solve_of
  same_solution reml out = rw (s.valid, s.state, ap result_length s.layout, refused_same, solution_same reml, result_same) refl
