-- The loaded triangle, a row made, and all of them.
use Prim.Native.Nat.{ℕ, ◌+◌, ◌*◌, ◌≤◌, ◌<◌}
use mathlib.Core.Path.{◌≡◌, refl, sym, ap, ap₂, ◌∙◌}
use mathlib.Core.List.{List}
use mathlib.Core.Logic.{◌⊎◌, inl, inr, by_cases}
use native.Mathlib.Decide.{dec_lt}
use native.Mathlib.Omega.{arith}
use lib.ListN.{length, get_or}
use lib.Ieee.{Float, nan}
use Rattle.storage.specs.Runs.{start, triangle, tab}
use Rattle.storage.specs.Shape.{size_of}
use Rattle.storage.specs.Part.{part, store}
use Rattle.storage.specs.declared.Block.{Block}
use Rattle.storage.specs.Placed.{block_of, as_columns, Lies}
use Rattle.storage.proofs.Starts.{start_below, start_le, start_dense}
use Rattle.storage.proofs.Cells.{any_default, length_tab, take_tab, is_cells}
use Rattle.storage.proofs.Parts.{length_part, length_store, part_else, part_same, store_else, get_or_part}
use Rattle.storage.proofs.Blocks.{fill_packed}
use Rattle.rules.specs.Arithmetic.{ieee}
use Rattle.rules.specs.Sums.{dot}
use Rattle.rules.specs.Cholesky.{at as entry_of}
use Rattle.block_runs.specs.axpy.Axpy.{at, run}
use Rattle.block_runs.proofs.axpy.Sums.{read_run}
use Rattle.cross_matvec.specs.Products.{Sides, Clear, subtracted_product_t, column_sum}
use Rattle.cross_matvec.proofs.Vectors.{run_else}
use Rattle.layout.specs.declared.Layout.{Layout}
use Rattle.layout.specs.Shapes.{loaded_shape, loaded_at, last_rows}
use Rattle.layout.proofs.Places.{size_loaded, loaded_inside, theta_inside}
use Rattle.heading_format.specs.Heading.{entry_row}
use Rattle.heading_format.specs.Fits.{Fits}
use Rattle.replace_response.proofs.write_rows.Cells.{last_cells}
use Rattle.profile.specs.Finish.{v_of, w_of, cross_product, fixed_triangle, fixed_rhs}
use Rattle.solution_vectors.specs.result_places.Places.{lx_at, response_at, w_at, result_length_of, Solved, Products}
use Rattle.solution_vectors.proofs.result_places.Parts.{column_at_lem, solved_behind, solved_inside}
use Rattle.cross_matvec.proofs.matvec_t.Cells.{dot_swap, sum_lists, product_long, product_else, product_part, product_cell}
use Rattle.solution_finish.specs.fixed_rows.Fixing.{Fixing}

-- entry x of a list
abbrev of : List Float → ℕ → Float
of l x = entry_of ieee l x

module _ (h : List ℕ) (w : List Float) (y : Layout) (fit : Fits y h (length w)) where
  -- ---- the loaded triangle

  -- it lies within the doubles
  pub last_room : loaded_at y y.k y.k + (start triangle y.p + last_rows y) ≤ length w
  last_room = omega (arith, loaded_inside y y.k y.k (omega arith) (omega arith), last_cells y, theta_inside y, fit.room)

  -- its cell (i, j)
  pub cross_read : (i j k : ℕ) → i ≤ y.p → j ≤ i → k ≡ loaded_at y y.k y.k + (start triangle i + j) → at w k ≡ cross_product h w i j
  cross_read i j k a b d =
      let place : ℕ = start triangle i + j in
      let cell : Layout → Float =
      λ z. get_or (part (loaded_at z z.k z.k) (size_of (loaded_shape z (entry_row h) z.k z.k)) w) place ieee.zero in
      let below : place < start triangle y.p + last_rows y = omega (arith, start_le triangle i y.p a) in
      ap (at w) d
      ∙ any_default w (loaded_at y y.k y.k + place) nan ieee.zero (omega (arith, last_room))
      ∙ sym
      (get_or_part (loaded_at y y.k y.k) (size_of (loaded_shape y (entry_row h) y.k y.k)) w place ieee.zero
      (omega (arith, size_loaded y (entry_row h) y.k y.k, last_cells y)))
      ∙ ap cell fit.same

  -- ---- what is written before L_X's end keeps every w
  kept : (n off : ℕ) (l v v' : List Float) → n ≤ last_rows y → Solved h w y n v → v' ≡ store off l v → off + length l ≤ length v → off + length l ≤ response_at y
      → Solved h w y n v'
  kept n off l v v' few s so fits before r m =
      ap (part (w_at y r) y.q) so
      ∙ part_else off l v fits (w_at y r) y.q (inr (omega (arith, solved_behind y r (omega arith))))
      ∙ s r m

  -- ---- all loaded
  module _ (v : List Float) (from n f : ℕ) (long : length v ≡ result_length_of y) (s : Solved h w y (last_rows y) v)
      (a : from ≡ loaded_at y y.k y.k) (b : n ≡ start triangle y.p) (d : f ≡ lx_at y) where
    pub copies_room : (f + n ≤ length v) × (from + n ≤ length w) × (0 + y.p ≤ length v) × (from + n + y.p ≤ length w)
    copies_room = (omega arith, omega (arith, last_room), omega arith, omega (arith, last_room))

    pub all_loaded : (v₁ v₂ : List Float) → v₁ ≡ run f n (λ i. at w (from + i)) v → v₂ ≡ run 0 y.p (λ i. at w (from + n + i)) v₁ → Fixing h w y 0 v₂
    all_loaded v₁ v₂ so then =
        let g : ℕ → Float = λ i. at w (from + i) in
        let g' : ℕ → Float = λ i. at w (from + n + i) in
        let long₁ : length v₁ ≡ length v = ap length so ∙ length_store f (tab n g) v (omega (arith, length_tab n g)) in
        let long₂ : length v₂ ≡ length v₁ = ap length then ∙ length_store 0 (tab y.p g') v₁ (omega (arith, length_tab y.p g')) in
        let s₁ : Solved h w y (last_rows y) v₁ = kept (last_rows y) f (tab n g) v v₁ (omega arith) s so (omega (arith, length_tab n g)) (omega (arith, length_tab n g)) in
        record {
          within = omega arith;
          long = omega arith;
          solved = kept (last_rows y) 0 (tab y.p g') v₁ v₂ (omega arith) s₁ then (omega (arith, length_tab y.p g')) (omega (arith, length_tab y.p g'));
          made = λ i j l m. absurd (omega arith);
          loaded = λ i j l m u.
              let place : ℕ = start triangle i + j in
              let below : place < n = omega (arith, start_below triangle i y.p m) in
              ap (λ (x : List Float). at x (lx_at y + place)) then
              ∙ run_else 0 y.p g' v₁ (omega arith) (lx_at y + place) (inr (omega arith))
              ∙ ap (λ (x : List Float). at x (lx_at y + place)) so
              ∙ read_run f n g v (omega arith) place (lx_at y + place) below (omega arith)
              ∙ cross_read i j (from + place) (omega arith) u (omega arith);
          right = λ j l. absurd (omega arith);
          other = λ j l m.
              ap (λ (x : List Float). at x j) then ∙ read_run 0 y.p g' v₁ (omega arith) j j m (omega arith)
              ∙ cross_read y.p j (from + n + j) (omega arith) (omega arith) (omega arith);
        }

  -- ---- one row more: u is v of row i, where b will be
  module _ (i : ℕ) (v v₁ : List Float) (st : Fixing h w y i v) (more : i < y.p) (u : List Float) (size : length u ≡ y.q) (so : v₁ ≡ store y.p u v)
      (f t a z : ℕ) (is_f : f ≡ lx_at y) (is-t : t ≡ start triangle i) (is-a : a ≡ w_at y 0) (is-z : z ≡ w_at y y.p) where
    scratch_fits : y.p + y.q ≤ length v
    scratch_fits = omega (arith, st.long)

    long₁ : length v₁ ≡ length v
    long₁ = ap length so ∙ length_store y.p u v (omega (arith, scratch_fits))

    first : (k : ℕ) → (k < y.p) ⊎ (lx_at y ≤ k) → at v₁ k ≡ at v k
    first k (inl l) = ap (λ (x : List Float). at x k) so ∙ store_else y.p u v (omega (arith, scratch_fits)) nan k (inl l)
    first k (inr l) = ap (λ (x : List Float). at x k) so ∙ store_else y.p u v (omega (arith, scratch_fits)) nan k (inr (omega arith))

    solved₁ : Solved h w y (last_rows y) v₁
    solved₁ = kept (last_rows y) y.p u v v₁ (omega arith) st.solved so (omega (arith, scratch_fits)) (omega arith)

    vector₁ : part y.p y.q v₁ ≡ u
    vector₁ = ap (part y.p y.q) so ∙ part_same y.p u v (omega (arith, scratch_fits)) y.q size

    first_column : a ≡ response_at y + y.q
    first_column = omega (arith, column_at_lem y 0 (omega arith))

    row_before : f + t + (i + 1) ≤ response_at y
    row_before = omega (arith, start_below triangle i y.p more)

    column : (c : ℕ) → c < i + 1 → part (a + c * y.q) y.q v₁ ≡ w_of h w c
    column c l =
        let d : a + c * y.q ≡ w_at y c = omega (arith, first_column, column_at_lem y c (omega arith)) in
        ap (λ (k : ℕ). part k y.q v₁) d ∙ solved₁ c (omega arith)

    -- the columns of w up to i
    abbrev columns : Block
    columns = block_of a y.q (i + 1)

    -- what the product with them asks
    pub row_asks : Sides (length v₁) y.p (f + t) columns × Lies (length v₁) (as_columns columns) × Clear (f + t) columns
    row_asks = (
      record { rows = omega (arith, long₁, scratch_fits); cols = omega (arith, long₁, st.long, row_before); apart = inl (omega arith) },
      omega (arith, long₁, st.long, first_column, solved_inside y i (omega arith), column_at_lem y i more, start_dense y.q (i + 1)),
      inl (omega (arith, row_before, first_column)),
    )

    module _ (v₂ : List Float) (row_made : v₂ ≡ subtracted_product_t (f + t) y.p columns v₁ v₁) where
      fits : f + t + (i + 1) ≤ length v₁
      fits = row_asks.0.cols

      long₂ : length v₂ ≡ length v₁
      long₂ = product_long _ y.p columns _ _ fits row_made

      second : (k : ℕ) → (k < f + t) ⊎ (f + t + (i + 1) ≤ k) → at v₂ k ≡ at v₁ k
      second = product_else _ y.p columns _ _ fits row_made

      solved₂ : Solved h w y (last_rows y) v₂
      solved₂ r l =
          product_part _ y.p columns _ _ fits row_made (w_at y r) y.q (inr (omega (arith, row_before, solved_behind y r (omega arith))))
          ∙ solved₁ r l

      vector₂ : part y.p y.q v₂ ≡ u
      vector₂ = product_part _ y.p columns _ _ fits row_made y.p y.q (inl (omega arith)) ∙ vector₁

      -- v of the row, a column
      abbrev vector : Block
      vector = block_of y.p y.q 1

      -- what the product with w of y asks
      pub right_asks : Sides (length v₂) z i vector × Lies (length v₂) (as_columns vector) × Clear i vector
      right_asks = (
        record {
          rows = omega (arith, long₂, long₁, st.long, solved_inside y y.p (omega arith));
          cols = omega (arith, long₂, long₁, scratch_fits);
          apart = inr (omega (arith, solved_behind y y.p (omega arith)));
        },
        omega (arith, long₂, long₁, scratch_fits, start_dense y.q 1),
        inl (omega arith),
      )

      module _ (v₃ : List Float) (right-made : v₃ ≡ subtracted_product_t i z vector v₂ v₂) (is-u : u ≡ v_of h w i) where
        third : (k : ℕ) → (k < i) ⊎ (i + 1 ≤ k) → at v₃ k ≡ at v₂ k
        third = product_else _ z vector _ _ right_asks.0.cols right-made

        -- a double of another row
        elsewhere : (x c : ℕ) → (x ≡ i → ⊥) → c ≤ x → at v₃ (lx_at y + (start triangle x + c)) ≡ at v (lx_at y + (start triangle x + c))
        elsewhere x c apart l =
            let k : ℕ = lx_at y + (start triangle x + c) in
            third k (inr (omega arith)) ∙ second k (by_cases (dec_lt x i) (λ m. inl (omega (arith, start_below triangle x i m)))
            (λ m. inr (omega (arith, start_below triangle i x (omega arith)))))
            ∙ first k (inr (omega arith))

        -- a cell of row i
        here : (c : ℕ) → c ≤ i → at v₃ (lx_at y + (start triangle i + c)) ≡ fixed_triangle h w i c
        unfolding fixed_triangle
        here c l =
            let k : ℕ = lx_at y + (start triangle i + c) in
            let d : k ≡ f + t + c = omega arith in
            third k (inr (omega arith)) ∙ ap (at v₂) d
            ∙ product_cell _ y.p columns _ _ fits row_made c (omega arith) (w_of h w c) u (column c (omega arith)) vector₁
            ∙ ap₂ ieee.minus (ap (at v₁) (sym d) ∙ first k (inr (omega arith)) ∙ st.loaded i c (omega arith) more l)
            (dot_swap (of (w_of h w c)) (of u) y.q
            ∙ ap₂ (λ (x : List Float) (n : ℕ). dot ieee (of x) (of (w_of h w c)) n) is-u (ap (λ (x : Layout). x.q) fit.same))

        left_cell : (j : ℕ) → (j ≡ i → ⊥) → j < y.p → at v₃ j ≡ at v j
        left_cell j apart l =
            third j (by_cases (dec_lt j i) (λ m. inl m) (λ m. inr (omega arith))) ∙ second j (inl (omega arith)) ∙ first j (inl l)

        entry : at v₃ i ≡ fixed_rhs h w i
        unfolding fixed_rhs
        entry =
            let d : i ≡ i + 0 = omega arith in
            let o : y.p + 0 * y.q ≡ y.p = omega arith in
            ap (at v₃) d
            ∙ product_cell _ z vector _ _ right_asks.0.cols right-made 0 (omega arith) u (w_of h w y.p)
            (ap (λ (k : ℕ). part k y.q v₂) o ∙ vector₂)
            (ap (λ (k : ℕ). part k y.q v₂) is-z ∙ solved₂ y.p (omega arith))
            ∙ ap₂ ieee.minus (ap (at v₂) (sym d) ∙ second i (inl (omega arith)) ∙ first i (inl more) ∙ st.other i (omega arith) more) refl
            ∙ rw (is-u, fit.same) refl

        pub row_more : Fixing h w y (i + 1) v₃
        row_more =
            record {
              within = omega arith;
              long = product_long _ z vector _ _ right_asks.0.cols right-made ∙ long₂ ∙ long₁ ∙ st.long;
              solved = λ r l.
                  product_part _ z vector _ _ right_asks.0.cols right-made (w_at y r) y.q (inr (omega (arith, solved_behind y r (omega arith))))
                  ∙ solved₂ r l;
              made = λ x c l m.
                  by_cases (dec_lt x i) (λ n. elsewhere x c (λ q. omega arith) m ∙ st.made x c n m)
                  (λ n. let q : x ≡ i = omega arith in rw q (here c (rw q at m)));
              loaded = λ x c l m n. elsewhere x c (λ q. omega arith) n ∙ st.loaded x c (omega arith) m n;
              right = λ j l.
                  by_cases (dec_lt j i) (λ m. left_cell j (λ q. omega arith) (omega arith) ∙ st.right j m) (λ m. let q : j ≡ i = omega arith in rw q entry);
              other = λ j l m. left_cell j (λ q. omega arith) m ∙ st.other j (omega arith) m;
            }

  -- ---- all rows made, and v of the response where b will be
  module _ (v v₁ : List Float) (st : Fixing h w y y.p v) (u : List Float) (size : length u ≡ y.q) (so : v₁ ≡ store y.p u v) where
    pub all_made : u ≡ v_of h w y.p → (k z : ℕ) → k ≡ loaded_at y y.k y.k + (start triangle y.p + y.p) → z ≡ w_at y y.p
        → (r : Float) → r ≡ ieee.minus (at w k) (column_sum v₁ y.p v₁ z y.q) → Products h w y v₁ r
    all_made is-u k z d is-z r answer =
        let room : y.p + length u ≤ length v = omega (arith, st.long) in
        let long : length v₁ ≡ length v = ap length so ∙ length_store y.p u v room in
        let solved : Solved h w y (last_rows y) v₁ = kept (last_rows y) y.p u v v₁ (omega arith) st.solved so room (omega arith) in
        record {
          solved = solved;
          triangle =
              ap (part (lx_at y) (start triangle y.p)) so
              ∙ part_else y.p u v room (lx_at y) (start triangle y.p) (inr (omega arith))
              ∙ is_cells nan triangle y.p (fixed_triangle h w) (part (lx_at y) (start triangle y.p) v) (length_part (lx_at y) (start triangle y.p) v (omega (arith, st.long)))
              (λ i j l m. get_or_part (lx_at y) (start triangle y.p) v (start triangle i + j) nan (omega (arith, start_below triangle i y.p l)) ∙ st.made i j l (omega arith))
              ∙ sym (fill_packed y.p (fixed_triangle h w));
          right =
              ap (part 0 y.p) so ∙ part_else y.p u v room 0 y.p (inl (omega arith)) ∙ take_tab nan y.p (fixed_rhs h w) v (omega (arith, st.long)) st.right;
          rest =
              answer
              ∙ ap₂ ieee.minus (cross_read y.p y.p k (omega arith) (omega arith) d)
              (sum_lists v₁ y.p z y.q u (w_of h w y.p) (omega (arith, long)) (omega (arith, long, st.long, solved_inside y y.p (omega arith)))
              (ap (part y.p y.q) so ∙ part_same y.p u v room y.q size)
              (ap (λ (x : ℕ). part x y.q v₁) is-z ∙ solved y.p (omega arith))
              ∙ ap (λ (x : List Float). dot ieee (of x) (of (w_of h w y.p)) y.q) is-u);
        }
