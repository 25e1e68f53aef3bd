-- The copies of a response are what `replace_response` is defined to leave: every loaded block (k, j) with the new response in its row p.
use Prim.Native.Nat.{ℕ, zero, suc, ◌+◌, ◌-◌, ◌*◌, ◌≤◌, ◌<◌}
use mathlib.Core.Path.{◌≡◌, refl, sym, ap, subst, ◌∙◌}
use mathlib.Core.Bool.{Bool, true, false, cond, and-eq-true_iff}
use mathlib.Core.List.{List, [], ◌∷◌, ◌++◌}
use mathlib.Core.Logic.{◌⊎◌, inl, inr, by_cases}
use native.Mathlib.Decide.{dec_lt}
use native.Mathlib.Nat.{zero-add}
use native.Mathlib.Numerals.{add-one}
use native.Mathlib.Omega.{arith}
use lib.Dec.{ltb, leb, eqb}
use lib.ListN.{length, get_or, set}
use lib.Seq.{ext_get_or}
use lib.Ieee.{Float, nan}
use borrow.Author.Tests.{eqb-true, eqb-false, ltb-true, leb-true, lt-ltb, le-leb, le-ltb, eq-eqb, ne_eqb}
use Rattle.storage.specs.Runs.{start, triangle}
use Rattle.storage.specs.Shape.{Shape, packed, columns, size_of, has_cell, place_of, fill}
use Rattle.storage.specs.Part.{part, store}
use Rattle.storage.proofs.Places.{place_below, place_one_to_one, place_columns}
use Rattle.storage.proofs.Parts.{length_part, length_store, get_or_part, store_before, store_behind, store_in, store_else}
use Rattle.storage.proofs.Blocks.{length_fill, is_fill, cell_part}
use Rattle.rules.specs.Arithmetic.{ieee}
use Rattle.layout.specs.declared.Layout.{Layout}
use Rattle.layout.specs.Shapes.{Target, target, levels, across, shape, loaded_shape, loaded_sizes, loaded_length, loaded_at, last_rows, last_shape, fixed_shape}
use Rattle.heading_format.specs.Heading.{layout_of, entry_row, valid_layout}
use Rattle.layout.proofs.Places.{size_loaded, loaded_inside, loaded_apart}
use Rattle.workspace.specs.Memory.{cell_of, loaded_block}
use Rattle.workspace.specs.Loaded.{row_start, sheet_row}
use Rattle.workspace.specs.Response.{Response, Prescribed, response_cell, responded_block, store_response}
use Rattle.workspace.proofs.Lengths.{prescribed_lengths}
use Rattle.replace_response.specs.write_rows.Strided.{strided, from, fixed_row, fixed_rows, last_at, last_row, response_rows}
use Rattle.storage.proofs.Cells.{any_default}
use Rattle.replace_response.proofs.write_rows.Strided.{length_strided, strided_at, strided_else, strided_ext}
use Rattle.block_places.proofs.sheet_rows.AllRows.{rows_within}

-- ---- one row of a block whose cells lie `step` apart

-- row `row` of a shape has n cells, the first at `base`
pub record Row (s : Shape) (row n base step : ℕ) : Type 0 where
  pub only : (c : ℕ) → has_cell s row c ≡ true → c < n
  pub has : (c : ℕ) → c < n → has_cell s row c ≡ true
  pub place : (c : ℕ) → c < n → place_of s row c ≡ base + c * step

-- of a dense block by columns
columns_row : (rows cols row : ℕ) → row < rows → Row (columns rows cols) row cols row rows
columns_row rows cols row h =
    record {
      only = λ c e. ltb-true c cols ((and-eq-true_iff (ltb c cols) (ltb row rows)).0 e).0;
      has = λ c l. (and-eq-true_iff (ltb c cols) (ltb row rows)).1 (lt-ltb c cols l, lt-ltb row rows h);
      place = λ c l. omega (arith, place_columns rows cols row c);
    }

-- the last one of a triangle
triangle_row : (p : ℕ) → Row (packed (p + 1)) p (p + 1) (start triangle p) 1
triangle_row p =
    record {
      only = λ c e. let l : c ≤ p = leb-true c p ((and-eq-true_iff (ltb p (p + 1)) (leb c p)).0 e).1 in omega arith;
      has = λ c l. (and-eq-true_iff (ltb p (p + 1)) (leb c p)).1 (lt-ltb p (p + 1) (omega arith), le-leb c p (omega arith));
      place = λ c l. omega arith;
    }

module _ (s : Shape) (row n base step : ℕ) (z : Row s row n base step) (some : 1 ≤ step) (g : ℕ → Float) (off : ℕ) (v : List Float) (fits : off + size_of s ≤ length v) where
  abbrev copied : List Float
  copied = strided (off + base) step n g v

  -- the copy writes in the block alone
  copied_else : (i : ℕ) → (i < off) ⊎ (off + size_of s ≤ i) → get_or copied i ieee.zero ≡ get_or v i ieee.zero
  copied_else i o =
      strided_else (off + base) step g v ieee.zero n i
      (λ c l e. let b = place_below s row c (z.has c l) in apart o (omega (arith, z.place c l)) b)
    where
      apart : {x : ℕ} → (i < off) ⊎ (off + size_of s ≤ i) → i ≡ off + x → x < size_of s → ⊥
      apart (inl a) e b = omega arith
      apart (inr a) e b = omega arith

  copied_block : store off (part off (size_of s) copied) v ≡ copied
  copied_block =
      let same : length copied ≡ length v = length_strided (off + base) step g v n in
      let size : length (part off (size_of s) copied) ≡ size_of s = length_part off (size_of s) copied (omega arith) in
      let long : off + length (part off (size_of s) copied) ≤ length v = omega arith in
      ext_get_or ieee.zero (store off (part off (size_of s) copied) v) copied (length_store off (part off (size_of s) copied) v long ∙ sym same)
      (λ i h.
      by_cases (dec_lt i off)
      (λ a. store_before off (part off (size_of s) copied) v long ieee.zero i a ∙ sym (copied_else i (inl a)))
      (λ a. by_cases (dec_lt i (off + size_of s))
      (λ b. inside size long i (omega arith) b)
      (λ b. store_behind off (part off (size_of s) copied) v long ieee.zero i (omega arith) ∙ sym (copied_else i (inr (omega arith))))))
    where
      inside : length (part off (size_of s) copied) ≡ size_of s → off + length (part off (size_of s) copied) ≤ length v → (i : ℕ) → off ≤ i → i < off + size_of s
          → get_or (store off (part off (size_of s) copied) v) i ieee.zero ≡ get_or copied i ieee.zero
      inside size long i a b =
          let e : i ≡ off + (i - off) = omega arith in
          ap (λ (x : ℕ). get_or (store off (part off (size_of s) copied) v) x ieee.zero) e
          ∙ store_in off (part off (size_of s) copied) v long ieee.zero (i - off) (omega arith)
          ∙ get_or_part off (size_of s) copied (i - off) ieee.zero (omega arith)
          ∙ ap (λ (x : ℕ). get_or copied x ieee.zero) (sym e)

  -- the row copied, all other cells as they were
  row_stored : (f : ℕ → ℕ → Float) → ((c : ℕ) → c < n → f row c ≡ g c)
      → ((r c : ℕ) → has_cell s r c ≡ true → (r ≡ row → ⊥) → f r c ≡ get_or v (off + place_of s r c) ieee.zero) → copied ≡ store off (fill s f) v
  row_stored f new old =
      sym copied_block
      ∙ ap (λ (l : List Float). store off l v)
      (is_fill ieee.zero s f (part off (size_of s) copied) (length_part off (size_of s) copied (omega (arith, length_strided (off + base) step g v n)))
      (λ r c h. cell_part ieee.zero s off copied r c h ∙ here r c h (eqb r row) refl))
    where
      here : (r c : ℕ) → has_cell s r c ≡ true → (b : Bool) → eqb r row ≡ b → get_or copied (off + place_of s r c) ieee.zero ≡ f r c
      here r c h true q =
          let e : r ≡ row = eqb-true r row q in
          let h' : has_cell s row c ≡ true = subst (λ (x : ℕ). has_cell s x c ≡ true) e h in
          let l : c < n = z.only c h' in
          let at : off + place_of s row c ≡ off + base + c * step = omega (arith, z.place c l) in
          rw e
          (ap (λ (x : ℕ). get_or copied x ieee.zero) at
          ∙ strided_at (off + base) step g v ieee.zero n c some l (omega (arith, at, place_below s row c h'))
          ∙ sym (new c l))
      here r c h false q =
          strided_else (off + base) step g v ieee.zero n (off + place_of s r c)
          (λ c' l e. eqb-false r row q (place_one_to_one s r c row c' h (z.has c' l) (omega (arith, z.place c' l))).0)
          ∙ sym (old r c h (eqb-false r row q))

-- ---- the blocks of a workspace

module _ (h : List ℕ) (w : List Float) (new : Response) where
  abbrev y : Layout
  y = layout_of h

  abbrev stored : List Target → List Float → List Float
  stored = store_response h w new

  -- loaded block (k, j)
  abbrev shape_at : ℕ → Shape
  shape_at j = loaded_shape y (entry_row h) y.k j

  fixed_shape_lem : (j : ℕ) → j < y.k → fixed_shape y j ≡ shape_at j
  unfolding loaded_shape shape
  fixed_shape_lem j l = rw (ne_eqb y.k j (λ e. omega arith), eq-eqb y.k y.k refl, ne_eqb j y.k (λ e. omega arith)) refl

  last_shape_lem : last_shape y ≡ shape_at y.k
  unfolding loaded_shape shape
  last_shape_lem = rw (eq-eqb y.k y.k refl, le-ltb y.k y.k (omega arith)) refl

  length_responded : (j : ℕ) → length (responded_block h w new j) ≡ loaded_sizes y y.k j
  unfolding responded_block
  length_responded j = length_fill (shape_at j) _ ∙ size_loaded y (entry_row h) y.k j

  -- one block: v has it as w has
  module _ (room : loaded_length y ≤ length w) (j : ℕ) (in_range : j ≤ y.k) (v : List Float) (same : length v ≡ length w)
      (as-was : (i : ℕ) → i < loaded_sizes y y.k j → get_or v (loaded_at y y.k j + i) ieee.zero ≡ get_or w (loaded_at y y.k j + i) ieee.zero) where
    block_stored : (n base step : ℕ) → Row (shape_at j) y.p n base step → 1 ≤ step → (g : ℕ → Float) → ((c : ℕ) → c < n → response_cell y new j c ≡ g c)
        → strided (loaded_at y y.k j + base) step n g v ≡ store (loaded_at y y.k j) (responded_block h w new j) v
    unfolding responded_block
    block_stored n base step z some g is =
        let size : size_of (shape_at j) ≡ loaded_sizes y y.k j = size_loaded y (entry_row h) y.k j in
        row_stored (shape_at j) y.p n base step z some g (loaded_at y y.k j) v (omega (arith, size, same, room, loaded_inside y y.k j in_range (omega arith)))
        (λ r c. cond (eqb r y.p) (response_cell y new j c) (cell_of (shape_at j) (loaded_block h w y.k j) r c))
        (λ c l. rw (eq-eqb y.p y.p refl) (is c l))
        (λ r c e d. rw (ne_eqb r y.p d)
        (cell_part ieee.zero (shape_at j) (loaded_at y y.k j) w r c e
        ∙ sym (as-was (place_of (shape_at j) r c) (omega (arith, size, place_below (shape_at j) r c e)))))

  -- ---- all blocks

  -- one block more
  stored_more : (l : List Target) (t : Target) (v : List Float)
      → stored (l ++ (t ∷ [])) v ≡ store (loaded_at y t.row t.col) (responded_block h w new t.col) (stored l v)
  unfolding store_response
  stored_more [] t v = refl
  stored_more (u ∷ l) t v = stored_more l t (store (loaded_at y u.row u.col) (responded_block h w new u.col) v)

  across_more : (n : ℕ) → stored (across y.k (suc n)) w ≡ store (loaded_at y y.k n) (responded_block h w new n) (stored (across y.k n) w)
  unfolding across
  across_more n = stored_more (across y.k n) (target y.k n) w

  module _ (room : loaded_length y ≤ length w) where
    block_room : (j : ℕ) → j ≤ y.k → loaded_at y y.k j + length (responded_block h w new j) ≤ length w
    block_room j l = omega (arith, length_responded j, loaded_inside y y.k j l (omega arith))

    length_across : (n : ℕ) → n ≤ y.k → length (stored (across y.k n) w) ≡ length w
    unfolding store_response across
    length_across zero l = refl
    length_across (suc n) l =
        let same : length (stored (across y.k n) w) ≡ length w = length_across n (omega arith) in
        ap length (across_more n)
        ∙ length_store (loaded_at y y.k n) (responded_block h w new n) (stored (across y.k n) w) (omega (arith, same, block_room n (omega arith)))
        ∙ same

    -- a later block is as it was
    later_block : (n : ℕ) → n ≤ y.k → (j : ℕ) → n ≤ j → j ≤ y.k → (i : ℕ) → i < loaded_sizes y y.k j
        → get_or (stored (across y.k n) w) (loaded_at y y.k j + i) ieee.zero ≡ get_or w (loaded_at y y.k j + i) ieee.zero
    unfolding store_response across
    later_block zero l j a b i m = refl
    later_block (suc n) l j a b i m =
        let same : length (stored (across y.k n) w) ≡ length w = length_across n (omega arith) in
        ap (λ (x : List Float). get_or x (loaded_at y y.k j + i) ieee.zero) (across_more n)
        ∙ store_else (loaded_at y y.k n) (responded_block h w new n) (stored (across y.k n) w) (omega (arith, same, block_room n (omega arith))) ieee.zero
        (loaded_at y y.k j + i) (outside (loaded_apart y y.k n (omega arith) (omega arith) y.k j b (omega arith) (λ p q. omega arith)))
        ∙ later_block n (omega arith) j (omega arith) b i m
      where
        outside : (loaded_at y y.k n + loaded_sizes y y.k n ≤ loaded_at y y.k j) ⊎ (loaded_at y y.k j + loaded_sizes y y.k j ≤ loaded_at y y.k n)
            → (loaded_at y y.k j + i < loaded_at y y.k n) ⊎ (loaded_at y y.k n + length (responded_block h w new n) ≤ loaded_at y y.k j + i)
        outside (inl q) = inr (omega (arith, length_responded n))
        outside (inr q) = inl (omega arith)

    module _ (ok : valid_layout y ≡ true) (rows : length new.zy ≡ y.q) where
      -- the fixed rows of the first n factors
      fixed_stored : (n : ℕ) → n ≤ y.k → fixed_rows y new.zy n w ≡ stored (across y.k n) w
      unfolding fixed_rows fixed_row store_response across
      fixed_stored zero l = refl
      fixed_stored (suc n) l =
          ap (fixed_row y new.zy n) (fixed_stored n (omega arith))
          ∙ block_stored room n (omega arith) (stored (across y.k n) w) (length_across n (omega arith)) (later_block n (omega arith) n (omega arith) (omega arith))
          (levels y n) y.p (last_rows y)
          (subst (λ (s : Shape). Row s y.p (levels y n) y.p (last_rows y)) (fixed_shape_lem n (omega arith)) (columns_row (last_rows y) (levels y n) y.p (omega arith)))
          (omega arith) (from new.zy (row_start y n))
          (λ c b. rw (ne_eqb n y.k (λ e. omega arith)) (any_default new.zy (sheet_row y n c) ieee.zero nan (omega (arith, rows, rows_within y ok n (omega arith)))))
          ∙ sym (across_more n)

    -- the last triangle: both copies are one
    last_one : (g : ℕ → Float) (v : List Float) → ((c : ℕ) → c < y.p → from new.xy 0 c ≡ g c) → from new.yy 0 0 ≡ g y.p → last_row y new.xy new.yy v ≡ strided (last_at y) 1 (last_rows y) g v
    unfolding last_row strided
    last_one g v a b =
        let here : last_at y + y.p + 0 * 1 ≡ last_at y + y.p * 1 = omega arith in
        rw (add-one, here, b) (ap (λ (l : List Float). set l (last_at y + y.p * 1) (g y.p)) (strided_ext (last_at y) 1 y.p (from new.xy 0) g v a))

  -- ---- the whole response

  pub rows_stored : valid_layout y ≡ true → loaded_length y ≤ length w → Prescribed y new → response_rows y new w ≡ stored (across y.k y.k ++ (target y.k y.k ∷ [])) w
  unfolding response_rows last_at
  rows_stored ok room prescribed =
      let many = prescribed_lengths y new prescribed in
      let v : List Float = stored (across y.k y.k) w in
      let g : ℕ → Float = response_cell y new y.k in
      ap (last_row y new.xy new.yy) (fixed_stored room ok many.0 y.k (omega arith))
      ∙ last_one room g v
      (λ c l. rw (eq-eqb y.k y.k refl, ne_eqb c y.p (λ e. omega arith)) (rw (zero-add c) (any_default new.xy c nan ieee.zero (omega (arith, many.1)))))
      (rw (eq-eqb y.k y.k refl, eq-eqb y.p y.p refl) (any_default new.yy 0 nan ieee.zero (omega (arith, many.2))))
      ∙ block_stored room y.k (omega arith) v (length_across room y.k (omega arith)) (later_block room y.k (omega arith) y.k (omega arith) (omega arith))
      (last_rows y) (start triangle y.p) 1
      (subst (λ (s : Shape). Row s y.p (last_rows y) (start triangle y.p) 1) last_shape_lem (triangle_row y.p))
      (omega arith) g (λ c l. refl)
      ∙ sym (stored_more (across y.k y.k) (target y.k y.k) w)
