-- Where the words of a sheet land: each in a cell of its own block, or nowhere.
use Prim.Native.Nat.{ℕ, ◌+◌, ◌-◌, ◌*◌, ◌≤◌, ◌<◌}
use mathlib.Core.Path.{◌≡◌, refl, sym, ap, ap₂, subst, ◌∙◌}
use mathlib.Core.Bool.{Bool, true, false, cond, and-eq-true_iff}
use mathlib.Core.Logic.{◌⊎◌, inl, inr, ⊎_elim, by_cases}
use native.Mathlib.Decide.{dec_lt}
use native.Mathlib.Omega.{arith}
use lib.Dec.{ltb, eqb}
use borrow.Author.Tests.{ltb-true, eqb-true, lt-ltb, le-ltb, eq-eqb, ne_eqb}
use Rattle.storage.specs.Shape.{Shape, diagonal, columns, entries, has_cell, place_of as cell_at}
use Rattle.storage.proofs.Places.{place_below, place_one_to_one, place_columns, place_diagonal, place_entries}
use Rattle.sheet.specs.Field.{nowhere}
use Rattle.layout.specs.declared.Layout.{Layout}
use Rattle.layout.specs.Shapes.{levels, shape, loaded_shape, loaded_sizes, loaded_at, last_rows, last_shape, fixed_shape}
use Rattle.heading_format.specs.Heading.{valid_layout}
use Rattle.layout.proofs.Places.{size_loaded, loaded_apart}
use Rattle.workspace.specs.Loaded.{row_start, sheet_row, in_block}
use Rattle.block_places.specs.sheet_rows.Blocks.{block_of_row}
use Rattle.block_places.proofs.sheet_rows.Rows.{in_block_lem, is_in_block, block_in_lem, block_one, block_is}
use Rattle.load_numbers.specs.word_address.Spread.{entry_place, fixed_place}
use Rattle.load_numbers.proofs.word_address.Places.{entry_none, entry_own, entry_mirror, entry_pair, fixed_none, fixed_row_lem}

module _ (y : Layout) (row : ℕ → ℕ) where
  -- ---- the shape of each loaded block

  pub shape_own : (j : ℕ) → j < y.k → loaded_shape y row j j ≡ diagonal (levels y j)
  unfolding loaded_shape
  shape_own j h = rw (eq-eqb j j refl, lt-ltb j y.k h)

  pub shape_sparse : (i j : ℕ) → j < i → i < y.k → y.sparse ≡ true → loaded_shape y row i j ≡ entries (levels y 0) row
  unfolding loaded_shape shape
  shape_sparse i j h g d = rw (ne_eqb i j (λ e. omega arith), ne_eqb i y.k (λ e. omega arith), d)

  pub shape_dense : (i j : ℕ) → j < i → i < y.k → y.sparse ≡ false → loaded_shape y row i j ≡ columns (levels y i) (levels y j)
  unfolding loaded_shape shape
  shape_dense i j h g d = rw (ne_eqb i j (λ e. omega arith), ne_eqb i y.k (λ e. omega arith), d)

  pub shape_fixed : (j : ℕ) → j < y.k → loaded_shape y row y.k j ≡ fixed_shape y j
  unfolding loaded_shape shape
  shape_fixed j h = rw (ne_eqb y.k j (λ e. omega arith), eq-eqb y.k y.k refl, ne_eqb j y.k (λ e. omega arith))

  pub shape_last : loaded_shape y row y.k y.k ≡ last_shape y
  unfolding loaded_shape shape
  shape_last = rw (eq-eqb y.k y.k refl, le-ltb y.k y.k (omega arith))

  -- ---- cells

  -- where cell (r, c) of loaded block (i, j) lies
  abbrev pub address : ℕ → ℕ → ℕ → ℕ → ℕ
  address i j r c = loaded_at y i j + cell_at (loaded_shape y row i j) r c

  -- cell (r, c) of loaded block (i, j)
  pub record Cell (i j r c : ℕ) : Type 0 where
    pub below : j ≤ i
    pub few : i ≤ y.k
    pub has : has_cell (loaded_shape y row i j) r c ≡ true

  -- a cell lies in its block
  pub cell_in : (i j r c : ℕ) → has_cell (loaded_shape y row i j) r c ≡ true → cell_at (loaded_shape y row i j) r c < loaded_sizes y i j
  cell_in i j r c h = omega (arith, place_below (loaded_shape y row i j) r c h, size_loaded y row i j)

  -- a place in loaded block (i, j)
  pub record In (i j P : ℕ) : Type 0 where
    pub below : j ≤ i
    pub few : i ≤ y.k
    pub starts : loaded_at y i j ≤ P
    pub ends : P < loaded_at y i j + loaded_sizes y i j

  pub cell_is_in : (i j r c : ℕ) → Cell i j r c → In i j (address i j r c)
  cell_is_in i j r c h = record { below = h.below; few = h.few; starts = omega arith; ends = omega (arith, cell_in i j r c h.has) }

  -- no place is in two blocks
  pub in_one : (i j i' j' P : ℕ) → In i j P → In i' j' P → (i ≡ i') × (j ≡ j')
  in_one i j i' j' P a b = by_cases (dec_lt i i') (λ l. absurd (other (λ e f. omega arith)))
      (λ l. by_cases (dec_lt i' i) (λ m. absurd (other (λ e f. omega arith)))
      (λ m. by_cases (dec_lt j j') (λ u. absurd (other (λ e f. omega arith)))
      (λ u. by_cases (dec_lt j' j) (λ v. absurd (other (λ e f. omega arith))) (λ v. (omega arith, omega arith)))))
    where
      other : (i ≡ i' → j ≡ j' → ⊥) → ⊥
      other q = ⊎_elim (λ h. omega arith) (λ h. omega arith) (loaded_apart y i j a.below a.few i' j' b.below b.few q)

  pub cell_one : (i j r c i' j' r' c' : ℕ) → Cell i j r c → Cell i' j' r' c' → address i j r c ≡ address i' j' r' c' → (i ≡ i') × (j ≡ j') × (r ≡ r') × (c ≡ c')
  cell_one i j r c i' j' r' c' a b e =
      let q = in_one i j i' j' (address i j r c) (cell_is_in i j r c a) (subst (In i' j') (sym e) (cell_is_in i' j' r' c' b)) in
      let t = same q.0 q.1 b.has e in
      (q.0, q.1, t.0, t.1)
    where
      same : i ≡ i' → j ≡ j' → has_cell (loaded_shape y row i' j') r' c' ≡ true → address i j r c ≡ address i' j' r' c' → (r ≡ r') × (c ≡ c')
      same p q h e =
          let s : loaded_shape y row i j ≡ loaded_shape y row i' j' = ap₂ (loaded_shape y row) p q in
          place_one_to_one (loaded_shape y row i j) r c r' c' a.has (subst (λ (x : Shape). has_cell x r' c' ≡ true) (sym s) h)
          (let u : cell_at (loaded_shape y row i j) r' c' ≡ cell_at (loaded_shape y row i' j') r' c' = ap (λ (x : Shape). cell_at x r' c') s in
          let v : loaded_at y i j ≡ loaded_at y i' j' = ap₂ (loaded_at y) p q in
          omega (arith, e, u, v))

  -- an entry is the one of its column, where the pair is sparse
  abbrev pub Sole : ℕ → ℕ → Type 0
  Sole col at = y.sparse ≡ true → in_block y 0 col ≡ true → in_block y 1 at ≡ true → at - row_start y 1 ≡ row (col - row_start y 0)

  module _ (ok : valid_layout y ≡ true) where
    -- a level's row, back from the row
    level_row : (j x : ℕ) → in_block y j x ≡ true → (x ≡ sheet_row y j (x - row_start y j)) × (x - row_start y j < levels y j)
    level_row j x e = let b = in_block_lem y j x e in let b₀ = b.0 in let b₁ = b.1 in (omega arith, omega arith)

    pub row_block : (j c : ℕ) → j < y.k → c < levels y j → j ≡ block_of_row y y.k (sheet_row y j c)
    row_block j c h g = sym (block_is y ok y.k j (sheet_row y j c) h (omega arith) (is_in_block y j (sheet_row y j c) (omega arith) (omega arith)))

    -- ---- fixed rows

    pub fixed_cell_lem : (j r c : ℕ) → j < y.k → c < levels y j → r ≤ y.p → Cell y.k j r c
    fixed_cell_lem j r c h g f =
        record {
          below = omega arith;
          few = omega arith;
          has = subst (λ (s : Shape). has_cell s r c ≡ true) (sym (shape_fixed j h)) (rw (lt-ltb c (levels y j) g, lt-ltb r (last_rows y) (omega arith)));
        }

    fixed_address : (j r c : ℕ) → j < y.k → address y.k j r c ≡ loaded_at y y.k j + (c * last_rows y + r)
    fixed_address j r c h = ap (λ (s : Shape). loaded_at y y.k j + cell_at s r c) (shape_fixed j h) ∙ ap (λ (x : ℕ). loaded_at y y.k j + x) (place_columns (last_rows y) (levels y j) r c)

    -- the word of row r at a level's row goes into the level's column
    pub fixed_meets : (j r c : ℕ) → j < y.k → c < levels y j → fixed_place y (sheet_row y j c) r ≡ address y.k j r c
    fixed_meets j r c h g =
        let q : sheet_row y j c - row_start y j ≡ c = omega arith in
        sym (fixed_row_lem y (sheet_row y j c) r j (row_block j c h g) h) ∙ ap (λ (x : ℕ). loaded_at y y.k j + (x * last_rows y + r)) q ∙ sym (fixed_address j r c h)

    -- and any row's word into that of a level, or nowhere
    pub record Fixed (x r P : ℕ) : Type 0 where
      pub block : ℕ
      pub level : ℕ
      pub cell : Cell y.k block r level
      pub small : block < y.k
      pub own : x ≡ sheet_row y block level
      pub there : P ≡ address y.k block r level

    pub fixed_lands : (x r : ℕ) → r ≤ y.p → (fixed_place y x r ≡ nowhere) ⊎ Fixed x r (fixed_place y x r)
    fixed_lands x r f = step (block_of_row y y.k x) refl
      where
        step : (j : ℕ) → j ≡ block_of_row y y.k x → (fixed_place y x r ≡ nowhere) ⊎ Fixed x r (fixed_place y x r)
        step j e =
            by_cases (dec_lt j y.k)
            (λ h. let b = level_row j x (subst (λ (t : ℕ). in_block y t x ≡ true) (sym e) (block_in_lem y y.k x (omega arith) (omega arith)).0) in
            let g = b.1 in
            inr
            (record {
              block = j;
              level = x - row_start y j;
              cell = fixed_cell_lem j r (x - row_start y j) h g f;
              small = h;
              own = b.0;
              there = sym (fixed_row_lem y x r j e h) ∙ sym (fixed_address j r (x - row_start y j) h);
            }))
            (λ h. inl (sym (fixed_none y x r j e (omega arith))))

    -- ---- Z'Z

    -- where the one pair is sparse, each column's row is one of block 1
    module _ (inner : y.sparse ≡ true → (y.k ≡ 2) × ((c : ℕ) → c < levels y 0 → row c < levels y 1)) where
      own_range : (i r c : ℕ) → i < y.k → has_cell (diagonal (levels y i)) r c ≡ true → (r < levels y i) × (c ≡ r)
      own_range i r c h e =
          let k = (and-eq-true_iff (ltb r (levels y i)) (eqb c r)).0 e in
          (ltb-true r (levels y i) k.0, eqb-true c r k.1)

      pair_range : (i j r c : ℕ) → j < i → i < y.k → has_cell (loaded_shape y row i j) r c ≡ true → (r < levels y i) × (c < levels y j)
      pair_range i j r c h g e = step y.sparse refl
        where
          step : (b : Bool) → y.sparse ≡ b → (r < levels y i) × (c < levels y j)
          step true q =
              let k = (and-eq-true_iff (ltb c (levels y 0)) (eqb r (row c))).0 (subst (λ (s : Shape). has_cell s r c ≡ true) (shape_sparse i j h g q) e) in
              let t = inner q in
              let two : y.k ≡ 2 = t.0 in
              let b : c < levels y 0 = ltb-true c (levels y 0) k.0 in
              let i₁ : 1 ≡ i = omega arith in
              let j₀ : 0 ≡ j = omega arith in (
                subst (λ (x : ℕ). r < levels y x) i₁ (subst (λ (x : ℕ). x < levels y 1) (sym (eqb-true r (row c) k.1)) (t.1 c b)),
                subst (λ (x : ℕ). c < levels y x) j₀ b,
              )
          step false q =
              let k = (and-eq-true_iff (ltb c (levels y j)) (ltb r (levels y i))).0 (subst (λ (s : Shape). has_cell s r c ≡ true) (shape_dense i j h g q) e) in
              (ltb-true r (levels y i) k.1, ltb-true c (levels y j) k.0)

      -- the place of cell (r, c) of a pair, as the code counts it
      pair_cell : (i j r c : ℕ) → j < i → i < y.k → has_cell (loaded_shape y row i j) r c ≡ true
          → cell_at (loaded_shape y row i j) r c ≡ cond y.sparse c (c * levels y i + r)
      pair_cell i j r c h g e = step y.sparse refl
        where
          step : (b : Bool) → y.sparse ≡ b → cell_at (loaded_shape y row i j) r c ≡ cond b c (c * levels y i + r)
          step true q =
              let k = (and-eq-true_iff (ltb c (levels y 0)) (eqb r (row c))).0 (subst (λ (s : Shape). has_cell s r c ≡ true) (shape_sparse i j h g q) e) in
              ap (λ (s : Shape). cell_at s r c) (shape_sparse i j h g q) ∙ ap (λ (x : ℕ). cell_at (entries (levels y 0) row) x c) (eqb-true r (row c) k.1)
              ∙ place_entries (levels y 0) row c
          step false q = ap (λ (s : Shape). cell_at s r c) (shape_dense i j h g q) ∙ place_columns (levels y i) (levels y j) r c

      -- an entry at a cell's column and row goes into that cell
      pub entry_meets : (i j r c : ℕ) → i < y.k → Cell i j r c → entry_place y (sheet_row y j c) (sheet_row y i r) ≡ address i j r c
      entry_meets i j r c g a = by_cases (dec_lt j i) pair (λ l. let e : i ≡ j = omega (arith, a.below) in own e)
        where
          own : i ≡ j → entry_place y (sheet_row y j c) (sheet_row y i r) ≡ address i j r c
          own e =
              let s : loaded_shape y row i j ≡ diagonal (levels y i) = ap (loaded_shape y row i) (sym e) ∙ shape_own i g in
              let b = own_range i r c g (subst (λ (x : Shape). has_cell x r c ≡ true) s a.has) in
              let same : sheet_row y j c ≡ sheet_row y i r = ap₂ (λ (u v : ℕ). sheet_row y u v) (sym e) b.1 in
              let q : sheet_row y i r - row_start y i ≡ r = omega arith in
              sym (entry_own y (sheet_row y j c) (sheet_row y i r) i (row_block i r g b.0) g same)
              ∙ ap₂ (λ (u v : ℕ). u + v) (ap (loaded_at y i) e) (q ∙ sym (ap (λ (x : Shape). cell_at x r c) s ∙ ap (cell_at (diagonal (levels y i)) r) b.1 ∙ place_diagonal (levels y i) r))

          pair : j < i → entry_place y (sheet_row y j c) (sheet_row y i r) ≡ address i j r c
          pair h =
              let b = pair_range i j r c h g a.has in
              let b₀ = b.0 in
              let b₁ = b.1 in
              let differ : sheet_row y j c ≡ sheet_row y i r → ⊥ =
              λ e. let z : j ≡ i = block_one y ok j i (sheet_row y j c) (omega arith) g (is_in_block y j (sheet_row y j c) (omega arith) (omega arith)) (subst (λ (x : ℕ). in_block y i x ≡ true) (sym e) (is_in_block y i (sheet_row y i r) (omega arith) (omega arith))) in omega arith in
              let q : sheet_row y i r - row_start y i ≡ r = omega arith in
              let p : sheet_row y j c - row_start y j ≡ c = omega arith in
              sym (entry_pair y (sheet_row y j c) (sheet_row y i r) i (row_block i r g b.0) g differ j (row_block j c (omega arith) b.1) h)
              ∙ ap₂ (λ (u v : ℕ). loaded_at y i j + cond y.sparse u (u * levels y i + v)) p q
              ∙ ap (λ (x : ℕ). loaded_at y i j + x) (sym (pair_cell i j r c h g a.has))

      -- and any entry into the cell of its column and row, or nowhere
      pub record Entered (col at P : ℕ) : Type 0 where
        pub i : ℕ
        pub j : ℕ
        pub r : ℕ
        pub c : ℕ
        pub cell : Cell i j r c
        pub small : i < y.k
        pub column : col ≡ sheet_row y j c
        pub line : at ≡ sheet_row y i r
        pub there : P ≡ address i j r c

      pub entry_lands : (col at : ℕ) → Sole col at → (entry_place y col at ≡ nowhere) ⊎ Entered col at (entry_place y col at)
      entry_lands col at sole = step (block_of_row y y.k at) (block_of_row y y.k col) refl refl
        where
          has_row : (i x : ℕ) → i ≡ block_of_row y y.k x → i < y.k → in_block y i x ≡ true
          has_row i x e h = subst (λ (t : ℕ). in_block y t x ≡ true) (sym e) (block_in_lem y y.k x (omega arith) (omega arith)).0

          pair_has : (i j : ℕ) → j < i → i < y.k → in_block y i at ≡ true → in_block y j col ≡ true → has_cell (loaded_shape y row i j) (at - row_start y i) (col - row_start y j) ≡ true
          pair_has i j h g a b = dense y.sparse refl
            where
              dense : (t : Bool) → y.sparse ≡ t → has_cell (loaded_shape y row i j) (at - row_start y i) (col - row_start y j) ≡ true
              dense true q =
                  let two : y.k ≡ 2 = (inner q).0 in
                  let i₁ : i ≡ 1 = omega arith in
                  let j₀ : j ≡ 0 = omega arith in
                  subst (λ (s : Shape). has_cell s (at - row_start y i) (col - row_start y j) ≡ true) (sym (shape_sparse i j h g q))
                  (rw (
                    lt-ltb (col - row_start y j) (levels y 0) (subst (λ (x : ℕ). col - row_start y j < levels y x) j₀ (level_row j col b).1),
                    eq-eqb (at - row_start y i) (row (col - row_start y j))
                        (ap (λ (x : ℕ). at - row_start y x) i₁ ∙ sole q (subst (λ (x : ℕ). in_block y x col ≡ true) j₀ b) (subst (λ (x : ℕ). in_block y x at ≡ true) i₁ a) ∙ ap (λ (x : ℕ). row (col - row_start y x)) (sym j₀)),
                  ))
              dense false q =
                  subst (λ (s : Shape). has_cell s (at - row_start y i) (col - row_start y j) ≡ true) (sym (shape_dense i j h g q))
                  (rw (lt-ltb (col - row_start y j) (levels y j) (level_row j col b).1, lt-ltb (at - row_start y i) (levels y i) (level_row i at a).1))

          pair : (i j : ℕ) → i ≡ block_of_row y y.k at → i < y.k → (col ≡ at → ⊥) → j ≡ block_of_row y y.k col → j < i → Entered col at (entry_place y col at)
          pair i j e g q f h =
              let a = has_row i at e g in
              let b = has_row j col f (omega arith) in
              let u = pair_has i j h g a b in
              record {
                i = i;
                j = j;
                r = at - row_start y i;
                c = col - row_start y j;
                cell = record { below = omega arith; few = omega arith; has = u };
                small = g;
                column = (level_row j col b).0;
                line = (level_row i at a).0;
                there = sym (entry_pair y col at i e g q j f h) ∙ ap (λ (x : ℕ). loaded_at y i j + x) (sym (pair_cell i j (at - row_start y i) (col - row_start y j) h g u));
              }

          own : (i : ℕ) → i ≡ block_of_row y y.k at → i < y.k → col ≡ at → Entered col at (entry_place y col at)
          own i e g q =
              let a = has_row i at e g in
              let b = level_row i at a in
              record {
                i = i;
                j = i;
                r = at - row_start y i;
                c = at - row_start y i;
                cell = record {
                  below = omega arith;
                  few = omega arith;
                  has = subst (λ (s : Shape). has_cell s (at - row_start y i) (at - row_start y i) ≡ true) (sym (shape_own i g))
                      (rw (lt-ltb (at - row_start y i) (levels y i) b.1, eq-eqb (at - row_start y i) (at - row_start y i) refl));
                };
                small = g;
                column = q ∙ b.0;
                line = b.0;
                there = sym (entry_own y col at i e g q)
                    ∙ ap (λ (x : ℕ). loaded_at y i i + x) (sym (ap (λ (s : Shape). cell_at s (at - row_start y i) (at - row_start y i)) (shape_own i g) ∙ place_diagonal (levels y i) (at - row_start y i)));
              }

          unequal : (i j : ℕ) → i ≡ block_of_row y y.k at → j ≡ block_of_row y y.k col → i < y.k → (col ≡ at → ⊥) → (entry_place y col at ≡ nowhere) ⊎ Entered col at (entry_place y col at)
          unequal i j e f g q =
              by_cases (dec_lt j i) (λ h. inr (pair i j e g q f h)) (λ h. inl (sym (entry_mirror y col at i e g q j f (omega arith))))

          step : (i j : ℕ) → i ≡ block_of_row y y.k at → j ≡ block_of_row y y.k col → (entry_place y col at ≡ nowhere) ⊎ Entered col at (entry_place y col at)
          step i j e f =
              by_cases (dec_lt i y.k)
              (λ g. by_cases (dec_lt col at) (λ u. unequal i j e f g (λ z. omega arith))
              (λ u. by_cases (dec_lt at col) (λ v. unequal i j e f g (λ z. omega arith)) (λ v. inr (own i e g (omega arith)))))
              (λ g. inl (sym (entry_none y col at i e (omega arith))))
