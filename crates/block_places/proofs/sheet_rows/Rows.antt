-- The rows of a valid layout's blocks: no row is in two blocks.
use Prim.Native.Nat.{ℕ, zero, suc, ◌+◌, ◌*◌, ◌/◌, ◌%◌, ◌≤◌, ◌<◌}
use mathlib.Core.Path.{◌≡◌, refl, sym, ap, subst, ◌∙◌}
use mathlib.Core.Bool.{Bool, true, false, cond, and-eq-true_iff}
use mathlib.Core.List.{List}
use mathlib.Core.Logic.{◌⊎◌, inl, inr, by_cases}
use native.Mathlib.Decide.{dec_lt}
use native.Mathlib.Numerals.{add-one}
use native.Mathlib.Omega.{arith}
use lib.Dec.{ltb, leb, eqb}
use lib.ListN.{length, get_or, set}
use lib.Seq.{get_or-set_same, get_or-set_other}
use borrow.Author.Tests.{ltb-true, leb-true, lt-ltb, le-leb}
use Rattle.layout.specs.declared.Layout.{Layout}
use Rattle.layout.specs.Blocks.{sum}
use Rattle.layout.specs.Shapes.{levels, sheet_index}
use Rattle.layout.proofs.Sums.{sum_more, sum_small, sum_le}
use Rattle.heading_format.specs.Heading.{sheet_levels, valid_layout}
use Rattle.heading_format.proofs.Valid.{is_valid}
use Rattle.heading_format.proofs.Sorted.{order_below, order_apart, levels_at_lem}
use Rattle.workspace.specs.Loaded.{row_start, in_block}
use Rattle.block_places.specs.sheet_rows.Blocks.{block_of_row}

module _ (y : Layout) where
  pub sheet_none : (i : ℕ) → 0 ≡ sheet_levels y 0 i
  unfolding sheet_levels
  sheet_none i = refl

  pub sheet_more : (i s : ℕ) (m r : ℕ) → m ≡ sheet_levels y s i → r ≡ cond (eqb (sheet_index y s) i) (levels y s) m → r ≡ sheet_levels y (s + 1) i
  unfolding sheet_levels
  sheet_more i s m r e f = rw add-one (f ∙ ap (λ (x : ℕ). cond (eqb (sheet_index y s) i) (levels y s) x) e)

  -- ---- what a row is in

  pub in_block_lem : (j x : ℕ) → in_block y j x ≡ true → (row_start y j ≤ x) × (x < row_start y j + levels y j)
  in_block_lem j x e =
      let k = (and-eq-true_iff (leb (row_start y j) x) (ltb x (row_start y j + levels y j))).0 e in
      (leb-true (row_start y j) x k.0, ltb-true x (row_start y j + levels y j) k.1)

  pub is_in_block : (j x : ℕ) → row_start y j ≤ x → x < row_start y j + levels y j → in_block y j x ≡ true
  is_in_block j x h g = (and-eq-true_iff (leb (row_start y j) x) (ltb x (row_start y j + levels y j))).1 (le-leb (row_start y j) x h, lt-ltb x (row_start y j + levels y j) g)

  -- the block that is answered, where there is one, has the row
  pub block_in_lem : (n x : ℕ) → n ≤ y.k → block_of_row y n x < y.k → (in_block y (block_of_row y n x) x ≡ true) × (block_of_row y n x < n)
  unfolding block_of_row
  block_in_lem zero x g h = absurd (omega arith)
  block_in_lem (suc n) x g h = step (block_in_lem n x (omega arith)) (in_block y n x) refl h
    where
      step : (block_of_row y n x < y.k → (in_block y (block_of_row y n x) x ≡ true) × (block_of_row y n x < n)) → (b : Bool) → in_block y n x ≡ b → cond b n (block_of_row y n x) < y.k → (in_block y (cond b n (block_of_row y n x)) x ≡ true) × (cond b n (block_of_row y n x) < suc n)
      step f true e l = (e, omega arith)
      step f false e l = let r = f l in let b = r.1 in (r.0, omega arith)

  pub block_none : (x : ℕ) → y.k ≡ block_of_row y 0 x
  unfolding block_of_row
  block_none x = refl

  pub block_more : (j x b r : ℕ) → b ≡ block_of_row y j x → r ≡ cond (in_block y j x) j b → r ≡ block_of_row y (j + 1) x
  unfolding block_of_row
  block_more j x b r e f = rw add-one (f ∙ ap (λ (t : ℕ). cond (in_block y j x) j t) e)

  module _ (ok : valid_layout y ≡ true) where
    abbrev sheet_m : ℕ → ℕ
    sheet_m = sheet_levels y y.k

    sheet_small : (n i : ℕ) → n ≤ y.k → sheet_levels y n i ≤ 65535
    unfolding sheet_levels
    sheet_small zero i h = omega arith
    sheet_small (suc n) i h = step (sheet_small n i (omega arith)) (eqb (sheet_index y n) i)
      where
        step : sheet_levels y n i ≤ 65535 → (b : Bool) → cond b (levels y n) (sheet_levels y n i) ≤ 65535
        step f true = ((is_valid y ok).level n (omega arith)).1
        step f false = f

    pub levels_small : (i : ℕ) → sheet_m i ≤ 65535
    levels_small i = sheet_small y.k i (omega arith)

    pub rows_small : (n : ℕ) → sum sheet_m n ≤ n * 65535
    rows_small n = sum_small sheet_m 65535 n (λ i h. levels_small i)

    pub start_small : (j : ℕ) → j < y.k → row_start y j ≤ 524280
    start_small j h = omega (arith, rows_small (sheet_index y j), order_below y ok j h, (is_valid y ok).blocks.1)

    -- a block ends before each that comes later in the sheet starts
    ends : (i j : ℕ) → i < y.k → sheet_index y i < sheet_index y j → row_start y i + levels y i ≤ row_start y j
    ends i j h g = omega (arith, levels_at_lem y ok i h, sum_more sheet_m (sheet_index y i), sum_le sheet_m (sheet_index y i + 1) (sheet_index y j) (omega arith))

    -- and all end with the sheet's rows
    pub rows_end : (j : ℕ) → j < y.k → row_start y j + levels y j ≤ sum sheet_m y.k
    rows_end j h = omega (arith, levels_at_lem y ok j h, sum_more sheet_m (sheet_index y j), sum_le sheet_m (sheet_index y j + 1) y.k (omega (arith, order_below y ok j h)))

    -- one block has a sheet index
    pub index_one : (i j : ℕ) → i < y.k → j < y.k → sheet_index y i ≡ sheet_index y j → i ≡ j
    index_one i j h g e =
        by_cases (dec_lt i j) (λ u. absurd (order_apart y ok i j u g e))
        (λ u. by_cases (dec_lt j i) (λ v. absurd (order_apart y ok j i v h (sym e))) (λ v. omega arith))

    -- two blocks have no row in common
    pub rows_apart : (i j : ℕ) → i < y.k → j < y.k → (i ≡ j → ⊥) → (row_start y i + levels y i ≤ row_start y j) ⊎ (row_start y j + levels y j ≤ row_start y i)
    rows_apart i j h g other =
        by_cases (dec_lt (sheet_index y i) (sheet_index y j)) (λ l. inl (ends i j h l))
        (λ l. by_cases (dec_lt (sheet_index y j) (sheet_index y i)) (λ m. inr (ends j i g m)) (λ m. absurd (other (index_one i j h g (omega arith)))))

    -- one block has a row
    pub block_one : (i j x : ℕ) → i < y.k → j < y.k → in_block y i x ≡ true → in_block y j x ≡ true → i ≡ j
    block_one i j x h g a b =
        let p = in_block_lem i x a in
        let q = in_block_lem j x b in
        let p₀ = p.0 in
        let p₁ = p.1 in
        let q₀ = q.0 in
        let q₁ = q.1 in
        by_cases (dec_lt (sheet_index y i) (sheet_index y j)) (λ l. absurd (omega (arith, ends i j h l)))
        (λ l. by_cases (dec_lt (sheet_index y j) (sheet_index y i)) (λ m. absurd (omega (arith, ends j i g m))) (λ m. index_one i j h g (omega arith)))

    pub block_is : (n j x : ℕ) → j < n → n ≤ y.k → in_block y j x ≡ true → block_of_row y n x ≡ j
    unfolding block_of_row
    block_is zero j x h g e = absurd (omega arith)
    block_is (suc n) j x h g e = step (λ l. block_is n j x l (omega arith) e) (in_block y n x) refl
      where
        step : (j < n → block_of_row y n x ≡ j) → (b : Bool) → in_block y n x ≡ b → cond b n (block_of_row y n x) ≡ j
        step f true q = block_one n j x (omega arith) (omega arith) q e
        step f false q =
            by_cases (dec_lt j n) f
            (λ l. let z : n ≡ j = omega arith in absurd (let t : ◌≡◌ {A = ℕ} 0 1 = ap (λ (b : Bool). cond b 0 1) (sym e ∙ ap (λ (s : ℕ). in_block y s x) (sym z) ∙ q) in omega arith))

-- ---- a list filled from its start: each of its first n numbers is what it must be, and then one more
pub filled_more : (P : ℕ → ℕ → Type 0) (l : List ℕ) (n v : ℕ) → n < length l → ((j : ℕ) → j < n → P j (get_or l j 0)) → P n v
    → (j : ℕ) → j < n + 1 → P j (get_or (set l n v) j 0)
filled_more P l n v h f p j g =
    by_cases (dec_lt j n) (λ b. subst (P j) (sym (get_or-set_other l n j v 0 (λ e. omega arith))) (f j b))
    (λ b. let e : n ≡ j = omega arith in subst (λ (x : ℕ). P x (get_or (set l n v) x 0)) e (subst (P n) (sym (get_or-set_same l n v 0 h)) p))

pub split_nine : (t i j : ℕ) → t ≡ i * 9 + j → j < 9 → (t / 9 ≡ i) × (t % 9 ≡ j)
split_nine t i j e h = (omega arith, omega arith)
