-- Where the blocks lie: every block inside its length, and no two of them at one place.
use Prim.Native.Nat.{ℕ, zero, suc, ◌+◌, ◌≤◌, ◌<◌}
use mathlib.Core.Path.{◌≡◌, refl, sym, ap, ap₂, ◌∙◌}
use mathlib.Core.Bool.{Bool, true, false, ◌&&◌, cond, and-eq-true_iff}
use mathlib.Core.List.Memᴰ
use mathlib.Core.List.{List, [], ◌∷◌, ◌++◌, Memᴰ}
use mathlib.Core.Logic.{◌⊎◌, inl, inr, ⊎_elim, by_cases}
use native.Mathlib.Decide.{dec_lt}
use native.Mathlib.Omega.{arith}
use lib.Dec.{ltb, eqb}
use borrow.Author.Tests.{eqb-true, eq-eqb}
use Rattle.storage.specs.Shape.{Shape, size_of}
use Rattle.layout.specs.declared.Layout.{Layout}
use Rattle.layout.specs.Shapes.{
  pick,
  shape,
  loaded_shape,
  Target,
  target,
  factors,
  across,
  pairs,
  targets,
  cells_of,
  before,
  sizes,
  loaded_sizes,
  loaded_length,
  loaded_at,
  theta_at,
  working_at,
  sum_at,
  triangle_end,
}

-- ---- blocks that lie one behind the other, of any size and in any order

module _ (size : ℕ → ℕ → ℕ) where
  -- the first of the list starts at 0
  pub before_here : (t : Target) (l : List Target) (i j : ℕ) → (eqb t.row i && eqb t.col j) ≡ true → (before size (t ∷ l) i j ≡ 0) × (size t.row t.col ≡ size i j)
  unfolding before
  before_here t l i j e =
      let k = (and-eq-true_iff (eqb t.row i) (eqb t.col j)).0 e in
      (rw e, ap₂ size (eqb-true t.row i k.0) (eqb-true t.col j k.1))

  -- any other starts behind the first
  pub before_later : (t : Target) (l : List Target) (i j : ℕ) → (eqb t.row i && eqb t.col j) ≡ false
      → before size (t ∷ l) i j ≡ size t.row t.col + before size l i j
  unfolding before
  before_later t l i j e = rw e

  -- and is in the rest of the list
  pub member_later : (t : Target) (l : List Target) (i j : ℕ) → (eqb t.row i && eqb t.col j) ≡ false → Memᴰ (target i j) (t ∷ l) → Memᴰ (target i j) l
  member_later t l i j e m = ⊎_elim (λ q. absurd (differ q)) (λ m'. m') (Memᴰ.cases_cons m)
    where
      differ : target i j ≡ t → ⊥
      differ q =
          let a : (eqb t.row i && eqb t.col j) ≡ true =
          rw (eq-eqb t.row i (sym (ap (λ (u : Target). u.row) q)), eq-eqb t.col j (sym (ap (λ (u : Target). u.col) q))) in
          let b : ◌≡◌ {A = ℕ} (cond true 1 0) (cond false 1 0) = ap (λ (x : Bool). cond x 1 0) (sym a ∙ e) in
          omega arith

  -- a block of the list ends inside the list's cells
  pub block_inside : (l : List Target) (i j : ℕ) → Memᴰ (target i j) l → before size l i j + size i j ≤ cells_of size l
  unfolding cells_of
  block_inside [] i j m = absurd (Memᴰ.not-nil m)
  block_inside (t ∷ l) i j m = step (block_inside l i j) (eqb t.row i && eqb t.col j) refl
    where
      step : (Memᴰ (target i j) l → before size l i j + size i j ≤ cells_of size l) → (b : Bool) → (eqb t.row i && eqb t.col j) ≡ b
          → before size (t ∷ l) i j + size i j ≤ size t.row t.col + cells_of size l
      step rest true e = let k = before_here t l i j e in omega arith
      step rest false e = omega (arith, before_later t l i j e, rest (member_later t l i j e m))

  -- of two blocks of the list, one ends before the other starts
  pub blocks_apart : (l : List Target) (i j i' j' : ℕ) → Memᴰ (target i j) l → Memᴰ (target i' j') l → (i ≡ i' → j ≡ j' → ⊥)
      → (before size l i j + size i j ≤ before size l i' j') ⊎ (before size l i' j' + size i' j' ≤ before size l i j)
  blocks_apart [] i j i' j' m m' other = absurd (Memᴰ.not-nil m)
  blocks_apart (t ∷ l) i j i' j' m m' other =
      step (λ a a'. blocks_apart l i j i' j' a a' other) (eqb t.row i && eqb t.col j) refl (eqb t.row i' && eqb t.col j') refl
    where
      step : (Memᴰ (target i j) l → Memᴰ (target i' j') l → (before size l i j + size i j ≤ before size l i' j') ⊎ (before size l i' j' + size i' j' ≤ before size l i j))
          → (b : Bool) → (eqb t.row i && eqb t.col j) ≡ b → (b' : Bool) → (eqb t.row i' && eqb t.col j') ≡ b'
          → (before size (t ∷ l) i j + size i j ≤ before size (t ∷ l) i' j') ⊎ (before size (t ∷ l) i' j' + size i' j' ≤ before size (t ∷ l) i j)
      step rest true e true e' =
          let k = (and-eq-true_iff (eqb t.row i) (eqb t.col j)).0 e in
          let k' = (and-eq-true_iff (eqb t.row i') (eqb t.col j')).0 e' in
          absurd
          (other (sym (eqb-true t.row i k.0) ∙ eqb-true t.row i' k'.0) (sym (eqb-true t.col j k.1) ∙ eqb-true t.col j' k'.1))
      step rest true e false e' = let k = before_here t l i j e in inl (omega (arith, before_later t l i' j' e'))
      step rest false e true e' = let k = before_here t l i' j' e' in inr (omega (arith, before_later t l i j e))
      step rest false e false e' =
          ⊎_elim (λ h. inl (omega (arith, before_later t l i j e, before_later t l i' j' e'))) (λ h. inr (omega (arith, before_later t l i j e, before_later t l i' j' e')))
          (rest (member_later t l i j e m) (member_later t l i' j' e' m'))

-- ---- the blocks of a workspace are all in its list

in_factors : (k j : ℕ) → j < k → Memᴰ (target j j) (factors k)
unfolding factors
in_factors zero j h = absurd (omega arith)
in_factors (suc k) j h =
    by_cases (dec_lt j k) (λ l. Memᴰ.append_left (target k k ∷ []) (in_factors k j l))
    (λ l. let e : j ≡ k = omega arith in Memᴰ.append_right (factors k) (Memᴰ.head (ap (λ (x : ℕ). target x x) e)))

pub in_across : (i n j : ℕ) → j < n → Memᴰ (target i j) (across i n)
unfolding across
in_across i zero j h = absurd (omega arith)
in_across i (suc n) j h =
    by_cases (dec_lt j n) (λ l. Memᴰ.append_left (target i n ∷ []) (in_across i n j l))
    (λ l. let e : j ≡ n = omega arith in Memᴰ.append_right (across i n) (Memᴰ.head (ap (target i) e)))

in_pairs : (k i j : ℕ) → i < k → j < i → Memᴰ (target i j) (pairs k)
unfolding pairs
in_pairs zero i j h g = absurd (omega arith)
in_pairs (suc k) i j h g =
    by_cases (dec_lt i k) (λ l. Memᴰ.append_left (across k k) (in_pairs k i j l g))
    (λ l. let e : i ≡ k = omega arith in Memᴰ.append_right (pairs k) (rw e (in_across k k j (omega arith))))

-- every (i, j) with j ≤ i ≤ k
pub in_targets : (k i j : ℕ) → j ≤ i → i ≤ k → Memᴰ (target i j) (targets k)
unfolding targets
in_targets k i j h g =
    by_cases (dec_lt i k)
    (λ l. by_cases (dec_lt j i)
    (λ m. Memᴰ.append_left (target k k ∷ []) (Memᴰ.append_left (across k k) (Memᴰ.append_right (factors k) (in_pairs k i j l m))))
    (λ m. let e : i ≡ j = omega arith in
    rw e (Memᴰ.append_left (target k k ∷ []) (Memᴰ.append_left (across k k) (Memᴰ.append_left (pairs k) (in_factors k j (omega arith)))))))
    (λ l. let e : i ≡ k = omega arith in
    rw e
    (by_cases (dec_lt j k) (λ m. Memᴰ.append_left (target k k ∷ []) (Memᴰ.append_right (factors k ++ pairs k) (in_across k k j m)))
    (λ m. let q : j ≡ k = omega arith in Memᴰ.append_right (factors k ++ pairs k ++ across k k) (Memᴰ.head (ap (target k) q)))))

-- ---- a block's size asks no rows of entries

size_pick : (b : Bool) (s s' t t' : Shape) → size_of s ≡ size_of s' → size_of t ≡ size_of t' → size_of (pick b s t) ≡ size_of (pick b s' t')
size_pick true s s' t t' p q = p
size_pick false s s' t t' p q = q

module _ (y : Layout) where
  pub size_working : (row : ℕ → ℕ) (i j : ℕ) → size_of (shape y row i j) ≡ sizes y i j
  unfolding shape
  size_working row i j =
      size_pick (eqb i y.k) _ _ _ _ refl (size_pick (eqb i j) _ _ _ _ refl (size_pick y.sparse _ _ _ _ refl refl))

  pub size_loaded : (row : ℕ → ℕ) (i j : ℕ) → size_of (loaded_shape y row i j) ≡ loaded_sizes y i j
  unfolding loaded_shape
  size_loaded row i j = size_pick (eqb i j && ltb j y.k) _ _ _ _ refl (size_working row i j)

  -- ---- the blocks of a workspace

  module _ (i j : ℕ) (h : j ≤ i) (g : i ≤ y.k) where
    -- a loaded block lies inside the loaded doubles
    pub loaded_inside : loaded_at y i j + loaded_sizes y i j ≤ loaded_length y
    unfolding loaded_at triangle_end
    loaded_inside = block_inside (loaded_sizes y) (targets y.k) i j (in_targets y.k i j h g)

    -- a working block lies behind theta
    pub working_behind : theta_at y + y.k ≤ working_at y i j
    unfolding working_at
    working_behind = omega arith

    -- and before the logarithms' sum
    pub working_inside : working_at y i j + sizes y i j ≤ sum_at y
    unfolding working_at sum_at
    working_inside = omega (arith, block_inside (sizes y) (targets y.k) i j (in_targets y.k i j h g))

    module _ (i' j' : ℕ) (h' : j' ≤ i') (g' : i' ≤ y.k) (other : i ≡ i' → j ≡ j' → ⊥) where
      -- two loaded blocks share no place
      pub loaded_apart : (loaded_at y i j + loaded_sizes y i j ≤ loaded_at y i' j') ⊎ (loaded_at y i' j' + loaded_sizes y i' j' ≤ loaded_at y i j)
      unfolding loaded_at
      loaded_apart = blocks_apart (loaded_sizes y) (targets y.k) i j i' j' (in_targets y.k i j h g) (in_targets y.k i' j' h' g') other

      -- two working blocks neither
      pub working_apart : (working_at y i j + sizes y i j ≤ working_at y i' j') ⊎ (working_at y i' j' + sizes y i' j' ≤ working_at y i j)
      unfolding working_at
      working_apart =
          ⊎_elim (λ a. inl (omega arith)) (λ a. inr (omega arith))
          (blocks_apart (sizes y) (targets y.k) i j i' j' (in_targets y.k i j h g) (in_targets y.k i' j' h' g') other)

-- theta lies before the logarithms' sum
pub theta_inside : (y : Layout) → theta_at y + y.k ≤ sum_at y
unfolding sum_at
theta_inside y = omega arith
