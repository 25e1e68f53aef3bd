-- The cells before a block, by the order of the targets.
use Prim.Native.Nat.{ℕ, zero, suc, ◌+◌, ◌≤◌, ◌<◌}
use mathlib.Core.Path.{◌≡◌, refl, ap, subst, ◌∙◌}
use mathlib.Core.Bool.{false, ◌&&◌}
use mathlib.Core.List.{List, [], ◌∷◌, ◌++◌, append_assoc}
use mathlib.Core.Logic.{by_cases}
use native.Mathlib.Decide.{dec_lt}
use native.Mathlib.Omega.{arith}
use lib.Dec.{eqb}
use borrow.Author.Tests.{eq-eqb, ne_eqb}
use Rattle.layout.specs.Shapes.{Target, target, factors, across, pairs, targets, cells_of, before}
use Rattle.layout.proofs.Formula.{cells_append, cells_targets}
use Rattle.block_places.proofs.block_sizes.Growing.{Grows, factors_grow, across_grow, pairs_grow, grow_split}

-- block (i, j) is none of a list
abbrev Without : ℕ → ℕ → List Target → Type 0
Without i j [] = Unit {0}
Without i j (t ∷ l) = ((eqb t.row i && eqb t.col j) ≡ false) × Without i j l

without_append : (i j : ℕ) (a b : List Target) → Without i j a → Without i j b → Without i j (a ++ b)
without_append i j [] b p q = q
without_append i j (t ∷ a) b p q = (p.0, without_append i j a b p.1 q)

other_row : (i j r c : ℕ) → (r ≡ i → ⊥) → (eqb r i && eqb c j) ≡ false
other_row i j r c h = rw (ne_eqb r i h)

other_column : (i j r c : ℕ) → r ≡ i → (c ≡ j → ⊥) → (eqb r i && eqb c j) ≡ false
other_column i j r c e h = rw (eq-eqb r i e, ne_eqb c j h)

-- none of a list that grows, where it is none of the pieces
without_grow : (i j : ℕ) {l g : ℕ → List Target} → Grows l g → (n : ℕ) → ((t : ℕ) → t < n → Without i j (g t)) → Without i j (l n)
without_grow i j e zero h = rw e.none tt
without_grow i j {l} {g} e (suc n) h =
    rw (e.more n) (without_append i j (l n) (g n) (without_grow i j e n (λ t m. h t (omega arith))) (h n (omega arith)))

-- none of a list of one other block
without_one : (i j r c : ℕ) → (r ≡ i → c ≡ j → ⊥) → Without i j (target r c ∷ [])
without_one i j r c h = (
  by_cases (dec_lt r i) (λ l. other_row i j r c (λ e. omega arith))
      (λ l. by_cases (dec_lt i r) (λ m. other_row i j r c (λ e. omega arith)) (λ m. let e : r ≡ i = omega arith in other_column i j r c e (h e))),
  tt,
)

-- no factor before it, and none off the diagonal
without_factors : (i j n : ℕ) → ((t : ℕ) → t < n → t ≡ i → t ≡ j → ⊥) → Without i j (factors n)
without_factors i j n h = without_grow i j factors_grow n (λ t l. without_one i j t t (h t l))

-- no block to its left, and none of another row
without_across : (i j r n : ℕ) → ((c : ℕ) → c < n → r ≡ i → c ≡ j → ⊥) → Without i j (across r n)
without_across i j r n h = without_grow i j (across_grow r) n (λ c l. without_one i j r c (h c l))

-- no pair of the rows above, and none at or above the diagonal
without_pairs : (i j n : ℕ) → (n ≤ i) → Without i j (pairs n)
without_pairs i j n h = without_grow i j pairs_grow n (λ r l. without_across i j r r (λ c m e q. omega arith))

module _ (size : ℕ → ℕ → ℕ) where
  -- what stands before a block that is the next of the list
  before_split : (i j : ℕ) (a b : List Target) → Without i j a → before size (a ++ (target i j ∷ b)) i j ≡ cells_of size a
  unfolding before cells_of
  before_split i j [] b h = rw (eq-eqb i i refl, eq-eqb j j refl)
  before_split i j (t ∷ a) b h = rw h.0 (ap (λ (x : ℕ). size t.row t.col + x) (before_split i j a b h.1))

  -- a factor: the factors before it
  pub before_factor : (k j : ℕ) → j < k → before size (targets k) j j ≡ cells_of size (factors j)
  unfolding targets
  before_factor k j h =
      let r = grow_split factors_grow j k h in
      let e : targets k ≡ factors j ++ (target j j ∷ (r.0 ++ (pairs k ++ (across k k ++ (target k k ∷ []))))) =
      rw r.1 (simp append_assoc) in
      ap (λ (l : List Target). before size l j j) e ∙ before_split j j (factors j) _ (without_factors j j j (λ t l p q. omega arith))

  -- any other: all factors, the pairs of the rows above, and the blocks to its left
  row_split : (i j : ℕ) (b : List Target) (k : ℕ) → i ≤ k → Without i j (factors k) → targets k ≡ factors k ++ (pairs i ++ (across i j ++ (target i j ∷ b)))
      → before size (targets k) i j ≡ cells_of size (factors k) + cells_of size (pairs i) + cells_of size (across i j)
  row_split i j b k g w e =
      let a : List Target = factors k ++ (pairs i ++ across i j) in
      let s : factors k ++ (pairs i ++ (across i j ++ (target i j ∷ b))) ≡ a ++ (target i j ∷ b) = simp append_assoc in
      ap (λ (l : List Target). before size l i j) (e ∙ s)
      ∙ before_split i j a b
      (without_append i j (factors k) (pairs i ++ across i j) w
      (without_append i j (pairs i) (across i j) (without_pairs i j i (omega arith)) (without_across i j i j (λ c l p t. omega arith))))
      ∙ omega (arith, cells_append size (factors k) (pairs i ++ across i j), cells_append size (pairs i) (across i j))

  before_pair : (k i j : ℕ) → j < i → i < k → before size (targets k) i j ≡ cells_of size (factors k) + cells_of size (pairs i) + cells_of size (across i j)
  unfolding targets
  before_pair k i j h g =
      let r = grow_split pairs_grow i k g in
      let s = grow_split (across_grow i) j i h in
      row_split i j (s.0 ++ (r.0 ++ (across k k ++ (target k k ∷ [])))) k (omega arith) (without_factors i j k (λ t l p q. omega arith))
      (rw (r.1, s.1) (simp append_assoc))

  before_fixed : (k j : ℕ) → j < k → before size (targets k) k j ≡ cells_of size (factors k) + cells_of size (pairs k) + cells_of size (across k j)
  unfolding targets
  before_fixed k j h =
      let s = grow_split (across_grow k) j k h in
      row_split k j (s.0 ++ (target k k ∷ [])) k (omega arith) (without_factors k j k (λ t l p q. omega arith))
      (rw s.1 (simp append_assoc))

  before_last : (k : ℕ) → before size (targets k) k k ≡ cells_of size (factors k) + cells_of size (pairs k) + cells_of size (across k k)
  unfolding targets
  before_last k = row_split k k [] k (omega arith) (without_factors k k k (λ t l p q. omega arith)) (simp append_assoc)

  -- all of them as one
  pub before_row : (k i j : ℕ) → j ≤ i → i ≤ k → (i ≡ j → i < k → ⊥)
      → before size (targets k) i j ≡ cells_of size (factors k) + cells_of size (pairs i) + cells_of size (across i j)
  before_row k i j h g n =
      by_cases (dec_lt i k) (λ l. before_pair k i j (by_cases (dec_lt j i) (λ m. m) (λ m. absurd (n (omega arith) l))) l)
      (λ l. let e : k ≡ i = omega arith in
      subst (λ (x : ℕ). before size (targets k) x j ≡ cells_of size (factors k) + cells_of size (pairs x) + cells_of size (across x j)) e
      (by_cases (dec_lt j k) (before_fixed k j)
      (λ m. let q : k ≡ j = omega arith in
      subst (λ (x : ℕ). before size (targets k) k x ≡ cells_of size (factors k) + cells_of size (pairs k) + cells_of size (across k x)) q (before_last k))))

  -- the last triangle ends where all blocks end
  pub last_ends : (k : ℕ) → before size (targets k) k k + size k k ≡ cells_of size (targets k)
  last_ends k = omega (arith, before_last k, cells_targets size k)
