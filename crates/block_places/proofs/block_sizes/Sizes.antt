-- The cells of each block of a valid layout, loaded or working, in closed form and in bounds.
use Prim.Native.Nat.{ℕ, ◌+◌, ◌*◌, ◌/◌, ◌≤◌, ◌<◌}
use mathlib.Core.Path.{◌≡◌, refl, sym, subst, ◌∙◌}
use mathlib.Core.Bool.{Bool, true, false, ◌&&◌}
use mathlib.Core.Logic.{◌⊎◌, inl, inr, by_cases}
use native.Mathlib.Decide.{dec_lt}
use native.Mathlib.Nat.{mul-le-mul}
use native.Mathlib.Omega.{arith}
use Rattle.layout.specs.declared.Layout.{Layout}
use Rattle.layout.specs.declared.FactorKind.{FactorKind}
use Rattle.layout.specs.declared.FactorKind.TheVariants.{Diagonal, Packed}
use Rattle.layout.specs.Shapes.{levels, factor_kind, sizes, factors, across, pairs, targets, cells_of, doubles_needed, sum_at, triangle_end, last_rows}
use Rattle.heading_format.specs.Heading.{valid_layout}
use Rattle.heading_format.proofs.Valid.{is_valid}
use Rattle.layout.proofs.Formula.{
  cells_targets,
  diagonal_factor,
  packed_factor,
  cross_dense,
  cross_sparse,
  fixed_size,
  last_size,
  loaded_factor,
  loaded_other,
  loaded_last,
}
use Rattle.block_places.specs.block_sizes.Kind.{sizes_of}
use Rattle.block_places.proofs.block_sizes.Growing.{sums_small, factors_sums, across_sums, pairs_sums}

-- more than the cells of any block
abbrev pub many : ℕ
many = 4294967296

false_true : false ≡ true → ⊥
false_true e = let z : ◌≡◌ {A = ℕ} 0 1 = cc in omega arith

pub below : (j k : ℕ) → j ≤ k → (j ≡ k → ⊥) → j < k
below j k h g = by_cases (dec_lt j k) (λ l. l) (λ l. absurd (g (omega arith)))

pub not_both : (a b : Bool) → (a ≡ false) ⊎ (b ≡ false) → (a && b) ≡ false
not_both false b h = refl
not_both true b (inl e) = absurd (false_true (sym e))
not_both true b (inr e) = e

pub product_small : (a b : ℕ) → a ≤ 65536 → b ≤ 65536 → a * b ≤ many
product_small a b h g = omega (arith, mul-le-mul h g)

half_small : (m s : ℕ) → m ≤ 65535 → 2 * s ≡ m * (m + 1) → s ≤ many
half_small m s h e = omega (arith, mul-le-mul h h)

half_is : (a s : ℕ) → 2 * s ≡ a → a / 2 ≡ s
half_is a s e = omega arith

module _ (y : Layout) (ok : valid_layout y ≡ true) where
  pub few_blocks : y.k ≤ 8
  few_blocks = (is_valid y ok).blocks.1

  pub few_effects : y.p ≤ 32
  few_effects = (is_valid y ok).effects.1

  pub few_levels : (j : ℕ) → j < y.k → levels y j ≤ 65535
  few_levels j h = ((is_valid y ok).level j h).1

  -- ---- closed forms, one for each way out of the code

  -- a factor that is a diagonal
  pub kind_diagonal : (b : Bool) (j : ℕ) → j < y.k → (b ≡ true) ⊎ (factor_kind y j ≡ Diagonal) → sizes_of y b j j ≡ levels y j
  kind_diagonal true j h why = loaded_factor y j h
  kind_diagonal false j h (inl e) = absurd (false_true e)
  kind_diagonal false j h (inr d) = diagonal_factor y j h d

  -- and one that is packed
  pub kind_packed : (b : Bool) (j : ℕ) → j < y.k → b ≡ false → factor_kind y j ≡ Packed → sizes_of y b j j ≡ levels y j * (levels y j + 1) / 2
  kind_packed true j h e d = absurd (false_true (sym e))
  kind_packed false j h e d = sym (half_is (levels y j * (levels y j + 1)) (sizes y j j) (packed_factor y j h d))

  -- a pair, and fixed rows, are loaded as they work
  kind_other : (b : Bool) (i j : ℕ) → j < i → sizes_of y b i j ≡ sizes y i j
  kind_other true i j h = loaded_other y i j h
  kind_other false i j h = refl

  pub kind_sparse : (b : Bool) (i j : ℕ) → j < i → i < y.k → y.sparse ≡ true → sizes_of y b i j ≡ levels y 0
  kind_sparse b i j h g s = kind_other b i j h ∙ cross_sparse y i j h g s

  pub kind_dense : (b : Bool) (i j : ℕ) → j < i → i < y.k → y.sparse ≡ false → sizes_of y b i j ≡ levels y i * levels y j
  kind_dense b i j h g s = kind_other b i j h ∙ cross_dense y i j h g s

  pub kind_fixed : (b : Bool) (j : ℕ) → j < y.k → sizes_of y b y.k j ≡ last_rows y * levels y j
  kind_fixed b j h = kind_other b y.k j h ∙ fixed_size y j h

  pub kind_last : (b : Bool) → sizes_of y b y.k y.k ≡ (y.p + 1) * (y.p + 2) / 2
  kind_last true = loaded_last y ∙ last_size y
  kind_last false = last_size y

  -- ---- bounds

  factor_small : (b : Bool) (j : ℕ) → j < y.k → sizes_of y b j j ≤ many
  factor_small true j h = omega (arith, loaded_factor y j h, few_levels j h)
  factor_small false j h = step (factor_kind y j) refl
    where
      step : (t : FactorKind) → factor_kind y j ≡ t → sizes y j j ≤ many
      step Diagonal e = omega (arith, diagonal_factor y j h e, few_levels j h)
      step Packed e = half_small (levels y j) (sizes y j j) (few_levels j h) (packed_factor y j h e)

  pair_small : (b : Bool) (i j : ℕ) → j < i → i < y.k → sizes_of y b i j ≤ many
  pair_small b i j h g = step y.sparse refl
    where
      step : (t : Bool) → y.sparse ≡ t → sizes_of y b i j ≤ many
      step true e = omega (arith, kind_sparse b i j h g e, few_levels 0 (omega arith))
      step false e = omega (arith, kind_dense b i j h g e, product_small (levels y i) (levels y j) (omega (arith, few_levels i g)) (omega (arith, few_levels j (omega arith))))

  last_small : (b : Bool) (j : ℕ) → j ≤ y.k → sizes_of y b y.k j ≤ many
  last_small b j h =
      by_cases (dec_lt j y.k)
      (λ l. omega (arith, kind_fixed b j l, product_small (last_rows y) (levels y j) (omega (arith, few_effects)) (omega (arith, few_levels j l))))
      (λ l. let e : y.k ≡ j = omega arith in
      subst (λ (x : ℕ). sizes_of y b y.k x ≤ many) e
      (omega (arith, kind_last b, product_small (last_rows y) (y.p + 2) (omega (arith, few_effects)) (omega (arith, few_effects)))))

  -- no block has many cells
  pub block_small : (b : Bool) (i j : ℕ) → j ≤ i → i ≤ y.k → sizes_of y b i j ≤ many
  block_small b i j h g =
      by_cases (dec_lt i y.k)
      (λ l. by_cases (dec_lt j i) (λ m. pair_small b i j m l)
      (λ m. let e : i ≡ j = omega arith in subst (λ (x : ℕ). sizes_of y b i x ≤ many) e (factor_small b i l)))
      (λ l. let e : y.k ≡ i = omega arith in subst (λ (x : ℕ). sizes_of y b x j ≤ many) e (last_small b j (omega arith)))

  -- nor have several
  factors_small : (b : Bool) (n : ℕ) → n ≤ y.k → cells_of (sizes_of y b) (factors n) ≤ n * many
  factors_small b n h = sums_small (factors_sums (sizes_of y b)) many n (λ j g. block_small b j j (omega arith) (omega arith))

  across_small : (b : Bool) (i n : ℕ) → n ≤ i → i ≤ y.k → cells_of (sizes_of y b) (across i n) ≤ n * many
  across_small b i n h g = sums_small (across_sums (sizes_of y b) i) many n (λ j l. block_small b i j (omega arith) g)

  -- a row of pairs, and all of them
  pub row_small : (b : Bool) (i : ℕ) → i ≤ y.k → cells_of (sizes_of y b) (across i i) ≤ 8 * many
  row_small b i h = omega (arith, across_small b i i (omega arith) h, few_blocks)

  pairs_small : (b : Bool) (n : ℕ) → n ≤ y.k → cells_of (sizes_of y b) (pairs n) ≤ n * (8 * many)
  pairs_small b n h = sums_small (pairs_sums (sizes_of y b)) (8 * many) n (λ i g. row_small b i (omega arith))

  -- nor all that a block may have before it
  pub before_small : (b : Bool) (i j : ℕ) → j ≤ i → i ≤ y.k
      → cells_of (sizes_of y b) (factors y.k) + cells_of (sizes_of y b) (pairs i) + cells_of (sizes_of y b) (across i j) ≤ 127 * many
  before_small b i j h g = omega (arith, factors_small b y.k (omega arith), pairs_small b i g, across_small b i j h g, few_blocks)

  -- nor all blocks
  pub cells_small : (b : Bool) → cells_of (sizes_of y b) (targets y.k) ≤ 128 * many
  cells_small b =
      let k = y.k in
      omega (arith, cells_targets (sizes_of y b) k, before_small b k k (omega arith) (omega arith), block_small b k k (omega arith) (omega arith))

  -- THE BOUND: a workspace of a valid layout has fewer than 2^41 doubles, so each of its places is far below 2^63.
  pub doubles_small : doubles_needed y < 2199023255552
  unfolding sum_at triangle_end
  doubles_small = omega (arith, cells_small true, cells_small false, few_blocks)
