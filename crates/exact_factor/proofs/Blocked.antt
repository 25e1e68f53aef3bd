-- Where nothing is rounded, block elimination gives the Cholesky factor of the whole matrix: each S takes its products away, and C and T solve what is left.
use Prim.Native.Nat.{ℕ, zero, suc, ◌≤◌, ◌<◌}
use mathlib.Core.Path.{◌≡◌, refl, sym, ap, ap₂, subst, ◌∙◌}
use mathlib.Core.Bool.{false}
use mathlib.Core.Option.{Option, none, some, some-ne-none}
use mathlib.Core.Logic.{by_cases}
use native.Mathlib.Decide.{dec_lt}
use native.Mathlib.Omega.{arith}
use borrow.Author.Tests.{lt-ltb, eq-eqb, ne_eqb}
use Rattle.step_order.specs.Elimination.{Rules, or_else, in_block, column, value, final, refused_before, refused_at}
use Rattle.step_order.proofs.Invariant.{finished}
use Rattle.rules.specs.Arithmetic.{Arithmetic}
use Rattle.rules.specs.Sums.{sum_from, dot}
use Rattle.rules.specs.Cholesky.{radicand, pivots}
use Rattle.rules.specs.Exact.{Exact}
use Rattle.rules.proofs.Exact.{forward_solves, factor_factors, pivot_not_null}
use Rattle.exact_factor.specs.Blocked.{block_rules, products, FactorsBlocks}

-- no pivot is refused, so none is in C(j)
pub none_in : (R : Rules) (start : ℕ → ℕ → R.Block) (n : ℕ) → refused_before R start n ≡ none → (j : ℕ) → j < n → R.pivots j (value R start j j j) ≡ none
unfolding refused_before
none_in R start zero e j h = absurd (omega (arith, h))
none_in R start (suc n) e j h = by_cases (dec_lt j n) (λ l. none_in R start n both.0 j l) (λ l. subst (λ (x : ℕ). R.pivots x (value R start x x x) ≡ none) (omega arith) both.1)
  where
    parts : (a : Option (ℕ × ℕ)) (b : Option ℕ) → or_else a (in_block n b) ≡ none → (a ≡ none) × (b ≡ none)
    parts none none e = (refl, refl)
    parts none (some r) e = absurd (some-ne-none (n, r) e)
    parts (some p) b e = absurd (some-ne-none p e)

    both : (refused_before R start n ≡ none) × (R.pivots n (value R start n n n) ≡ none)
    both = parts (refused_before R start n) (R.pivots n (value R start n n n)) e

module _ (R : Rules) (start : ℕ → ℕ → R.Block) where
  final_is : (i h : ℕ) → final R start i h ≡ column R h (value R start h) i
  final_is i h = finished R 0 start i h

  -- round h, right of column h
  value_next : (h i j : ℕ) → h < j → value R start (suc h) i j ≡ R.subtract i j h (value R start h i j) (final R start i h) (final R start j h)
  unfolding value
  value_next h i j l = rw (lt-ltb h j l) (ap₂ (R.subtract i j h (value R start h i j)) (sym (final_is i h)) (sym (final_is j h)))

  final_factor : (j : ℕ) → final R start j j ≡ R.factor j (value R start j j j)
  final_factor j = final_is j j ∙ rw (eq-eqb j j refl)

  final_solve : (i j : ℕ) → j < i → final R start i j ≡ R.solve i j (value R start j i j) (final R start j j)
  final_solve i j l = final_is i j ∙ rw (ne_eqb i j (λ e. omega (arith, e))) (ap (R.solve i j (value R start j i j)) (sym (final_factor j)))

module _ (A : Arithmetic) (X : Exact A) (m : ℕ → ℕ) (start : ℕ → ℕ → ℕ → ℕ → A.Num) where
  -- what n rounds took away, and what they left, make what begin wrote
  left_after : (i j r c n : ℕ) → n ≤ j → A.plus (products A m (final (block_rules A m) start) n i j r c) (value (block_rules A m) start n i j r c) ≡ start i j r c
  unfolding products value
  left_after i j r c zero h = X.zero_plus (start i j r c)
  left_after i j r c (suc n) h =
      let L : ℕ → ℕ → ℕ → ℕ → A.Num = final (block_rules A m) start in
      let d : A.Num = dot A (L i n r) (L j n c) (m n) in
      ap (λ (b : ℕ → ℕ → A.Num). A.plus (A.plus (products A m L n i j r c) d) (b r c)) (value_next (block_rules A m) start n i j (omega arith))
      ∙ X.plus_minus (products A m L n i j r c) (value (block_rules A m) start n i j r c) d
      ∙ left_after i j r c n (omega arith)

  module _ (k : ℕ) (accepted : refused_at (block_rules A m) k start ≡ none) where
    no_pivot : (j : ℕ) → j ≤ k → pivots A (radicand A (value (block_rules A m) start j j j)) (m j) ≡ none
    no_pivot j h = none_in (block_rules A m) start (suc k) accepted j (omega arith)

    -- C: the last block column of a row on the diagonal
    diagonal_left :
        (j r c : ℕ) → j ≤ k → c ≤ r → r < m j
        → dot A (final (block_rules A m) start j j r) (final (block_rules A m) start j j c) (suc c) ≡ value (block_rules A m) start j j j r c
    diagonal_left j r c h l g =
        rw (final_factor (block_rules A m) start j) (factor_factors A X (value (block_rules A m) start j j j) (m j) (no_pivot j h) r c l g)

    -- T: of any other row
    below_left :
        (i j r c : ℕ) → j < i → j ≤ k → c < m j
        → dot A (final (block_rules A m) start i j r) (final (block_rules A m) start j j c) (suc c) ≡ value (block_rules A m) start j i j r c
    below_left i j r c l h g =
        ap (λ (b : ℕ → ℕ → A.Num). dot A (b r) (final (block_rules A m) start j j c) (suc c)) (final_solve (block_rules A m) start i j l)
        ∙ forward_solves A X (value (block_rules A m) start j i j r) (final (block_rules A m) start j j) (m j) (λ x y. pivot_here j x h y) c g
      where
        pivot_here : (j x : ℕ) → j ≤ k → x < m j → A.null (final (block_rules A m) start j j x x) ≡ false
        pivot_here j x h y =
            ap (λ (b : ℕ → ℕ → A.Num). A.null (b x x)) (final_factor (block_rules A m) start j)
            ∙ pivot_not_null A X (value (block_rules A m) start j j j) (m j) (no_pivot j h) x y

    pub blocks_factor : FactorsBlocks A m start (final (block_rules A m) start) k
    blocks_factor i j r c h g hr hc lower =
        ap (λ (v : A.Num). A.plus (products A m (final (block_rules A m) start) j i j r c) v) last ∙ left_after i j r c j (omega arith)
      where
        last : dot A (final (block_rules A m) start i j r) (final (block_rules A m) start j j c) (suc c) ≡ value (block_rules A m) start j i j r c
        last = by_cases (dec_lt j i) (λ l. below_left i j r c l (omega arith) hc) (λ l. same (omega arith))
          where
            same : i ≡ j → dot A (final (block_rules A m) start i j r) (final (block_rules A m) start j j c) (suc c) ≡ value (block_rules A m) start j i j r c
            same e =
                subst (λ (x : ℕ). dot A (final (block_rules A m) start x j r) (final (block_rules A m) start j j c) (suc c) ≡ value (block_rules A m) start j x j r c)
                (sym e) (diagonal_left j r c (omega arith) (lower e) (subst (λ (x : ℕ). r < m x) e hr))

    -- Record 6's r2, the square of the last pivot, is what the squares of the last row left of it leave of y'y
    pub residual_square :
        (p : ℕ) → p < m k
        → A.plus (products A m (final (block_rules A m) start) k k k p p)
        (A.plus (dot A (final (block_rules A m) start k k p) (final (block_rules A m) start k k p) p) (A.times (final (block_rules A m) start k k p p) (final (block_rules A m) start k k p p)))
        ≡ start k k p p
    unfolding sum_from
    residual_square p b = blocks_factor k k p p (omega arith) (omega arith) b b (λ e. omega arith)
