-- Where nothing is rounded, T solves and C factors.
use Prim.Native.Nat.{ℕ, zero, suc, ◌<◌}
use mathlib.Core.Path.{◌≡◌, refl, sym, ap, ap₂, subst, ◌∙◌}
use mathlib.Core.Bool.{false}
use mathlib.Core.List.{List, []}
use mathlib.Core.Option.{none}
use mathlib.Core.Logic.{by_cases}
use native.Mathlib.Decide.{dec_lt}
use native.Mathlib.Omega.{arith}
use lib.ListN.{get_or, get_or-append}
use lib.Seq.{get_or_at}
use Rattle.rules.specs.Arithmetic.{Arithmetic}
use Rattle.rules.specs.Sums.{dot, chain, sum_from, subtract_from}
use Rattle.rules.specs.Cholesky.{at, forward, left_of_pivot, cell_of, row_of, rows, factor, radicand, pivots}
use Rattle.rules.specs.Exact.{Exact, Solves, Factors}
use Rattle.rules.proofs.Rows.{chain_ext, length_forward, rows_stay, row_made, pivot_root, accepted_at}

module _ (A : Arithmetic) where
  -- ---- sums depend only on their terms
  pub dot_ext : (f f' g g' : ℕ → A.Num) (n : ℕ) → ((x : ℕ) → x < n → f x ≡ f' x) → ((x : ℕ) → x < n → g x ≡ g' x) → dot A f g n ≡ dot A f' g' n
  unfolding sum_from
  dot_ext f f' g g' zero p q = refl
  dot_ext f f' g g' (suc n) p q =
      ap₂ A.plus (dot_ext f f' g g' n (λ x h. p x (omega arith)) (λ x h. q x (omega arith))) (ap₂ A.times (p n (omega arith)) (q n (omega arith)))

  -- ---- forward substitution: each cell by the cells before it
  module _ (b : ℕ → A.Num) (L : ℕ → ℕ → A.Num) where
    forward_before : (n x : ℕ) → x < n → at A (forward A b L (suc n)) x ≡ at A (forward A b L n) x
    unfolding forward
    forward_before n x h = get_or-append (forward A b L n) _ A.zero x (omega (arith, length_forward A b L n))

    forward_last : (n : ℕ) → at A (forward A b L (suc n)) n ≡ A.over (chain A (b n) (at A (forward A b L n)) (L n) n) (L n n)
    unfolding forward
    forward_last n = get_or_at (forward A b L n) _ [] A.zero n (length_forward A b L n)

    pub forward_cell : (n c : ℕ) → c < n → at A (forward A b L n) c ≡ A.over (chain A (b c) (at A (forward A b L n)) (L c) c) (L c c)
    forward_cell zero c h = absurd (omega (arith, h))
    forward_cell (suc n) c h =
        by_cases (dec_lt c n)
        (λ l.
        forward_before n c l ∙ forward_cell n c l
        ∙ ap (λ (v : A.Num). A.over v (L c c)) (chain_ext A (b c) (b c) _ _ (L c) (L c) c refl (λ x k. sym (forward_before n x (omega arith))) (λ x k. refl)))
        (λ l. subst IsCell (omega arith) here)
      where
        IsCell : ℕ → Type 0
        IsCell c = at A (forward A b L (suc n)) c ≡ A.over (chain A (b c) (at A (forward A b L (suc n))) (L c) c) (L c c)

        here : IsCell n
        here = forward_last n ∙ ap (λ (v : A.Num). A.over v (L n n)) (chain_ext A (b n) (b n) _ _ (L n) (L n) n refl (λ x k. sym (forward_before n x k)) (λ x k. refl))

  -- ---- Cholesky: each row by the rows before it
  module _ (b : ℕ → ℕ → A.Num) where
    row_is : (n r : ℕ) → r < n → get_or (rows A b n) r [] ≡ row_of A b (cell_of A (rows A b r)) r
    row_is n r h = rows_stay A b r (suc r) n (omega arith) h ∙ row_made A b r

    -- row r, left of its pivot
    left_cell : (n r x : ℕ) → r < n → x < r → factor A b n r x ≡ at A (left_of_pivot A (b) (cell_of A (rows A b r)) r) x
    left_cell n r x h k =
        ap (λ (l : List A.Num). at A l x) (row_is n r h)
        ∙ get_or-append (left_of_pivot A b (cell_of A (rows A b r)) r) _ A.zero x (omega (arith, length_forward A (b r) (cell_of A (rows A b r)) r))

    -- the rows before r are the same in every longer list
    same_cell : (n r c x : ℕ) → r < n → c < r → factor A b n c x ≡ cell_of A (rows A b r) c x
    same_cell n r c x h k = ap (λ (l : List A.Num). at A l x) (row_is n c (omega arith) ∙ sym (row_is r c k))

  module _ (X : Exact A) where
    -- the sum of some products, and what is left of s without them, make s
    pub dot_chain : (s : A.Num) (f g : ℕ → A.Num) (n : ℕ) → A.plus (dot A f g n) (chain A s f g n) ≡ s
    unfolding sum_from subtract_from
    dot_chain s f g zero = X.zero_plus s
    dot_chain s f g (suc n) = X.plus_minus (dot A f g n) (chain A s f g n) (A.times (f n) (g n)) ∙ dot_chain s f g n

    -- so taking products away one by one, or their sum once, is the same
    pub chain_is : (s : A.Num) (f g : ℕ → A.Num) (n : ℕ) → chain A s f g n ≡ A.minus s (dot A f g n)
    chain_is s f g n =
        sym (X.minus_plus (dot A f g n) (chain A s f g n)) ∙ ap (λ (v : A.Num). A.minus v (dot A f g n)) (dot_chain s f g n)

    -- T: forward substitution solves
    pub forward_solves :
        (b : ℕ → A.Num) (L : ℕ → ℕ → A.Num) (n : ℕ) → ((c : ℕ) → c < n → A.null (L c c) ≡ false) → Solves A b L (at A (forward A b L n)) n
    unfolding sum_from
    forward_solves b L n some-pivot c h =
        let x : ℕ → A.Num = at A (forward A b L n) in
        ap (λ (v : A.Num). A.plus (dot A x (L c) c) v) (ap (λ (v : A.Num). A.times v (L c c)) (forward_cell b L n c h) ∙ X.over_times _ (L c c) (some-pivot c h))
        ∙ dot_chain (b c) x (L c) c

    -- C: where no pivot is refused, the factor times its transpose is the triangle
    module _ (b : ℕ → ℕ → A.Num) (n : ℕ) (accepted : pivots A (radicand A b) n ≡ none) where
      -- no pivot of the factor is 0, so no division by one is
      pub pivot_not_null : (r : ℕ) → r < n → A.null (factor A b n r r) ≡ false
      pivot_not_null r h = ap A.null (pivot_root A b r n h) ∙ X.root_some (radicand A b r) (accepted_at A (radicand A b) r n h accepted)

      pivot_some : (r c : ℕ) → r < n → c < r → A.null (cell_of A (rows A b r) c c) ≡ false
      pivot_some r c h k = ap A.null (sym (same_cell b n r c c h k)) ∙ pivot_not_null c (omega arith)

      left_of_pivot_lem : (r c : ℕ) → r < n → c < r → dot A (factor A b n r) (factor A b n c) (suc c) ≡ b r c
      left_of_pivot_lem r c h k =
          dot_ext (factor A b n r) (at A (left_of_pivot A b (cell_of A (rows A b r)) r)) (factor A b n c) (cell_of A (rows A b r) c) (suc c)
          (λ x l. left_cell b n r x h (omega arith)) (λ x l. same_cell b n r c x h k)
          ∙ forward_solves (b r) (cell_of A (rows A b r)) r (λ y l. pivot_some r y h l) c k

      at_pivot : (r : ℕ) → r < n → dot A (factor A b n r) (factor A b n r) (suc r) ≡ b r r
      unfolding sum_from
      at_pivot r h =
          let row : ℕ → A.Num = at A (left_of_pivot A b (cell_of A (rows A b r)) r) in
          ap₂ A.plus
          (dot_ext (factor A b n r) row (factor A b n r) row r (λ x l. left_cell b n r x h l) (λ x l. left_cell b n r x h l))
          (ap (λ (v : A.Num). A.times v v) (pivot_root A b r n h)
          ∙ X.root_square (radicand A b r) (accepted_at A (radicand A b) r n h accepted))
          ∙ dot_chain (b r r) row row r

      pub factor_factors : Factors A b (factor A b n) n
      factor_factors r c le h =
          by_cases (dec_lt c r) (λ k. left_of_pivot_lem r c h k) (λ k. subst (λ (x : ℕ). dot A (factor A b n r) (factor A b n x) (suc x) ≡ b r x) (omega arith) (at_pivot r h))
