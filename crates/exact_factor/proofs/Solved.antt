-- Where nothing is rounded the solves of Record 7 solve: going forward L z = v, going backward L' w = z.
use Prim.Native.Nat.{ℕ, zero, suc, ◌+◌, ◌-◌, ◌<◌}
use mathlib.Core.Path.{◌≡◌, refl, sym, ap, ap₂, ◌∙◌}
use mathlib.Core.Bool.{false}
use mathlib.Core.List.{List}
use native.Mathlib.Nat.{add-zero, zero-add, suc-add}
use native.Mathlib.Omega.{arith}
use lib.ListN.{drop}
use lib.Seq.{get_or-drop}
use Rattle.rules.specs.Arithmetic.{Arithmetic}
use Rattle.rules.specs.Sums.{dot, chain}
use Rattle.rules.specs.Cholesky.{at, forward}
use Rattle.rules.specs.Solves.{backward}
use Rattle.rules.specs.Exact.{Exact}
use Rattle.rules.proofs.Exact.{dot_ext, dot_chain, forward_solves}
use Rattle.exact_factor.specs.Solved.{subtract_first, subtract_later, Forward, Backward, row_sum, times_l, column_sum, times_lt}

-- ---- inside a triangle, backward

module _ (A : Arithmetic) (v : ℕ → A.Num) (L : ℕ → ℕ → A.Num) (n : ℕ) where
  -- what is made first stands last
  made_first : (d e : ℕ) → drop e (backward A v L n (e + d)) ≡ backward A v L n d
  unfolding backward
  made_first d zero = ap (backward A v L n) (zero-add d)
  made_first d (suc e) = ap (λ (k : ℕ). drop (suc e) (backward A v L n k)) (suc-add e d) ∙ made_first d e

  -- cell i is made of the d cells behind it
  module _ (i d : ℕ) (e : n ≡ i + suc d) where
    abbrev all : List A.Num
    all = backward A v L n n

    abbrev behind : List A.Num
    behind = backward A v L n d

    rest : drop i all ≡ backward A v L n (suc d)
    rest = ap (λ (k : ℕ). drop i (backward A v L n k)) e ∙ made_first (suc d) i

    here : at A all i ≡ A.over (chain A (v i) (λ x. L (i + suc x) i) (at A behind) d) (L i i)
    unfolding backward
    here =
        let k : n - suc d ≡ i = omega arith in
        ap (at A all) (sym (add-zero i)) ∙ sym (get_or-drop i all 0 A.zero) ∙ ap (λ (l : List A.Num). at A l 0) rest
        ∙ ap (λ (j : ℕ). A.over (chain A (v j) (λ x. L (j + suc x) j) (at A behind) d) (L j j)) k

    later : (x : ℕ) → at A all (i + suc x) ≡ at A behind x
    unfolding backward
    later x = sym (get_or-drop i all (suc x) A.zero) ∙ ap (λ (l : List A.Num). at A l (suc x)) rest

    -- the cells below its pivot times theirs, and the pivot times its own, make v
    backward_solves : Exact A → A.null (L i i) ≡ false
        → A.plus (dot A (λ x. L (i + suc x) i) (λ x. at A all (i + suc x)) d) (A.times (at A all i) (L i i)) ≡ v i
    backward_solves X some-pivot =
        ap₂ A.plus (dot_ext A _ (λ x. L (i + suc x) i) _ (at A behind) d (λ x l. refl) (λ x l. later x))
        (ap (λ (t : A.Num). A.times t (L i i)) here ∙ X.over_times _ (L i i) some-pivot)
        ∙ dot_chain A X (v i) (λ x. L (i + suc x) i) (at A behind) d

-- ---- over the blocks

module _ (A : Arithmetic) (X : Exact A) (m : ℕ → ℕ) (L : ℕ → ℕ → ℕ → ℕ → A.Num) where
  -- what n blocks took away, and what they left, make v
  forward_left : (z : ℕ → ℕ → A.Num) (i : ℕ) (v : ℕ → A.Num) (n r : ℕ) → A.plus (row_sum A m L z n i r) (subtract_first A m L z i v n r) ≡ v r
  unfolding row_sum subtract_first
  forward_left z i v zero r = X.zero_plus (v r)
  forward_left z i v (suc j) r = X.plus_minus (row_sum A m L z j i r) (subtract_first A m L z i v j r) (dot A (L i j r) (z j) (m j)) ∙ forward_left z i v j r

  backward_left : (w : ℕ → ℕ → A.Num) (i : ℕ) (z : ℕ → A.Num) (n c : ℕ) → A.plus (column_sum A m L w n i c) (subtract_later A m L w i z n c) ≡ z c
  unfolding column_sum subtract_later
  backward_left w i z zero c = X.zero_plus (z c)
  backward_left w i z (suc x) c =
      X.plus_minus (column_sum A m L w x i c) (subtract_later A m L w i z x c) (dot A (λ r. L (i + suc x) i r c) (w (i + suc x)) (m (i + suc x)))
      ∙ backward_left w i z x c

  module _ (k : ℕ) (some-pivot : (i r : ℕ) → i < k → r < m i → A.null (L i i r r) ≡ false) where
    -- FORWARD: L z = v
    pub forward_blocks : (v z : ℕ → ℕ → A.Num) → Forward A m L v z k → (i r : ℕ) → i < k → r < m i → times_l A m L z i r ≡ v i r
    forward_blocks v z f i r h l =
        let b : ℕ → A.Num = subtract_first A m L z i (v i) i in
        ap (A.plus (row_sum A m L z i i r))
        (dot_ext A (z i) (at A (forward A b (L i i) (m i))) (L i i r) (L i i r) (suc r) (λ x g. f i x h (omega arith)) (λ x g. refl)
        ∙ forward_solves A X b (L i i) (m i) (λ c g. some-pivot i c h g) r l)
        ∙ forward_left z i (v i) i r

    -- BACKWARD: L' w = z
    pub backward_blocks : (z w : ℕ → ℕ → A.Num) → Backward A m L z w k → (i c : ℕ) → i < k → c < m i → times_lt A m L w k i c ≡ z i c
    backward_blocks z w f i c h l =
        let b : ℕ → A.Num = subtract_later A m L w i (z i) (k - suc i) in
        let d : ℕ = m i - suc c in
        ap (A.plus (column_sum A m L w (k - suc i) i c))
        (ap₂ A.plus
        (dot_ext A (λ x. L i i (c + suc x) c) (λ x. L i i (c + suc x) c) (λ x. w i (c + suc x)) (λ x. at A (backward A b (L i i) (m i) (m i)) (c + suc x)) d (λ x g. refl) (λ x g. f i (c + suc x) h (omega arith)))
        (ap (λ (t : A.Num). A.times t (L i i c c)) (f i c h l))
        ∙ backward_solves A b (L i i) (m i) c d (omega arith) X (some-pivot i c h l))
        ∙ backward_left w i (z i) (k - suc i) c
