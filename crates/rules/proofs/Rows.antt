-- What a sum, a row and the factor depend on, what its pivots are, and that none is refused where none is found.
use Prim.Native.Nat.{ℕ, zero, suc, ◌≤◌, ◌<◌}
use mathlib.Core.Path.{◌≡◌, refl, ap, ap₂, ◌∙◌}
use mathlib.Core.Bool.{Bool, true, false, cond}
use mathlib.Core.List.{List, []}
use mathlib.Core.Option.{Option, none, some, some-ne-none}
use mathlib.Core.Logic.{by_cases}
use native.Mathlib.Decide.{dec_lt}
use native.Mathlib.Omega.{arith}
use lib.ListN.{length, get_or, length-append, get_or-append}
use lib.Seq.{get_or_at}
use Rattle.rules.specs.Arithmetic.{Arithmetic}
use Rattle.rules.specs.Sums.{chain, subtract_from}
use Rattle.rules.specs.Cholesky.{at, forward, left_of_pivot, row_of, rows, factor, radicand, next, first_bad, pivots}

module _ (A : Arithmetic) where
  -- a chain depends on its start and on its n factors of each side
  pub chain_ext : (s s' : A.Num) (a a' b b' : ℕ → A.Num) (n : ℕ) → s ≡ s' → ((y : ℕ) → y < n → a y ≡ a' y) → ((y : ℕ) → y < n → b y ≡ b' y)
      → chain A s a b n ≡ chain A s' a' b' n
  unfolding subtract_from
  chain_ext s s' a a' b b' zero e h k = e
  chain_ext s s' a a' b b' (suc n) e h k =
      ap₂ A.minus (chain_ext s s' a a' b b' n e (λ y l. h y (omega arith)) (λ y l. k y (omega arith)))
      (ap₂ A.times (h n (omega arith)) (k n (omega arith)))

  -- a difference of n products asks only which of those n count
  pub less_counts : (s : A.Num) (f g : ℕ → Bool) (a b : ℕ → A.Num) (n : ℕ) → ((x : ℕ) → x < n → f x ≡ g x) → subtract_from A s f a b n ≡ subtract_from A s g a b n
  unfolding subtract_from
  less_counts s f g a b zero h = refl
  less_counts s f g a b (suc n) h =
      ap₂ (λ (c : Bool) (v : A.Num). cond c (A.minus v (A.times (a n) (b n))) v) (h n (omega arith)) (less_counts s f g a b n (λ x l. h x (omega arith)))

  pub length_forward : (b : ℕ → A.Num) (L : ℕ → ℕ → A.Num) (n : ℕ) → length (forward A b L n) ≡ n
  unfolding forward
  length_forward b L zero = refl
  length_forward b L (suc n) = length-append (forward A b L n) _ ∙ omega (arith, length_forward b L n)

  module _ (b : ℕ → ℕ → A.Num) where
    pub length_rows : (n : ℕ) → length (rows A b n) ≡ n
    unfolding rows
    length_rows zero = refl
    length_rows (suc n) = length-append (rows A b n) _ ∙ omega (arith, length_rows n)

    -- a row that is made stays
    pub row_stays : (j r : ℕ) → j < r → get_or (rows A b (suc r)) j [] ≡ get_or (rows A b r) j []
    unfolding rows
    row_stays j r h = get_or-append (rows A b r) _ [] j (omega (arith, length_rows r))

    -- however many follow it
    pub rows_stay : (j m n : ℕ) → j < m → m ≤ n → get_or (rows A b n) j [] ≡ get_or (rows A b m) j []
    rows_stay j m zero h k = absurd (omega arith)
    rows_stay j m (suc n) h k =
        by_cases (dec_lt n m)
        (λ l. let e : m ≡ suc n = omega arith in rw e)
        (λ l. row_stays j n (omega arith) ∙ rows_stay j m n h (omega arith))

    pub row_made : (r : ℕ) → get_or (rows A b (suc r)) r [] ≡ row_of A b (factor A b r) r
    unfolding rows
    row_made r = get_or_at (rows A b r) _ [] [] r (length_rows r)

    -- pivot r of the factor of n rows is the root of its radicand
    pub pivot_root : (r n : ℕ) → r < n → factor A b n r r ≡ A.root (radicand A b r)
    pivot_root r zero h = absurd (omega arith)
    pivot_root r (suc n) h =
        by_cases (dec_lt r n)
        (λ l. ap (λ (z : List A.Num). at A z r) (row_stays r n l) ∙ pivot_root r n l)
        (λ l. let e : r ≡ n = omega arith in
        rw e
        (ap (λ (z : List A.Num). at A z n) (row_made n)
        ∙ get_or_at (left_of_pivot A b (factor A b n) n) _ [] A.zero n (length_forward (b n) (factor A b n) n)))

  -- ---- no pivot is bad, so this one is not
  step_none : (o : Option ℕ) (bad : Bool) (n : ℕ) → next A o bad n ≡ none → (o ≡ none) × (bad ≡ false)
  step_none none false n e = (refl, refl)
  step_none none true n e = absurd (some-ne-none n e)
  step_none (some q) bad n e = absurd (some-ne-none q e)

  pub none_bad : (bad : A.Num → Bool) (g : ℕ → A.Num) (r n : ℕ) → r < n → first_bad A bad g n ≡ none → bad (g r) ≡ false
  unfolding first_bad
  none_bad bad g r zero l e = absurd (omega arith)
  none_bad bad g r (suc n) l e =
      let k = step_none (first_bad A bad g n) (bad (g n)) n e in
      by_cases (dec_lt r n) (λ h. none_bad bad g r n h k.0) (λ h. let f : r ≡ n = omega arith in rw f k.1)

  pub accepted_at : (g : ℕ → A.Num) (r n : ℕ) → r < n → pivots A g n ≡ none → A.refused (g r) ≡ false
  accepted_at = none_bad A.refused
