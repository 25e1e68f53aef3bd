-- Laws of the rules that the loops need: what a sum, a row and the factor depend on, and which pivot is refused.
use Prim.Native.Nat.{ℕ, zero, suc, ◌≤◌, ◌<◌}
use mathlib.Core.Path.{◌≡◌, refl, sym, ap, ap₂, ◌∙◌}
use mathlib.Core.Bool.{Bool, true, false}
use mathlib.Core.List.{List, [], ◌∷◌, ◌++◌}
use mathlib.Core.Option.{Option, none, some}
use mathlib.Core.Logic.{by_cases}
use native.Mathlib.Decide.{dec_lt}
use native.Mathlib.Omega.{arith}
use lib.ListN.{length, length-append}
use lib.Seq.{ext_get_or}
use Rattle.storage.specs.Runs.{triangle, tab, cells}
use Rattle.storage.proofs.Cells.{length_tab, get_or_tab, tab_ext, cells_ext}
use Rattle.rules.specs.Arithmetic.{Arithmetic}
use Rattle.rules.specs.Cholesky.{at, forward, left_of_pivot, row_of, factor, next, first_bad, pivots}
use Rattle.rules.proofs.Rows.{chain_ext, length_forward, row_stays, row_made}

module _ (A : Arithmetic) where
  -- a row depends on its own cells and on those of the triangle above it
  pub forward_ext : (b b' : ℕ → A.Num) (L L' : ℕ → ℕ → A.Num) (n : ℕ) → ((x : ℕ) → x < n → b x ≡ b' x)
      → ((x y : ℕ) → x < n → y ≤ x → L x y ≡ L' x y) → forward A b L n ≡ forward A b' L' n
  unfolding forward
  forward_ext b b' L L' zero h k = refl
  forward_ext b b' L L' (suc n) h k =
      let e : forward A b L n ≡ forward A b' L' n = forward_ext b b' L L' n (λ x l. h x (omega arith)) (λ x y l m. k x y (omega arith) m) in
      ap₂ (λ (l : List A.Num) (v : A.Num). l ++ (v ∷ [])) e
      (ap₂ A.over
      (chain_ext A (b n) (b' n) (at A (forward A b L n)) (at A (forward A b' L' n)) (L n) (L' n) n (h n (omega arith)) (λ y l. ap (λ (z : List A.Num). at A z y) e) (λ y l. k n y (omega arith) (omega arith)))
      (k n n (omega arith) (omega arith)))

  module _ (b : ℕ → ℕ → A.Num) where
    pub length_row : (L : ℕ → ℕ → A.Num) (r : ℕ) → length (row_of A b L r) ≡ suc r
    length_row L r = length-append (left_of_pivot A b L r) _ ∙ omega (arith, length_forward A (b r) L r)

    -- one row more of the factor
    pub rows_grow : (r : ℕ) → cells triangle (suc r) (factor A b (suc r)) ≡ cells triangle r (factor A b r) ++ row_of A b (factor A b r) r
    unfolding cells
    rows_grow r =
        let m : List A.Num = row_of A b (factor A b r) r in
        ap₂ (λ (x y : List A.Num). x ++ y)
        (cells_ext triangle r (factor A b (suc r)) (factor A b r) (λ j i p q. ap (λ (z : List A.Num). at A z i) (row_stays A b j r p)))
        (tab_ext (suc r) (factor A b (suc r) r) (at A m) (λ i l. ap (λ (z : List A.Num). at A z i) (row_made A b r))
        ∙ ext_get_or A.zero (tab (suc r) (at A m)) m (length_tab (suc r) (at A m) ∙ sym (length_row (factor A b r) r))
        (λ i l. get_or_tab (suc r) (at A m) i A.zero (omega (arith, length_tab (suc r) (at A m)))))

  -- ---- which pivot is refused
  module _ (g : ℕ → A.Num) where
    pub goes_on : (r : ℕ) → pivots A g r ≡ none → A.refused (g r) ≡ false → pivots A g (suc r) ≡ none
    unfolding first_bad
    goes_on r e f = ap₂ (λ (p : Option ℕ) (x : Bool). next A p x r) e f

    stops : (r : ℕ) → pivots A g r ≡ none → A.refused (g r) ≡ true → pivots A g (suc r) ≡ some r
    unfolding first_bad
    stops r e f = ap₂ (λ (p : Option ℕ) (x : Bool). next A p x r) e f

    -- a refusal stays
    stays : (q m n : ℕ) → m ≤ n → pivots A g m ≡ some q → pivots A g n ≡ some q
    unfolding first_bad
    stays q m zero l e = let k : m ≡ 0 = omega arith in rw k at e
    stays q m (suc n) l e =
        by_cases (dec_lt n m)
        (λ h. let k : m ≡ suc n = omega arith in rw k at e)
        (λ h. ap (λ (p : Option ℕ). next A p (A.refused (g n)) n) (stays q m n (omega arith) e))

    -- the first refused radicand is the answer
    pub refused_at_lem : (r n : ℕ) → r < n → pivots A g r ≡ none → A.refused (g r) ≡ true → pivots A g n ≡ some r
    refused_at_lem r n l e f = stays r (suc r) n (omega arith) (stops r e f)
