-- Where nothing is rounded, every form of S is the dense one: of the last triangle, of a sparse pair, of a diagonal.
use Prim.Native.Nat.{ℕ, zero, suc, ◌<◌}
use mathlib.Core.Path.{◌≡◌, refl, sym, ap, ap₂, ◌∙◌}
use mathlib.Core.Bool.{Bool, true, false, cond}
use mathlib.Core.Logic.{◌⊎◌, inl, inr}
use native.Mathlib.Omega.{arith}
use lib.Dec.{eqb}
use Rattle.rules.specs.Arithmetic.{Arithmetic}
use Rattle.rules.specs.Sums.{dot, chain, sum_from, subtract_from}
use Rattle.rules.specs.Steps.{subtract_dense, subtract_diagonal, subtract_last, subtract_sparse}
use Rattle.rules.specs.Exact.{Exact, spread}
use Rattle.rules.proofs.Exact.{chain_is}

module _ (A : Arithmetic) (X : Exact A) where
  pub last_is_dense : (t a : ℕ → ℕ → A.Num) (inner r c : ℕ) → subtract_last A t a inner r c ≡ subtract_dense A t a a inner r c
  last_is_dense t a inner r c = chain_is A X (t r c) (a r) (a c) inner

  -- ---- sparse: a product that does not count is one with 0
  take_or_leave : (b : Bool) (s f g : A.Num) → cond b (A.minus s (A.times f g)) s ≡ A.minus s (A.times f (cond b g A.zero))
  take_or_leave true s f g = refl
  take_or_leave false s f g = sym (ap (A.minus s) (X.times_zero f) ∙ X.minus_zero s)

  subtract_chain :
      (s : A.Num) (counts : ℕ → Bool) (f g : ℕ → A.Num) (n : ℕ) → subtract_from A s counts f g n ≡ chain A s f (λ x. cond (counts x) (g x) A.zero) n
  unfolding subtract_from
  subtract_chain s counts f g zero = refl
  subtract_chain s counts f g (suc n) =
      take_or_leave (counts n) (subtract_from A s counts f g n) (f n) (g n)
      ∙ ap (λ (v : A.Num). A.minus v (A.times (f n) (cond (counts n) (g n) A.zero))) (subtract_chain s counts f g n)

  pub sparse_is_dense :
      (row : ℕ → ℕ) (t a : ℕ → ℕ → A.Num) (v : ℕ → A.Num) (inner r c : ℕ)
      → subtract_sparse A row t a v inner r c ≡ subtract_dense A t a (spread A row v) inner r c
  sparse_is_dense row t a v inner r c =
      subtract_chain (t r c) (λ x. eqb (row x) c) (a r) v inner ∙ chain_is A X (t r c) (a r) (spread A row v c) inner

  -- ---- diagonal: a cell that was not loaded is 0
  add_or_leave : (b : Bool) (s f : A.Num) → (b ≡ false → f ≡ A.zero) → cond b (A.plus s (A.times f f)) s ≡ A.plus s (A.times f f)
  add_or_leave true s f h = refl
  add_or_leave false s f h = sym (ap (A.plus s) (ap (λ (v : A.Num). A.times v f) (h refl) ∙ X.zero_times f) ∙ X.plus_zero s)

  sum_dot : (counts : ℕ → Bool) (f : ℕ → A.Num) (n : ℕ) → ((x : ℕ) → x < n → counts x ≡ false → f x ≡ A.zero) → sum_from A A.zero counts f f n ≡ dot A f f n
  unfolding sum_from
  sum_dot counts f zero h = refl
  sum_dot counts f (suc n) h =
      add_or_leave (counts n) (sum_from A A.zero counts f f n) (f n) (h n (omega arith))
      ∙ ap (λ (v : A.Num). A.plus v (A.times (f n) (f n))) (sum_dot counts f n (λ x l. h x (omega arith)))

  pub diagonal_is_dense :
      (loaded : ℕ → ℕ → Bool) (t a : ℕ → ℕ → A.Num) (inner r : ℕ) → ((x : ℕ) → x < inner → loaded r x ≡ false → a r x ≡ A.zero)
      → subtract_diagonal A loaded t a inner r r ≡ subtract_dense A t a a inner r r
  diagonal_is_dense loaded t a inner r h = ap (A.minus (t r r)) (sum_dot (loaded r) (a r) inner h)

  -- and beside the diagonal nothing comes: where each column has one entry, one of two cells in it is 0
  product_zero : (f g : A.Num) → (f ≡ A.zero) ⊎ (g ≡ A.zero) → A.times f g ≡ A.zero
  product_zero f g (inl e) = ap (λ (v : A.Num). A.times v g) e ∙ X.zero_times g
  product_zero f g (inr e) = ap (A.times f) e ∙ X.times_zero f

  dot_zero : (f g : ℕ → A.Num) (n : ℕ) → ((x : ℕ) → x < n → (f x ≡ A.zero) ⊎ (g x ≡ A.zero)) → dot A f g n ≡ A.zero
  unfolding sum_from
  dot_zero f g zero h = refl
  dot_zero f g (suc n) h =
      ap₂ A.plus (dot_zero f g n (λ x l. h x (omega arith))) (product_zero (f n) (g n) (h n (omega arith))) ∙ X.plus_zero A.zero

  pub left_of_pivot_stays :
      (t a : ℕ → ℕ → A.Num) (inner r c : ℕ) → ((x : ℕ) → x < inner → (a r x ≡ A.zero) ⊎ (a c x ≡ A.zero))
      → subtract_dense A t a a inner r c ≡ t r c
  left_of_pivot_stays t a inner r c h = ap (A.minus (t r c)) (dot_zero (a r) (a c) inner h) ∙ X.minus_zero (t r c)
