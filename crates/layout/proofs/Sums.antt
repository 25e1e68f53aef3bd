-- Laws of sums, of padded lists and of a function of each number of a list.
use Prim.Native.Nat.{ℕ, zero, suc, ◌+◌, ◌*◌, ◌≤◌, ◌<◌}
use mathlib.Core.Path.{◌≡◌, refl, ap, ap₂, ◌∙◌}
use mathlib.Core.Bool.{Bool, true, false, cond}
use mathlib.Core.List.{List, [], ◌∷◌}
use mathlib.Core.Logic.{by_cases}
use native.Mathlib.Decide.{dec_lt}
use native.Mathlib.Omega.{arith}
use native.Mathlib.Numerals.{add-one}
use lib.Dec.{ltb}
use lib.ListN.{length, get_or}
use Rattle.layout.specs.Blocks.{insert, sorted, sum, each, padded}

-- ---- sums

pub sum_none : (f : ℕ → ℕ) → 0 ≡ sum f 0
unfolding sum
sum_none f = refl

pub sum_more : (f : ℕ → ℕ) (n : ℕ) → sum f (n + 1) ≡ sum f n + f n
unfolding sum
sum_more f n = ap (sum f) (add-one n)

pub sum_same : (f g : ℕ → ℕ) (n : ℕ) → ((i : ℕ) → i < n → f i ≡ g i) → sum f n ≡ sum g n
unfolding sum
sum_same f g zero h = refl
sum_same f g (suc n) h = ap₂ (λ (a b : ℕ). a + b) (sum_same f g n (λ i b. h i (omega arith))) (h n (omega arith))

pub sum_front : (f : ℕ → ℕ) (n : ℕ) → sum f (suc n) ≡ f 0 + sum (λ i. f (suc i)) n
unfolding sum
sum_front f zero = omega arith
sum_front f (suc n) = omega (arith, sum_front f n)

-- a sum of small numbers is small
pub sum_small : (f : ℕ → ℕ) (b n : ℕ) → ((i : ℕ) → i < n → f i ≤ b) → sum f n ≤ n * b
unfolding sum
sum_small f b zero h = omega arith
sum_small f b (suc n) h = omega (arith, sum_small f b n (λ i g. h i (omega arith)), h n (omega arith))

-- a sum of more is no less
pub sum_le : (f : ℕ → ℕ) (a b : ℕ) → a ≤ b → sum f a ≤ sum f b
unfolding sum
sum_le f a zero h = let e : a ≡ 0 = omega arith in rw e (omega arith)
sum_le f a (suc b) h =
    by_cases (dec_lt b a) (λ l. let e : a ≡ suc b = omega arith in rw e (omega arith)) (λ l. omega (arith, sum_le f a b (omega arith)))

-- the sum of f over a list
abbrev pub over : (ℕ → ℕ) → List ℕ → ℕ
over f [] = 0
over f (s ∷ l) = f s + over f l

pub sum_over : (f : ℕ → ℕ) (l : List ℕ) → sum (λ i. f (get_or l i 0)) (length l) ≡ over f l
unfolding sum
sum_over f [] = refl
sum_over f (s ∷ l) = sum_front (λ i. f (get_or (s ∷ l) i 0)) (length l) ∙ ap (λ (a : ℕ). f s + a) (sum_over f l)

over_insert : (m f : ℕ → ℕ) (i : ℕ) (l : List ℕ) → over f (insert m i l) ≡ f i + over f l
unfolding insert
over_insert m f i [] = refl
over_insert m f i (s ∷ l) = step (over_insert m f i l) (ltb (m s) (m i))
  where
    step : over f (insert m i l) ≡ f i + over f l → (b : Bool) → over f (cond b (i ∷ s ∷ l) (s ∷ insert m i l)) ≡ f i + (f s + over f l)
    step e true = refl
    step e false = omega (arith, e)

-- sorted or not, the sum is one
pub over_sorted : (m f : ℕ → ℕ) (k : ℕ) → over f (sorted m k) ≡ sum f k
unfolding sorted sum
over_sorted m f zero = refl
over_sorted m f (suc k) = omega (arith, over_insert m f k (sorted m k), over_sorted m f k)

-- ---- a list with zeros behind it

pub padded_at : (n : ℕ) (l : List ℕ) (i : ℕ) → i < n → get_or (padded n l) i 0 ≡ get_or l i 0
unfolding padded
padded_at zero l i h = absurd (omega arith)
padded_at (suc n) l zero h = refl
padded_at (suc n) [] (suc i) h = padded_at n [] i (omega arith)
padded_at (suc n) (x ∷ l) (suc i) h = padded_at n l i (omega arith)

pub length_padded : (n : ℕ) (l : List ℕ) → length (padded n l) ≡ n
unfolding padded
length_padded zero l = refl
length_padded (suc n) [] = ap suc (length_padded n [])
length_padded (suc n) (x ∷ l) = ap suc (length_padded n l)

-- ---- f of each number of a list

pub length_each : (f : ℕ → ℕ) (l : List ℕ) → length (each f l) ≡ length l
unfolding each
length_each f [] = refl
length_each f (x ∷ l) = ap suc (length_each f l)

pub each_at : (f : ℕ → ℕ) (l : List ℕ) (i : ℕ) → i < length l → get_or (each f l) i 0 ≡ f (get_or l i 0)
unfolding each
each_at f [] i h = absurd (omega arith)
each_at f (x ∷ l) zero h = refl
each_at f (x ∷ l) (suc i) h = each_at f l i (omega arith)
