-- Lists of blocks that grow piece by piece, and a loop that sums their cells.
use Prim.Native.Nat.{ℕ, zero, suc, ◌+◌, ◌*◌, ◌≤◌, ◌<◌}
use mathlib.Core.Path.{◌≡◌, refl, sym, ap, ◌∙◌}
use mathlib.Core.List.{List, [], ◌∷◌, ◌++◌, append_assoc, append-nil}
use mathlib.Core.Logic.{by_cases}
use native.Mathlib.Decide.{dec_lt}
use native.Mathlib.Numerals.{add-one}
use native.Mathlib.Omega.{arith}
use Rattle.layout.specs.Shapes.{Target, target, factors, across, pairs, cells_of}
use Rattle.layout.proofs.Formula.{cells_append}

-- l n is g 0, .., g (n - 1), one behind the other
pub record Grows (l g : ℕ → List Target) : Type 0 where
  pub none : l 0 ≡ []
  pub more : (n : ℕ) → l (suc n) ≡ l n ++ g n

pub factors_grow : Grows factors (λ j. target j j ∷ [])
unfolding factors
factors_grow = record { none = refl; more = λ n. refl }

pub across_grow : (i : ℕ) → Grows (across i) (λ j. target i j ∷ [])
unfolding across
across_grow i = record { none = refl; more = λ n. refl }

pub pairs_grow : Grows pairs (λ i. across i i)
unfolding pairs
pairs_grow = record { none = refl; more = λ n. refl }

-- piece i of n: what stands before it, and what behind
pub grow_split : {l g : ℕ → List Target} → Grows l g → (i n : ℕ) → i < n → (b : List Target) × (l n ≡ l i ++ (g i ++ b))
grow_split e i zero h = absurd (omega arith)
grow_split {l} {g} e i (suc n) h =
    by_cases (dec_lt i n)
    (λ a. let r = grow_split e i n a in (r.0 ++ g n, e.more n ∙ ap (λ (x : List Target). x ++ g n) r.1 ∙ simp append_assoc))
    (λ a. let q : n ≡ i = omega arith in ([], e.more n ∙ rw q (ap (λ (x : List Target). l i ++ x) (sym (append-nil (g i))))))

-- c n is the sum of f 0, .., f (n - 1)
pub record Sums (c f : ℕ → ℕ) : Type 0 where
  pub none : c 0 ≡ 0
  pub more : (n : ℕ) → c (suc n) ≡ c n + f n

-- so are the cells of a list that grows
module _ (size : ℕ → ℕ → ℕ) where
  grow_sums : {l g : ℕ → List Target} {f : ℕ → ℕ} → Grows l g → ((n : ℕ) → cells_of size (g n) ≡ f n) → Sums (λ n. cells_of size (l n)) f
  unfolding cells_of
  grow_sums {l} {g} e h =
      record {
        none = ap (cells_of size) e.none;
        more = λ n. ap (cells_of size) (e.more n) ∙ omega (arith, cells_append size (l n) (g n), h n);
      }

  pub factors_sums : Sums (λ n. cells_of size (factors n)) (λ j. size j j)
  unfolding cells_of
  factors_sums = grow_sums factors_grow (λ n. omega arith)

  pub across_sums : (i : ℕ) → Sums (λ n. cells_of size (across i n)) (size i)
  unfolding cells_of
  across_sums i = grow_sums (across_grow i) (λ n. omega arith)

  pub pairs_sums : Sums (λ n. cells_of size (pairs n)) (λ i. cells_of size (across i i))
  pairs_sums = grow_sums pairs_grow (λ n. refl)

pub sums_small : {c f : ℕ → ℕ} → Sums c f → (m n : ℕ) → ((i : ℕ) → i < n → f i ≤ m) → c n ≤ n * m
sums_small e m zero h = omega (arith, e.none)
sums_small e m (suc n) h = omega (arith, e.more n, sums_small e m n (λ i g. h i (omega arith)), h n (omega arith))

-- a loop that makes such a sum, and s is that of the first j: at most eight numbers, none past 2^35, so that a u64 holds it
pub record Summing (c f : ℕ → ℕ) (n s j : ℕ) : Type 0 where
  pub sums : Sums c f
  pub low : (i : ℕ) → i < n → f i ≤ 34359738368
  pub few : n ≤ 8
  pub within : j ≤ n
  pub far : s ≡ c j

pub summing_none : {c f : ℕ → ℕ} {n : ℕ} → Sums c f → ((i : ℕ) → i < n → f i ≤ 34359738368) → n ≤ 8 → Summing c f n 0 0
summing_none e h g = record { sums = e; low = h; few = g; within = omega arith; far = sym e.none }

module _ {c f : ℕ → ℕ} {n s j : ℕ} (e : Summing c f n s j) where
  -- one number more, t, fits and is counted
  pub summing_fits : {t : ℕ} → j < n → t ≡ f j → s + t < 18446744073709551616
  summing_fits h q =
      let few = e.few in
      omega (arith, sums_small e.sums 34359738368 j (λ i g. e.low i (omega arith)), e.low j h, e.far)

  pub summing_more : {t : ℕ} → j < n → t ≡ f j → Summing c f n (s + t) (j + 1)
  summing_more h q =
      record { sums = e.sums; low = e.low; few = e.few; within = omega arith; far = rw add-one (omega (arith, e.sums.more j, e.far)) }

  pub summing_all : n ≤ j → s ≡ c n
  summing_all h = let within = e.within in e.far ∙ ap c (omega arith)
