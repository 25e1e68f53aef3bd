-- The levels by sheet index, the order that they give, and their sum.
use Prim.Native.Nat.{ℕ, zero, suc, ◌+◌, ◌*◌, ◌≤◌, ◌<◌}
use mathlib.Core.Path.{◌≡◌, refl, sym, ap, ap₂, ◌∙◌}
use mathlib.Core.Bool.{Bool, true, false, ◌&&◌, cond}
use mathlib.Core.List.{List, [], ◌∷◌}
use native.Mathlib.Omega.{arith}
use native.Mathlib.Numerals.{add-one}
use borrow.Author.Tests.{eqb-true, eqb-false}
use lib.Dec.{eqb}
use lib.ListN.{length, get_or, take, set, replicate, length-set, length-take, get_or-replicate}
use lib.Seq.{get_or-set_same, get_or-set_other, get_or-take, ext_get_or}
use Rattle.layout.specs.declared.Layout.{Layout}
use Rattle.layout.specs.Blocks.{sorted, sum, padded}
use Rattle.layout.specs.Shapes.{levels}
use Rattle.heading_format.specs.Heading.{every, same, sheet_levels}
use Rattle.heading_format.proofs.Sorted.{length_sorted, sorted_ext}
use Rattle.layout.proofs.Sums.{padded_at, length_padded}

-- ---- the first s sorted blocks stand by sheet index
pub record Sheets (y : Layout) (r : List ℕ) (s : ℕ) : Type 0 where
  pub long : length r ≡ 8
  pub at : (i : ℕ) → i < 8 → get_or r i 0 ≡ sheet_levels y s i

pub sheets_none : (y : Layout) → Sheets y (replicate 8 0) 0
unfolding sheet_levels
sheets_none y = record { long = refl; at = λ i h. get_or-replicate 8 i 0 0 h }

pub sheets_more : {y : Layout} {r r' : List ℕ} {s p v : ℕ} → Sheets y r s → r' ≡ set r p v → p ≡ get_or y.order s 0 → v ≡ levels y s → Sheets y r' (s + 1)
unfolding sheet_levels
sheets_more {y} {r} {r'} {s} {p} {v} e q a b =
    record {
      long = ap length q ∙ length-set r p v ∙ e.long;
      at = λ i h. rw (add-one, q, ← a, ← b) (step i h (eqb p i) refl);
    }
  where
    step : (i : ℕ) → i < 8 → (t : Bool) → eqb p i ≡ t → get_or (set r p v) i 0 ≡ cond t v (sheet_levels y s i)
    step i h true z = let w : p ≡ i = eqb-true p i z in rw w (get_or-set_same r i v 0 (omega (arith, e.long)))
    step i h false z = get_or-set_other r p i v 0 (λ w. eqb-false p i z (sym w)) ∙ e.at i h

pub sheets_done : (y : Layout) (r : List ℕ) (k : ℕ) {s : ℕ} → Sheets y r s → s ≤ k → k ≤ s → (i : ℕ) → i < 8 → get_or r i 0 ≡ sheet_levels y k i
sheets_done y r k {s} e g h =
    let q : k ≡ s = omega arith in
    rw q e.at

-- ---- lists compared number by number
pub assoc : (a b c : Bool) → ((a && b) && c) ≡ (a && (b && c))
assoc true b c = refl
assoc false b c = refl

-- the first number's test apart
every_head : (f : ℕ → Bool) (n : ℕ) → every f (suc n) ≡ (f 0 && every (λ i. f (suc i)) n)
unfolding every
every_head f zero = flip (f 0)
  where
    flip : (a : Bool) → (true && a) ≡ (a && true)
    flip true = refl
    flip false = refl
every_head f (suc n) =
    ap (λ (x : Bool). x && f (suc n)) (every_head f n) ∙ assoc (f 0) (every (λ i. f (suc i)) n) (f (suc n))

same_every : (k : ℕ) (a b : List ℕ) → k ≤ length a → k ≤ length b → every (λ i. eqb (get_or a i 0) (get_or b i 0)) k ≡ same (take k a) (take k b)
unfolding every same
same_every zero a b h g = refl
same_every (suc k) [] b h g = absurd (omega arith)
same_every (suc k) (x ∷ a) [] h g = absurd (omega arith)
same_every (suc k) (x ∷ a) (z ∷ b) h g =
    every_head (λ i. eqb (get_or (x ∷ a) i 0) (get_or (z ∷ b) i 0)) k
    ∙ ap (λ (t : Bool). eqb x z && t) (same_every k a b (omega arith) (omega arith))

take_padded : (k : ℕ) (l : List ℕ) → k ≤ 8 → length l ≡ k → take k (padded 8 l) ≡ l
take_padded k l h e =
    let long = length_padded 8 l in
    let cut : length (take k (padded 8 l)) ≡ k = length-take k (padded 8 l) ∙ omega arith in
    ext_get_or 0 (take k (padded 8 l)) l (cut ∙ sym e) (λ i g. get_or-take k (padded 8 l) i 0 (omega arith) ∙ padded_at 8 l i (omega arith))

-- the blocks are sorted where the order of the levels by sheet index is theirs
pub sorted_same : (y : Layout) (m : List ℕ) {s : List ℕ} {r : Bool} → r ≡ every (λ i. eqb (get_or y.order i 0) (get_or s i 0)) y.k → s ≡ padded 8 (sorted (λ i. get_or m i 0) y.k)
    → ((i : ℕ) → i < 8 → get_or m i 0 ≡ sheet_levels y y.k i) → y.k ≤ 8 → length y.order ≡ 8 → r ≡ same (take y.k y.order) (sorted (sheet_levels y y.k) y.k)
sorted_same y m {s} {r} e q at h long =
    let k : ℕ = y.k in
    let f : ℕ → ℕ = λ i. get_or m i 0 in
    let ends : length s ≡ 8 = ap length q ∙ length_padded 8 (sorted f k) in
    e ∙ same_every k y.order s (omega arith) (omega arith)
    ∙ ap (same (take k y.order))
    (ap (take k) q ∙ take_padded k (sorted f k) h (length_sorted f k) ∙ sorted_ext f (sheet_levels y k) k (λ i l. at i (omega arith)))

-- ---- the sum of the first j levels
pub record Summed (y : Layout) (t j : ℕ) : Type 0 where
  pub same : t ≡ sum (levels y) j
  pub most : t ≤ 65535 * j

pub summed_none : (y : Layout) → Summed y 0 0
unfolding sum
summed_none y = record { same = refl; most = omega arith }

pub summed_more : {y : Layout} {t j v : ℕ} → Summed y t j → v ≡ levels y j → levels y j ≤ 65535 → Summed y (t + v) (j + 1)
unfolding sum
summed_more {y} {t} {j} {v} e q h =
    let most = e.most in
    record { same = rw (add-one) (ap₂ (λ (a b : ℕ). a + b) e.same q); most = omega arith }

pub summed_done : (y : Layout) (k : ℕ) {t j : ℕ} → Summed y t j → j ≤ k → k ≤ j → t ≡ sum (levels y) k
summed_done y k {t} {j} e g h =
    let q : k ≡ j = omega arith in
    rw q e.same
