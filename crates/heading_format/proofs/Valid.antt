-- What a valid layout has.
use Prim.Native.Nat.{ℕ, zero, suc, ◌≤◌, ◌<◌}
use mathlib.Core.Path.{◌≡◌, refl, sym}
use mathlib.Core.Bool.{Bool, true, false, not, ◌&&◌, ◌||◌, and-eq-true_iff}
use mathlib.Core.Logic.{by_cases}
use native.Mathlib.Decide.{dec_lt}
use native.Mathlib.Omega.{arith}
use lib.Dec.{leb, eqb}
use lib.ListN.{take}
use borrow.Author.Tests.{leb-true, eqb-true}
use Rattle.layout.specs.declared.Layout.{Layout}
use Rattle.layout.specs.Blocks.{sum, sorted}
use Rattle.layout.specs.Shapes.{levels, doubles_needed, doubles_formula}
use Rattle.heading_format.specs.Heading.{every, within, same, sheet_levels, valid_pair, valid_layout}
use Rattle.layout.proofs.Formula.{doubles_formula_lem}

-- ---- tests

pub both : (a b : Bool) → a ≡ true → b ≡ true → (a && b) ≡ true
both a b p q = (and-eq-true_iff a b).1 (p, q)

pub unless : (a b : Bool) → (a ≡ true → b ≡ true) → (not a || b) ≡ true
unless true b h = h refl
unless false b h = refl

-- a test that each number below n passes
pub every_of : (f : ℕ → Bool) (n : ℕ) → ((c : ℕ) → c < n → f c ≡ true) → every f n ≡ true
unfolding every
every_of f zero h = refl
every_of f (suc n) h = both (every f n) (f n) (every_of f n (λ c l. h c (omega arith))) (h n (omega arith))

pub every_at : (f : ℕ → Bool) (n : ℕ) → every f n ≡ true → (c : ℕ) → c < n → f c ≡ true
unfolding every
every_at f zero e c h = absurd (omega arith)
every_at f (suc n) e c h =
    let k = (and-eq-true_iff (every f n) (f n)).0 e in
    by_cases (dec_lt c n) (λ l. every_at f n k.0 c l) (λ l. let q : c ≡ n = omega arith in rw q k.1)

within_at : (low high x : ℕ) → within low high x ≡ true → (low ≤ x) × (x ≤ high)
within_at low high x e =
    let k = (and-eq-true_iff (leb low x) (leb x high)).0 e in (leb-true low x k.0, leb-true x high k.1)

-- two tests that pass together are the same
pub same_bools : (a b : Bool) → (a ≡ true → b ≡ true) → (b ≡ true → a ≡ true) → a ≡ b
same_bools true b f g = sym (f refl)
same_bools false true f g = g refl
same_bools false false f g = refl

-- a test that does not pass
pub is_false : (b : Bool) → (b ≡ true → ⊥) → b ≡ false
is_false true h = absurd (h refl)
is_false false h = refl

pub unless_at_lem : (a b : Bool) → (not a || b) ≡ true → a ≡ true → b ≡ true
unless_at_lem true b e h = e
unless_at_lem false b e h = let z : ◌≡◌ {A = ℕ} 0 1 = cc in absurd (omega arith)

-- nine tests that all pass
pub nine : (a b c d e f g h i : Bool) → (a && b && c && d && e && f && g && h && i) ≡ true
    → (a ≡ true) × (b ≡ true) × (c ≡ true) × (d ≡ true) × (e ≡ true) × (f ≡ true) × (g ≡ true) × (h ≡ true) × (i ≡ true)
nine a b c d e f g h i t =
    let t₈ = (and-eq-true_iff (a && b && c && d && e && f && g && h) i).0 t in
    let t₇ = (and-eq-true_iff (a && b && c && d && e && f && g) h).0 t₈.0 in
    let t₆ = (and-eq-true_iff (a && b && c && d && e && f) g).0 t₇.0 in
    let t₅ = (and-eq-true_iff (a && b && c && d && e) f).0 t₆.0 in
    let t₄ = (and-eq-true_iff (a && b && c && d) e).0 t₅.0 in
    let t₃ = (and-eq-true_iff (a && b && c) d).0 t₄.0 in
    let t₂ = (and-eq-true_iff (a && b) c).0 t₃.0 in
    let t₁ = (and-eq-true_iff a b).0 t₂.0 in
    (t₁.0, t₁.1, t₂.1, t₃.1, t₄.1, t₅.1, t₆.1, t₇.1, t₈.1)

-- ---- a valid layout, fact by fact

pub record Valid (y : Layout) : Type 0 where
  pub readings : (1 ≤ y.n) × (y.n ≤ 1000000000)
  pub effects : (1 ≤ y.p) × (y.p ≤ 32)
  pub blocks : (1 ≤ y.k) × (y.k ≤ 8)
  pub level : (j : ℕ) → j < y.k → (1 ≤ levels y j) × (levels y j ≤ 65535)
  pub order : same (take y.k y.order) (sorted (sheet_levels y y.k) y.k) ≡ true
  pub total : y.q ≡ sum (levels y) y.k
  pub diagonal : y.diagonal ≡ true → y.k ≡ 2
  pub sparse : y.sparse ≡ true → (y.diagonal ≡ true) × (y.k ≡ 2)
  pub pair : (i j : ℕ) → i < y.k → j < i → valid_pair y i j ≡ true

pub is_valid : (y : Layout) → valid_layout y ≡ true → Valid y
unfolding valid_layout
is_valid y ok =
    let k =
    nine (within 1 1000000000 y.n) (within 1 32 y.p) (within 1 8 y.k) (every (λ j. within 1 65535 (levels y j)) y.k)
    (same (take y.k y.order) (sorted (sheet_levels y y.k) y.k)) (eqb y.q (sum (levels y) y.k)) (not y.diagonal || eqb y.k 2)
    (not y.sparse || (y.diagonal && eqb y.k 2)) (every (λ i. every (λ j. valid_pair y i j) i) y.k) ok in
    record {
      readings = within_at 1 1000000000 y.n k.0;
      effects = within_at 1 32 y.p k.1;
      blocks = within_at 1 8 y.k k.2;
      level = λ j h. within_at 1 65535 (levels y j) (every_at (λ i. within 1 65535 (levels y i)) y.k k.3 j h);
      order = k.4;
      total = eqb-true y.q (sum (levels y) y.k) k.5;
      diagonal = λ d. eqb-true y.k 2 (unless_at_lem y.diagonal (eqb y.k 2) k.6 d);
      sparse = λ s. let t = (and-eq-true_iff y.diagonal (eqb y.k 2)).0 (unless_at_lem y.sparse (y.diagonal && eqb y.k 2) k.7 s) in (t.0, eqb-true y.k 2 t.1);
      pair = λ i j h g. every_at (λ c. valid_pair y i c) i (every_at (λ r. every (λ c. valid_pair y r c) r) y.k k.8 i h) j g;
    }

-- it has as many doubles as Record 2's formula says
pub valid_doubles : (y : Layout) → valid_layout y ≡ true → doubles_needed y ≡ doubles_formula y
valid_doubles y ok = doubles_formula_lem y (is_valid y ok).total
