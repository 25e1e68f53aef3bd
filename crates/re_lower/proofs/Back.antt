-- The turns of backward substitution, as laws of lists.
use Prim.Native.Nat.{ℕ, zero, suc, ◌+◌, ◌-◌, ◌*◌, ◌/◌, ◌≤◌, ◌<◌}
use mathlib.Core.Path.{◌≡◌, refl, sym, ap, ap₂, ◌∙◌}
use mathlib.Core.List.{List, [], ◌∷◌, ◌++◌, append_assoc}
use native.Mathlib.Omega.{arith}
use lib.ListN.{length, get_or, take, drop, set}
use lib.Seq.{take-suc, set_at, length-take-le}
use lib.Ieee.{Float, nan, sub, mul, div, binary64}
use Rattle.storage.specs.Runs.{start, triangle}
use Rattle.storage.specs.Part.{store}
use Rattle.storage.proofs.Starts.{start_triangle}
use Rattle.storage.proofs.Parts.{store_before, store_in, store_nil}
use Rattle.rules.specs.Arithmetic.{Arithmetic, ieee}
use Rattle.rules.specs.Sums.{chain, subtract_from}
use Rattle.rules.specs.Cholesky.{at}
use Rattle.rules.specs.Solves.{backward}
use Rattle.re_lower.specs.Lower.{lower}
use Rattle.storage.proofs.Cells.{any_default}
use Rattle.rules.proofs.Rows.{chain_ext}

-- where row n starts
pub start_half : (n : ℕ) → n * (n + 1) / 2 ≡ start triangle n
start_half n = let e : 2 * start triangle n / 2 ≡ start triangle n = omega arith in ap (λ (x : ℕ). x / 2) (sym (start_triangle n)) ∙ e

-- row i starts i cells behind the row before it
pub start_before : (i : ℕ) → 0 < i → start triangle i ≡ start triangle (i - 1) + i
unfolding start
start_before zero h = absurd (omega arith)
start_before (suc j) h = let e : suc j - 1 ≡ j = omega arith in rw e

-- one cell written right before a list that is stored
pub set_before : {A : Type 0} (i : ℕ) (l w : List A) (v : A) → i < length w → set (store (suc i) l w) i v ≡ store i (v ∷ l) w
unfolding store
set_before {A} i l w v h =
    let x : A = get_or w i v in
    let r : List A = drop (suc i + length l) w in
    let e : suc i + length l ≡ i + suc (length l) = omega arith in
    ap (λ (y : List A). set (y ++ l ++ r) i v) (take-suc w i v h)
    ∙ ap (λ (y : List A). set y i v) (ap (λ (y : List A). y ++ r) (append_assoc (take i w) (x ∷ []) l) ∙ append_assoc (take i w) (x ∷ l) r)
    ∙ set_at (take i w) x (l ++ r) v i (length-take-le i w (omega arith))
    ∙ sym (append_assoc (take i w) (v ∷ l) r)
    ∙ ap (λ (k : ℕ). take i w ++ (v ∷ l) ++ drop k w) e

-- column i below its pivot, x products done
abbrev pub column_to : Float → List Float → List Float → ℕ → ℕ → Float
column_to s l t i x = chain ieee s (λ y. lower l (i + suc y) i) (λ y. at ieee t (i + suc y)) x

pub column_none : (s : Float) (l t : List Float) (i : ℕ) → s ≡ column_to s l t i (i + 1 - suc i)
unfolding subtract_from
column_none s l t i = let e : i + 1 - suc i ≡ 0 = omega arith in sym (ap (column_to s l t i) e)

pub column_turn : (s v : Float) (l t : List Float) (i q row x : ℕ) → q ≡ i + suc x → row ≡ start triangle q → row + i < length l → q < length t
    → v ≡ column_to s l t i x → sub binary64 v (mul binary64 (get_or l (row + i) nan) (get_or t q nan)) ≡ column_to s l t i (suc x)
unfolding subtract_from
column_turn s v l t i q row x e f h k g =
    ap₂ (sub binary64) g
    (ap₂ (mul binary64) (any_default l (row + i) nan ieee.zero h ∙ ap (λ (j : ℕ). at ieee l (j + i)) (f ∙ ap (start triangle) e))
    (any_default t q nan ieee.zero k ∙ ap (at ieee t) e))

pub length_backward : (A : Arithmetic) (v : ℕ → A.Num) (L : ℕ → ℕ → A.Num) (n d : ℕ) → length (backward A v L n d) ≡ d
unfolding backward
length_backward A v L n zero = refl
length_backward A v L n (suc d) = ap suc (length_backward A v L n d)

-- back substitution looks at the right side's n rows and at the triangle's own cells alone
pub backward_ext : (A : Arithmetic) (v v' : ℕ → A.Num) (L L' : ℕ → ℕ → A.Num) (n d : ℕ) → d ≤ n → ((x : ℕ) → x < n → v x ≡ v' x)
    → ((x y : ℕ) → x < n → y ≤ x → L x y ≡ L' x y) → backward A v L n d ≡ backward A v' L' n d
unfolding backward
backward_ext A v v' L L' n zero l h k = refl
backward_ext A v v' L L' n (suc d) l h k =
    let e : backward A v L n d ≡ backward A v' L' n d = backward_ext A v v' L L' n d (omega arith) h k in
    let i : ℕ = n - suc d in
    ap₂ (λ (x : A.Num) (rest : List A.Num). x ∷ rest)
    (ap₂ A.over
    (chain_ext A _ _ _ _ _ _ d (h i (omega arith)) (λ y m. k (i + suc y) i (omega arith) (omega arith)) (λ y m. ap (λ (rest : List A.Num). at A rest y) e))
    (k i i (omega arith) (omega arith))) e

-- the last d cells, solved
abbrev pub back_to : List Float → List Float → ℕ → ℕ → List Float
back_to t₀ l n d = backward ieee (at ieee t₀) (lower l) n d

pub back_none : (t₀ l : List Float) (n : ℕ) → t₀ ≡ store n (back_to t₀ l n (n - n)) t₀
unfolding backward
back_none t₀ l n =
    let e : n - n ≡ 0 = omega arith in
    sym (ap (λ (d : ℕ). store n (back_to t₀ l n d) t₀) e ∙ store_nil n t₀)

pub back_all : (t₀ l : List Float) (n i : ℕ) → i ≡ 0 → store i (back_to t₀ l n (n - i)) t₀ ≡ store 0 (back_to t₀ l n n) t₀
back_all t₀ l n i e =
    let f : n - 0 ≡ n = omega arith in
    ap (λ (k : ℕ). store k (back_to t₀ l n (n - k)) t₀) e ∙ ap (λ (d : ℕ). store 0 (back_to t₀ l n d) t₀) f

-- cell i when those behind it are solved, d of them
module _ (t₀ l : List Float) (n i d : ℕ) (c : d ≡ n - suc i) (h : i < n) (fits : n ≤ length t₀) (t : List Float) (z : length t ≡ length t₀)
    (q : t ≡ store (suc i) (back_to t₀ l n d) t₀) (from : ℕ) (e : from ≡ start triangle i) (m : from + i < length l) where
  abbrev rest : List Float
  rest = backward ieee (at ieee t₀) (lower l) n d

  many : length rest ≡ d
  many = length_backward ieee (at ieee t₀) (lower l) n d

  own : get_or t i nan ≡ at ieee t₀ i
  own = any_default t i nan ieee.zero (omega arith) ∙ ap (λ (y : List Float). at ieee y i) q
      ∙ store_before (suc i) rest t₀ (omega (arith, many)) ieee.zero i (omega arith)

  behind : (y : ℕ) → y < d → at ieee t (i + suc y) ≡ at ieee rest y
  behind y g =
      let k : i + suc y ≡ suc i + y = omega arith in
      ap₂ (at ieee) q k ∙ store_in (suc i) rest t₀ (omega (arith, many)) ieee.zero y (omega (arith, many))

  abbrev cell_at : ℕ → Float
  cell_at k = div binary64 (chain ieee (at ieee t₀ k) (λ x. lower l (k + suc x) k) (at ieee rest) d) (lower l k k)

  pub back_turn : (s : Float) → s ≡ column_to (get_or t i nan) l t i d
      → set t i (div binary64 s (get_or l (from + i) nan)) ≡ store i (back_to t₀ l n (suc d)) t₀
  unfolding backward
  back_turn s g =
      let j : i ≡ n - suc d = omega arith in
      let a : s ≡ chain ieee (at ieee t₀ i) (λ x. lower l (i + suc x) i) (at ieee rest) d =
      g ∙ chain_ext ieee _ _ _ _ _ _ d own (λ y o. refl) behind in
      let b : get_or l (from + i) nan ≡ lower l i i =
      any_default l (from + i) nan ieee.zero m ∙ ap (λ (k : ℕ). at ieee l (k + i)) e in
      ap (λ (y : List Float). set y i (div binary64 s (get_or l (from + i) nan))) q
      ∙ ap (set (store (suc i) rest t₀) i) (ap₂ (div binary64) a b ∙ ap cell_at j)
      ∙ set_before i rest t₀ (cell_at (n - suc d)) (omega arith)
