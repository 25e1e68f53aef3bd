-- The turns of the loops, as laws of lists.
use Prim.Native.Nat.{ℕ, suc, ◌+◌, ◌≤◌, ◌<◌}
use mathlib.Core.Path.{◌≡◌, refl, sym, ap, ap₂, ◌∙◌}
use mathlib.Core.List.{List, [], ◌∷◌, ◌++◌, append_assoc}
use native.Mathlib.Nat.{zero-add}
use native.Mathlib.Omega.{arith}
use lib.ListN.{length, get_or, set, length-append}
use lib.Seq.{get_or-append-add}
use lib.Ieee.{Float, nan, add, sub, mul, div, binary64}
use Rattle.square_root.specs.Root.{sqrt_of}
use Rattle.logarithm.specs.Ln.{ln_of}
use Rattle.storage.specs.Runs.{start, triangle, single, tab, cells}
use Rattle.storage.specs.Part.{part, store}
use Rattle.storage.proofs.Starts.{start_below, start_single}
use Rattle.storage.proofs.Cells.{length_tab, length_cells, get_or_cells, any_default}
use Rattle.storage.proofs.Parts.{length_part, get_or_part, store_before, store_in, store_behind, store_one, store_more}
use Rattle.rules.specs.Arithmetic.{ieee}
use Rattle.rules.specs.Sums.{chain, subtract_from, logs_from}
use Rattle.rules.specs.Cholesky.{at, forward, left_of_pivot, factor, radicand}
use Rattle.re_lower.specs.Lower.{lower, pivot, chain_of, chained}
use Rattle.re_lower.specs.Band.{solved_to}
use Rattle.rules.proofs.Rows.{chain_ext, length_forward}
use Rattle.re_lower.proofs.Laws.{forward_ext, rows_grow}

-- a store from the start on
module _ {A : Type 0} (w l : List A) (fits : length l ≤ length w) (d : A) (i : ℕ) where
  pub first_in : i < length l → get_or (store 0 l w) i d ≡ get_or l i d
  first_in h = let e : i ≡ 0 + i = omega arith in
      ap (λ (j : ℕ). get_or (store 0 l w) j d) e ∙ store_in 0 l w (omega arith) d i h

  pub first_behind : length l ≤ i → get_or (store 0 l w) i d ≡ get_or w i d
  first_behind h = store_behind 0 l w (omega arith) d i (omega arith)

-- ---- a row left of its pivot

module _ (w₀ : List Float) (from r : ℕ) (e : from ≡ start triangle r) (fits : from + r ≤ length w₀) where
  many : (c : ℕ) → length (solved_to w₀ from c) ≡ c
  many c = length_forward ieee (λ x. at ieee w₀ (from + x)) (lower w₀) c

  module _ (c : ℕ) (h : c < r) (t : List Float) (k : length t ≡ length w₀) (q : t ≡ store from (solved_to w₀ from c) w₀) (a : ℕ) (f : a ≡ start triangle c) where
    own : get_or t (from + c) nan ≡ at ieee w₀ (from + c)
    own = any_default t (from + c) nan ieee.zero (omega arith) ∙ ap (λ (l : List Float). at ieee l (from + c)) q
        ∙ store_behind from (solved_to w₀ from c) w₀ (omega (arith, many c)) ieee.zero (from + c) (omega (arith, many c))

    before : (y : ℕ) → y < c → at ieee t (from + y) ≡ at ieee (solved_to w₀ from c) y
    before y l = ap (λ (z : List Float). at ieee z (from + y)) q
        ∙ store_in from (solved_to w₀ from c) w₀ (omega (arith, many c)) ieee.zero y (omega (arith, many c))

    above : (y : ℕ) → y ≤ c → at ieee t (a + y) ≡ lower w₀ c y
    above y l = ap₂ (λ (z : List Float) (i : ℕ). at ieee z (i + y)) q f
        ∙ store_before from (solved_to w₀ from c) w₀ (omega (arith, many c)) ieee.zero (start triangle c + y) (omega (arith, start_below triangle c r h))

    pub row_turn : (s : Float) → s ≡ chained (get_or t (from + c) nan) t from t a c
        → set t (from + c) (div binary64 s (get_or t (a + c) nan)) ≡ store from (solved_to w₀ from (suc c)) w₀
    unfolding forward
    row_turn s g =
        let j : from + c ≡ from + length (solved_to w₀ from c) = omega (arith, many c) in
        let x : s ≡ chain ieee (at ieee w₀ (from + c)) (at ieee (solved_to w₀ from c)) (lower w₀ c) c =
        g ∙ chain_ext ieee _ _ _ _ _ _ c own before (λ y l. above y (omega arith)) in
        let y : get_or t (a + c) nan ≡ lower w₀ c c =
        any_default t (a + c) nan ieee.zero (omega (arith, start_below triangle c r h)) ∙ above c (omega arith) in
        ap₂ (λ (z : List Float) (i : ℕ). set z i (div binary64 s (get_or t (a + c) nan))) q j
        ∙ ap (set (store from (solved_to w₀ from c) w₀) (from + length (solved_to w₀ from c))) (ap₂ (div binary64) x y)
        ∙ store_one from (solved_to w₀ from c) w₀ (omega (arith, many c)) _ (omega (arith, many c))

-- ---- a row of the factor

-- the first r rows of the factor of the triangle that w₀ begins with
abbrev pub rows_to : List Float → ℕ → List Float
rows_to w₀ r = cells triangle r (factor ieee (lower w₀) r)

module _ (w₀ : List Float) (n : ℕ) (fits : start triangle n ≤ length w₀) (r : ℕ) (h : r < n)
    (t t' : List Float) (z : length t' ≡ length w₀) (q : t ≡ store 0 (rows_to w₀ r) w₀) (from : ℕ) (e : from ≡ start triangle r)
    (f : t' ≡ store from (solved_to t from r) t) where
  abbrev made : List Float
  made = cells triangle r (factor ieee (lower w₀) r)

  abbrev side : List Float
  side = left_of_pivot ieee (lower w₀) (factor ieee (lower w₀) r) r

  tall : length made ≡ start triangle r
  tall = length_cells triangle r (factor ieee (lower w₀) r)

  wide : length side ≡ r
  wide = length_forward ieee (lower w₀ r) (factor ieee (lower w₀) r) r

  room : start triangle r + suc r ≤ length w₀
  room = omega (arith, start_below triangle r n h)

  long : length (made ++ side) ≡ start triangle r + r
  long = length-append made side ∙ omega (arith, tall, wide)

  new : solved_to t from r ≡ side
  new =
      forward_ext ieee _ _ _ _ r
      (λ x l. ap₂ (λ (y : List Float) (i : ℕ). at ieee y (i + x)) q e
      ∙ first_behind w₀ made (omega (arith, tall, room)) ieee.zero (start triangle r + x) (omega (arith, tall)))
      (λ x y l m. ap (λ (v : List Float). at ieee v (start triangle x + y)) q
      ∙ first_in w₀ made (omega (arith, tall, room)) ieee.zero (start triangle x + y) (omega (arith, tall, start_below triangle x r l))
      ∙ get_or_cells triangle r (factor ieee (lower w₀) r) x y ieee.zero l (omega arith))

  -- the row is solved behind those above it
  pub row_done : t' ≡ store 0 (made ++ side) w₀
  row_done =
      let k : from ≡ 0 + length made = omega (arith, tall) in
      f ∙ ap (λ (y : List Float). store from y t) new ∙ ap₂ (λ (i : ℕ) (y : List Float). store i side y) k q
      ∙ store_more 0 made w₀ (omega (arith, tall, room)) side

  own_pivot : get_or t' (from + r) nan ≡ lower w₀ r r
  own_pivot = any_default t' (from + r) nan ieee.zero (omega (arith, room)) ∙ ap₂ (λ (y : List Float) (i : ℕ). at ieee y (i + r)) row_done e
      ∙ first_behind w₀ (made ++ side) (omega (arith, long, room)) ieee.zero (start triangle r + r) (omega (arith, long))

  mine : (y : ℕ) → y < r → at ieee t' (from + y) ≡ at ieee side y
  mine y l =
      let k : from ≡ length made = omega (arith, tall) in
      ap (λ (v : List Float). at ieee v (from + y)) row_done
      ∙ first_in w₀ (made ++ side) (omega (arith, long, room)) ieee.zero (from + y) (omega (arith, long))
      ∙ ap (λ (i : ℕ). at ieee (made ++ side) (i + y)) k ∙ get_or-append-add made side y ieee.zero

  pub is_radicand : (s : Float) → s ≡ chained (get_or t' (from + r) nan) t' from t' from r → s ≡ radicand ieee (lower w₀) r
  is_radicand s g = g ∙ chain_ext ieee _ _ _ _ _ _ r own_pivot mine mine

  pub chol_turn : (s : Float) → s ≡ chained (get_or t' (from + r) nan) t' from t' from r
      → (v : Float) → v ≡ sqrt_of s → set t' (from + r) v ≡ store 0 (rows_to w₀ (suc r)) w₀
  chol_turn s g v p =
      let k : from + r ≡ 0 + length (made ++ side) = omega (arith, long) in
      let x : v ≡ sqrt_of (radicand ieee (lower w₀) r) = p ∙ ap sqrt_of (is_radicand s g) in
      ap₂ (λ (y : List Float) (i : ℕ). set y i v) row_done k
      ∙ store_one 0 (made ++ side) w₀ (omega (arith, long, room)) v (omega (arith, long, room))
      ∙ ap (λ (y : List Float). store 0 y w₀)
      (append_assoc made side (v ∷ []) ∙ ap (λ (y : Float). made ++ (side ++ (y ∷ []))) x ∙ sym (rows_grow ieee (lower w₀) r))

-- ---- a diagonal
abbrev pub roots_to : List Float → ℕ → List Float
roots_to w₀ r = tab r (λ x. sqrt_of (pivot w₀ x))

module _ (w₀ : List Float) (r : ℕ) (h : r < length w₀) (t : List Float) (z : length t ≡ length w₀) (q : t ≡ store 0 (roots_to w₀ r) w₀) where
  pub root_own : get_or t r nan ≡ pivot w₀ r
  root_own =
      let k : length (roots_to w₀ r) ≡ r = length_tab r (λ x. sqrt_of (pivot w₀ x)) in
      let j : r ≡ start single r + 0 = omega (arith, start_single r) in
      any_default t r nan ieee.zero (omega arith) ∙ ap (λ (y : List Float). at ieee y r) q
      ∙ first_behind w₀ (roots_to w₀ r) (omega arith) ieee.zero r (omega arith) ∙ ap (at ieee w₀) j

  pub root_turn : (v : Float) → v ≡ sqrt_of (get_or t r nan) → set t r v ≡ store 0 (roots_to w₀ (suc r)) w₀
  unfolding tab
  root_turn v p =
      let k : length (roots_to w₀ r) ≡ r = length_tab r (λ x. sqrt_of (pivot w₀ x)) in
      let e : r ≡ 0 + length (roots_to w₀ r) = omega arith in
      ap₂ (λ (y : List Float) (i : ℕ). set y i v) q e ∙ store_one 0 (roots_to w₀ r) w₀ (omega arith) v (omega arith)
      ∙ ap (λ (y : Float). store 0 (roots_to w₀ r ++ (y ∷ [])) w₀) (p ∙ ap sqrt_of root_own)

-- ---- T on a row
abbrev pub row_to : List Float → List Float → ℕ → List Float
row_to t₀ l x = forward ieee (at ieee t₀) (lower l) x

module _ (t₀ l : List Float) (x : ℕ) (h : x < length t₀) (t : List Float) (z : length t ≡ length t₀) (q : t ≡ store 0 (row_to t₀ l x) t₀)
    (from : ℕ) (e : from ≡ start triangle x) (fits : from + x < length l) where
  count : length (row_to t₀ l x) ≡ x
  count = length_forward ieee (at ieee t₀) (lower l) x

  pub solve_turn : (s : Float) → s ≡ chained (get_or t x nan) t 0 l from x
      → set t x (div binary64 s (get_or l (from + x) nan)) ≡ store 0 (row_to t₀ l (suc x)) t₀
  unfolding forward
  solve_turn s g =
      let j : x ≡ 0 + length (row_to t₀ l x) = omega (arith, count) in
      let own : get_or t x nan ≡ at ieee t₀ x =
      any_default t x nan ieee.zero (omega arith) ∙ ap (λ (y : List Float). at ieee y x) q
      ∙ first_behind t₀ (row_to t₀ l x) (omega (arith, count)) ieee.zero x (omega (arith, count)) in
      let a : s ≡ chain ieee (at ieee t₀ x) (at ieee (row_to t₀ l x)) (lower l x) x =
      g ∙ chain_ext ieee _ _ _ _ _ _ x own
      (λ y m. ap₂ (λ (v : List Float) (i : ℕ). at ieee v i) q (zero-add y)
      ∙ first_in t₀ (row_to t₀ l x) (omega (arith, count)) ieee.zero y (omega (arith, count)))
      (λ y m. ap (λ (i : ℕ). at ieee l (i + y)) e) in
      let d : get_or l (from + x) nan ≡ lower l x x =
      any_default l (from + x) nan ieee.zero fits ∙ ap (λ (i : ℕ). at ieee l (i + x)) e in
      ap₂ (λ (y : List Float) (i : ℕ). set y i (div binary64 s (get_or l (from + x) nan))) q j
      ∙ ap (set (store 0 (row_to t₀ l x) t₀) (0 + length (row_to t₀ l x))) (ap₂ (div binary64) a d)
      ∙ store_one 0 (row_to t₀ l x) t₀ (omega (arith, count)) _ (omega (arith, count))

-- ---- a product and a logarithm more
pub chain_turn : (s v : Float) (x y : List Float) (i : ℕ) → i < length x → i < length y → v ≡ chain ieee s (at ieee x) (at ieee y) i
    → sub binary64 v (mul binary64 (get_or x i nan) (get_or y i nan)) ≡ chain ieee s (at ieee x) (at ieee y) (suc i)
unfolding subtract_from
chain_turn s v x y i h k e = ap₂ (sub binary64) e (ap₂ (mul binary64) (any_default x i nan ieee.zero h) (any_default y i nan ieee.zero k))

-- of n doubles of t from a on and as many of l from b on, lent up to e and f
pub chain_lent : (s : Float) (t l : List Float) (a b e f n : ℕ) → e ≡ n → f ≡ n → a + n ≤ length t → b + n ≤ length l
    → chain_of s (part a e t) (part b f l) ≡ chained s t a l b n
chain_lent s t l a b e f n p q h k =
    ap₂ (λ (i j : ℕ). chain_of s (part a i t) (part b j l)) p q
    ∙ ap (chain ieee s (at ieee (part a n t)) (at ieee (part b n l))) (length_part a n t h)
    ∙ chain_ext ieee _ _ _ _ _ _ n refl (λ y m. get_or_part a n t y ieee.zero m) (λ y m. get_or_part b n l y ieee.zero m)

pub log_turn : (s v x : Float) (t : List Float) (i r : ℕ) (g : ℕ → Float) → i < length t → at ieee t i ≡ g r → v ≡ logs_from ieee s g r → x ≡ ln_of (get_or t i nan)
    → add binary64 v x ≡ logs_from ieee s g (suc r)
unfolding logs_from
log_turn s v x t i r g h k e f = ap₂ (add binary64) e (f ∙ ap ln_of (any_default t i nan ieee.zero h ∙ k))
