-- The turns of the loops over a band, as laws of lists.
use Prim.Native.Nat.{ℕ, suc, ◌+◌, ◌*◌, ◌-◌, ◌≤◌, ◌<◌}
use mathlib.Core.Path.{◌≡◌, refl, sym, ap, ap₂, ◌∙◌}
use mathlib.Core.List.{List, [], ◌∷◌, ◌++◌}
use mathlib.Core.Logic.{by_cases}
use native.Mathlib.Decide.{dec_lt}
use native.Mathlib.Omega.{arith}
use lib.ListN.{length, get_or, set, take, drop, get_or-append}
use lib.Seq.{get_or_at, get_or-set_same, get_or-set_other, set_split, append_snoc, take_all}
use lib.Ieee.{Float, nan, sub, mul, div, binary64}
use Rattle.storage.specs.Runs.{start, triangle, tab, cells}
use Rattle.storage.specs.Part.{store}
use Rattle.storage.proofs.Starts.{start_below, start_le}
use Rattle.storage.proofs.Cells.{length_tab, get_or_tab, take_tab, length_cells, get_or_cells, any_default}
use Rattle.storage.proofs.Filling.{Filling, filling_next}
use Rattle.storage.proofs.Parts.{store_before, store_in, store_behind, store_one}
use Rattle.rules.specs.Arithmetic.{ieee}
use Rattle.rules.specs.Sums.{chain, subtract_from}
use Rattle.rules.specs.Cholesky.{at, forward, factor}
use Rattle.re_lower.specs.Lower.{lower}
use Rattle.re_lower.specs.Band.{
  lane,
  lane_chain,
  next_cell,
  four_done,
  FourSolved,
  Gathered,
  BandGathered,
  BandReady,
  solved_to,
  RowReady,
}
use Rattle.rules.proofs.Rows.{chain_ext, length_forward, rows_stay}
use Rattle.re_lower.proofs.Laws.{forward_ext}
use Rattle.re_lower.proofs.Turns.{first_in, first_behind}

-- ---- one cell written
pub set_one : {A : Type 0} (t : List A) (i j : ℕ) (v : A) → i ≡ j → i < length t → set t i v ≡ store j (v ∷ []) t
unfolding store
set_one {A} t i j v e h =
    let k : suc i ≡ i + 1 = omega arith in
    set_split t i v h ∙ sym (append_snoc (take i t) v (drop (suc i) t)) ∙ ap (λ (n : ℕ). take i t ++ (v ∷ []) ++ drop n t) k
    ∙ ap (λ (n : ℕ). store n (v ∷ []) t) e

-- ---- cell c of row i of a band
module _ (x l : List Float) (i from c : ℕ) where
  pub lane_start : (z : ℕ) → z ≡ 4 * c + i → z < length x → get_or x z nan ≡ lane_chain (lane x i c) x i l from 0
  unfolding subtract_from
  lane_start z p h = any_default x z nan ieee.zero h ∙ ap (at ieee x) p

  pub lane_turn : (v : Float) (y y' z q : ℕ) → suc y ≡ y' → z ≡ 4 * y + i → q ≡ from + y → z < length x → q < length l → v ≡ lane_chain (lane x i c) x i l from y
      → sub binary64 v (mul binary64 (get_or x z nan) (get_or l q nan)) ≡ lane_chain (lane x i c) x i l from y'
  unfolding subtract_from
  lane_turn v y y' z q g p f h k e =
      ap₂ (sub binary64) e
      (ap₂ (mul binary64) (any_default x z nan ieee.zero h ∙ ap (at ieee x) p) (any_default l q nan ieee.zero k ∙ ap (at ieee l) f))
      ∙ ap (lane_chain (lane x i c) x i l from) g

  pub lane_done : (y : ℕ) (v : Float) → y ≡ c → from + c < length l → v ≡ lane_chain (lane x i c) x i l from y
      → div binary64 v (get_or l (from + c) nan) ≡ next_cell x l from c i
  lane_done y v e h g =
      ap₂ (div binary64) (g ∙ ap (lane_chain (lane x i c) x i l from) e) (any_default l (from + c) nan ieee.zero h)

-- the sums of the four rows
abbrev pub lane_sum : List Float → List Float → ℕ → ℕ → ℕ → ℕ → Float
lane_sum x l from c y i = lane_chain (lane x i c) x i l from y

module _ (x l : List Float) (from c : ℕ) where
  pub sums_start : 4 * c + 4 ≤ length x
      → get_or x (4 * c) nan ∷ get_or x (4 * c + 1) nan ∷ get_or x (4 * c + 2) nan ∷ get_or x (4 * c + 3) nan ∷ [] ≡ tab 4 (lane_sum x l from c 0)
  unfolding tab
  sums_start h =
      rw (
        lane_start x l 0 from c (4 * c) (omega arith) (omega arith),
        lane_start x l 1 from c (4 * c + 1) refl (omega arith),
        lane_start x l 2 from c (4 * c + 2) refl (omega arith),
        lane_start x l 3 from c (4 * c + 3) refl (omega arith),
      ) refl

  module _ (s : List Float) (y : ℕ) (e : s ≡ tab 4 (lane_sum x l from c y)) where
    pub four_sums : length s ≡ 4
    four_sums = ap length e ∙ length_tab 4 (lane_sum x l from c y)

    own_sum : (i : ℕ) → i < 4 → get_or s i nan ≡ lane_sum x l from c y i
    own_sum i h = ap (λ (t : List Float). get_or t i nan) e ∙ get_or_tab 4 (lane_sum x l from c y) i nan h

    pub sum_turn : {t : List Float} {i : ℕ} → Filling (lane_sum x l from c (y + 1)) 0 4 s t i → i < 4 → 4 * y + i < length x → from + y < length l
        → Filling (lane_sum x l from c (y + 1)) 0 4 s (set t i (sub binary64 (get_or t i nan) (mul binary64 (get_or x (4 * y + i) nan) (get_or l (from + y) nan)))) (i + 1)
    sum_turn {t} {i} so h k m =
        filling_next so (λ (v : Float). sub binary64 v (mul binary64 (get_or x (4 * y + i) nan) (get_or l (from + y) nan))) nan (omega arith) h
        (lane_turn x l i from c (get_or s i nan) y (y + 1) (4 * y + i) (from + y) (omega arith) refl refl k m (own_sum i h))

    pub quotient_is : y ≡ c → from + c < length l → (i : ℕ) → i < 4 → div binary64 (get_or s i nan) (get_or l (from + c) nan) ≡ next_cell x l from c i
    quotient_is f k i h = lane_done x l i from c y (get_or s i nan) f k (own_sum i h)

-- ---- one cell more of each row of a band: x₀ is the band before the first, and behind cell c nothing has changed yet
module _ (x₀ l x : List Float) (from c : ℕ) (e : from ≡ start triangle c) (fits : 4 * c + 4 ≤ length x)
    (d : FourSolved x₀ l x c) (u : (z : ℕ) → 4 * c ≤ z → at ieee x z ≡ at ieee x₀ z) where
  four : length (tab 4 (next_cell x l from c)) ≡ 4
  four = length_tab 4 (next_cell x l from c)

  abbrev row : ℕ → List Float
  row i = forward ieee (lane x₀ i) (lower l) c

  abbrev cell_of : ℕ → Float
  cell_of i = div binary64 (chain ieee (lane x₀ i c) (at ieee (forward ieee (lane x₀ i) (lower l) c)) (lower l c) c) (lower l c c)

  new : (i : ℕ) → i < 4 → next_cell x l from c i ≡ cell_of i
  new i h =
      ap₂ (div binary64)
      (chain_ext ieee _ _ _ _ _ _ c (u (4 * c + i) (omega arith)) (λ y m. d i y h m) (λ y m. ap (λ (j : ℕ). at ieee l (j + y)) e))
      (ap (λ (j : ℕ). at ieee l (j + c)) e)

  pub four_rest : (z : ℕ) → 4 * suc c ≤ z → at ieee (four_done x l from c) z ≡ at ieee x₀ z
  four_rest z h =
      store_behind (4 * c) (tab 4 (next_cell x l from c)) x (omega (arith, four)) ieee.zero z (omega (arith, four)) ∙ u z (omega arith)

  pub four_solved : FourSolved x₀ l (four_done x l from c) (suc c)
  unfolding forward
  four_solved i y h k =
      by_cases (dec_lt y c)
      (λ m. store_before (4 * c) (tab 4 (next_cell x l from c)) x (omega (arith, four)) ieee.zero (4 * y + i) (omega arith) ∙ d i y h m
      ∙ sym (get_or-append (row i) (cell_of i ∷ []) ieee.zero y (omega (arith, length_forward ieee (lane x₀ i) (lower l) c))))
      (λ m. let q : y ≡ c = omega arith in
      rw q
      (store_in (4 * c) (tab 4 (next_cell x l from c)) x (omega (arith, four)) ieee.zero i (omega (arith, four))
      ∙ get_or_tab 4 (next_cell x l from c) i ieee.zero h ∙ new i h
      ∙ sym (get_or_at (row i) (cell_of i) [] ieee.zero c (length_forward ieee (lane x₀ i) (lower l) c))))

-- ---- rows that go to a band
pub gather_turn : (x₀ t x : List Float) (from i c z : ℕ) → Gathered x₀ t x from i c → z ≡ 4 * c + i → i < 4 → z < length x → from + c < length t
    → Gathered x₀ t (set x z (get_or t (from + c) nan)) from i (suc c)
gather_turn x₀ t x from i c z g p b h k =
    let v : Float = get_or t (from + c) nan in
    record {
      mine = λ y m. by_cases (dec_lt y c)
          (λ o. get_or-set_other x z (4 * y + i) v ieee.zero (λ e. omega arith) ∙ g.mine y o)
          (λ o. let e : 4 * y + i ≡ z = omega arith in
          let f : c ≡ y = omega arith in
          ap (at ieee (set x z v)) e ∙ get_or-set_same x z v ieee.zero h ∙ any_default t (from + c) nan ieee.zero k ∙ ap (λ (j : ℕ). at ieee t (from + j)) f);
      others = λ j y m o. get_or-set_other x z (4 * y + j) v ieee.zero (λ e. o (omega arith)) ∙ g.others j y m o;
    }

pub band_turn : (t x x' : List Float) (base from i : ℕ) → i < 4 → from ≡ start triangle (base + i) → BandGathered t x base i → Gathered x t x' from i base
    → BandGathered t x' base (suc i)
band_turn t x x' base from i h e b g j c m o =
    by_cases (dec_lt j i)
    (λ l. g.others j c (omega arith) (λ f. omega arith) ∙ b j c l o)
    (λ l. let f : i ≡ j = omega arith in
    ap (λ (y : ℕ). lane x' y c) (sym f) ∙ g.mine c o ∙ ap (λ (y : ℕ). at ieee t (y + c)) (e ∙ ap (λ (y : ℕ). start triangle (base + y)) f))

-- ---- a row that goes back
pub put_turn : (t₀ x t : List Float) (from i c z : ℕ) → from + c < length t₀ → z ≡ 4 * c + i → z < length x → t ≡ store from (tab c (lane x i)) t₀
    → set t (from + c) (get_or x z nan) ≡ store from (tab (suc c) (lane x i)) t₀
unfolding tab
put_turn t₀ x t from i c z h p m q =
    let k : length (tab c (lane x i)) ≡ c = length_tab c (lane x i) in
    let j : from + c ≡ from + length (tab c (lane x i)) = omega arith in
    ap₂ (λ (y : List Float) (n : ℕ). set y n (get_or x z nan)) q j
    ∙ store_one from (tab c (lane x i)) t₀ (omega arith) (get_or x z nan) (omega arith)
    ∙ ap (λ (y : Float). store from (tab c (lane x i) ++ (y ∷ [])) t₀) (any_default x z nan ieee.zero m ∙ ap (at ieee x) p)

-- the cells that the band has of row r are its first, solved
pub row_back : (t x : List Float) (from base r : ℕ) → RowReady t x from base r → store from (tab base (lane x (r - base))) t ≡ store from (solved_to t from base) t
row_back t x from base r g =
    let k : length (solved_to t from base) ≡ base = length_forward ieee (λ y. at ieee t (from + y)) (lower t) base in
    ap (λ (y : List Float). store from y t)
    (sym
    (sym (take_all base (solved_to t from base) (omega arith))
    ∙ take_tab ieee.zero base (lane x (r - base)) (solved_to t from base) (omega arith) (λ c h. sym (g c h))))

-- ---- t has r rows of the factor of the triangle w, which has n, and below them still has those of w
module _ (w : List Float) (n : ℕ) (fits : start triangle n ≤ length w) (t : List Float) (r : ℕ) (o : r < n)
    (q : t ≡ store 0 (cells triangle r (factor ieee (lower w) r)) w) where
  abbrev made : List Float
  made = cells triangle r (factor ieee (lower w) r)

  tall : length made ≡ start triangle r
  tall = length_cells triangle r (factor ieee (lower w) r)

  room : length made ≤ length w
  room = omega (arith, tall, start_below triangle r n o)

  -- the first cells of a row p that is not yet made, solved with rows that are
  pub rows_above : (base p : ℕ) → base ≤ r → r ≤ p → forward ieee (λ c. at ieee t (start triangle p + c)) (lower t) base ≡ forward ieee (lower w p) (factor ieee (lower w) base) base
  rows_above base p h k =
      forward_ext ieee _ _ _ _ base
      (λ x l. ap (λ (y : List Float). at ieee y (start triangle p + x)) q
      ∙ first_behind w made room ieee.zero (start triangle p + x) (omega (arith, tall, start_le triangle r p k)))
      (λ x y l m. ap (λ (v : List Float). at ieee v (start triangle x + y)) q
      ∙ first_in w made room ieee.zero (start triangle x + y) (omega (arith, tall, start_below triangle x r (omega arith)))
      ∙ get_or_cells triangle r (factor ieee (lower w) r) x y ieee.zero (omega arith) (omega arith)
      ∙ ap (λ (v : List Float). at ieee v y) (rows_stay ieee (lower w) x base r l h))

  -- the next band, gathered and solved
  pub band_ready : (x x' : List Float) (rows : ℕ) → ((i : ℕ) → i < 4 → i < n - r → i < rows) → BandGathered t x r rows → FourSolved x t x' r → BandReady w x' r n
  band_ready x x' rows m g s i c h k l =
      s i c h l
      ∙ ap (λ (y : List Float). at ieee y c)
      (forward_ext ieee (lane x i) (λ y. at ieee t (start triangle (r + i) + y)) (lower t) (lower t) r (λ y u. g i y (m i h (omega arith)) u) (λ y z u v. refl)
      ∙ rows_above r (r + i) (omega arith) (omega arith))

  -- row r is in a band that is ready
  pub row_ready : (x : List Float) (base from : ℕ) → base ≤ r → (0 < base → r < base + 4) → from ≡ start triangle r → BandReady w x base n → RowReady t x from base r
  row_ready x base from h k e g c l =
      let j : base + (r - base) ≡ r = omega arith in
      let m : r < base + 4 = k (omega arith) in
      g (r - base) c (omega arith) (omega arith) l
      ∙ ap (λ (y : ℕ). at ieee (forward ieee (lower w y) (factor ieee (lower w) base) base) c) j
      ∙ ap (λ (y : List Float). at ieee y c) (sym (rows_above base r h (omega arith)))
      ∙ ap (λ (y : ℕ). at ieee (solved_to t y base) c) (sym e)
