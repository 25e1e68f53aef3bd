-- A band: rows of a packed triangle side by side, at most four, from row `base` on, and their first `base` cells. Cell c of row i of it lies at 4 * c + i.
use Rattle.std.specs.Prelude.{ℕ, ◌+◌, ◌*◌, ◌-◌, ◌≤◌, ◌<◌, ◌≡◌, List, length, Float}
use Rattle.storage.specs.Runs.{start, triangle, tab, cells}
use Rattle.storage.specs.Part.{store}
use Rattle.rules.specs.Arithmetic.{ieee}
use Rattle.rules.specs.Sums.{chain}
use Rattle.rules.specs.Cholesky.{at, forward, factor}
use Rattle.re_lower.specs.Lower.{lower}

-- row i of the band x
abbrev pub lane : List Float → ℕ → ℕ → Float
lane x i c = at ieee x (4 * c + i)

-- s less the first n products of row i of the band with the cells of l from `from` on, one by one
abbrev pub lane_chain : Float → List Float → ℕ → List Float → ℕ → ℕ → Float
lane_chain s x i l from n = chain ieee s (lane x i) (λ y. at ieee l (from + y)) n

-- cell c of row i, when those before it are solved: row c of the factor lies in l from `from` on
abbrev pub next_cell : List Float → List Float → ℕ → ℕ → ℕ → Float
next_cell x l from c i = ieee.over (lane_chain (lane x i c) x i l from c) (at ieee l (from + c))

-- that cell of each of the four rows; all else as it was
abbrev pub four_done : List Float → List Float → ℕ → ℕ → List Float
four_done x l from c = store (4 * c) (tab 4 (next_cell x l from c)) x

-- the first n cells of the four rows, solved with the packed factor l
abbrev pub FourSolved : List Float → List Float → List Float → ℕ → Type 0
FourSolved x l x' n = (i c : ℕ) → i < 4 → c < n → lane x' i c ≡ at ieee (forward ieee (lane x i) (lower l) n) c

-- row i is the n cells of t from `from` on, and the other rows are as they were
pub record Gathered (x t x' : List Float) (from i n : ℕ) : Type 0 where
  pub mine : (c : ℕ) → c < n → lane x' i c ≡ at ieee t (from + c)
  pub others : (j c : ℕ) → j < 4 → (j ≡ i → ⊥) → lane x' j c ≡ lane x j c

-- row i of the band has the first cells of row base + i of the packed triangle t
abbrev pub BandGathered : List Float → List Float → ℕ → ℕ → Type 0
BandGathered t x base rows = (i c : ℕ) → i < rows → c < base → lane x i c ≡ at ieee t (start triangle (base + i) + c)

-- row i of the band has the first cells of row base + i of the factor of the triangle w, which has n rows
abbrev pub BandReady : List Float → List Float → ℕ → ℕ → Type 0
BandReady w x base n = (i c : ℕ) → i < 4 → base + i < n → c < base
    → lane x i c ≡ at ieee (forward ieee (lower w (base + i)) (factor ieee (lower w) base) base) c

-- Row r is in the band from b on, which has no cells where b is 0. It is ready where t has r rows of the factor of a triangle w and the band from `base` on was.
pub record NextBand (t x x' : List Float) (base r n b : ℕ) : Type 0 where
  pub within : b ≤ r
  pub short : 0 < b → r < b + 4
  pub room : 4 * b ≤ length x'
  pub ready : (w : List Float) → start triangle n ≤ length w → t ≡ store 0 (cells triangle r (factor ieee (lower w) r)) w → BandReady w x base n → BandReady w x' b n

-- n cells of row i of the band x, in t from `from` on; all else as it was
abbrev pub lane_stored : List Float → List Float → ℕ → ℕ → ℕ → List Float
lane_stored t x from i n = store from (tab n (lane x i)) t

-- the first c cells of the row of t from `from` on, solved with the rows above it
abbrev pub solved_to : List Float → ℕ → ℕ → List Float
solved_to t from c = forward ieee (λ x. at ieee t (from + x)) (lower t) c

-- what row r, of which c cells were solved, is when all left of its pivot are: whatever list w it came from
abbrev pub LeftOfPivotFrom : List Float → List Float → ℕ → ℕ → ℕ → Type 0
LeftOfPivotFrom t t' from c r = (w : List Float) → length w ≡ length t → t ≡ store from (solved_to w from c) w → t' ≡ store from (solved_to w from r) w

-- the band from `base` on has the first cells of row r solved
abbrev pub RowReady : List Float → List Float → ℕ → ℕ → ℕ → Type 0
RowReady t x from base r = (c : ℕ) → c < base → lane x (r - base) c ≡ at ieee (solved_to t from base) c
