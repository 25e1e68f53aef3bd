-- What load makes of a sheet (document 01, Records 2 and 3): its layout with the gate's verdict, and the loaded numbers.
use Rattle.std.specs.Prelude.{ℕ, zero, suc, ◌+◌, ◌-◌, ◌*◌, Bool, false, ◌&&◌, cond, List, [], ◌∷◌, ◌++◌, ltb, leb, eqb, get_or, Float, Option, None, Some, Ok, Err}
use Rattle.std.specs.Float.Ieee as Ieee
use Rattle.std.specs.Float.{binary64}
use Rattle.storage.specs.Runs.{start, triangle}
use Rattle.storage.specs.Shape.{fill}
use Rattle.sheet.specs.Run.{Block, Entry}
use Rattle.sheet.specs.Sheet.{Sheet}
use Rattle.layout.specs.declared.Layout.{Layout}
use Rattle.refusal.specs.declared.Refusal.{Refusal}
use Rattle.refusal.specs.Numbers.{refusal}
use Rattle.layout.specs.Blocks.{sum, each, sorted, padded}
use Rattle.layout.specs.Gate.{Verdict, gate_number, pair_of, diagonal_of}
use Rattle.layout.specs.Shapes.{Target, pick, levels, loaded_shape, targets, response_row, sheet_index, block_rows}
use Rattle.heading_format.specs.Heading.{every, is_sparse, sheet_levels}

-- ---- rows keep sheet order: block 0 of the sheet has the first rows, one for each level, block 1 the next
abbrev pub sheet_rows : Layout → ℕ → ℕ
sheet_rows y = sheet_levels y y.k

-- the first row of sorted block j
abbrev pub row_start : Layout → ℕ → ℕ
row_start y j = sum (sheet_rows y) (sheet_index y j)

-- its row c
abbrev pub sheet_row : Layout → ℕ → ℕ → ℕ
sheet_row y j c = row_start y j + c

abbrev pub in_block : Layout → ℕ → ℕ → Bool
in_block y j x = leb (row_start y j) x && ltb x (row_start y j + block_rows y j)

-- ---- entries
unfoldable pub count_of : (Entry → Bool) → List Entry → ℕ
count_of test [] = 0
count_of test (e ∷ l) = let rest = count_of test l in cond (test e) (suc rest) rest

-- the word at a column and row, absent being +0
unfoldable pub word_of : List Entry → ℕ → ℕ → ℕ
word_of [] col row = 0
word_of (e ∷ l) col row = let rest = word_of l col row in cond (eqb e.col col && eqb e.row row) e.word rest

-- the row of the first entry that passes
unfoldable pub row_of : (Entry → Bool) → List Entry → ℕ
row_of test [] = 0
row_of test (e ∷ l) = let rest = row_of test l in cond (test e) e.row rest

module _ (y : Layout) where
  -- an entry of pair (i, j): its column is a row of block j, the larger one, its row a row of block i
  abbrev pub of_pair : ℕ → ℕ → Entry → Bool
  of_pair i j e = in_block y j e.col && in_block y i e.row

  -- such an entry in column c
  abbrev pub of_column : ℕ → ℕ → ℕ → Entry → Bool
  of_column i j c e = eqb e.col (sheet_row y j c) && in_block y i e.row

module _ (sheet : Sheet) (y : Layout) where
  -- each column has exactly one entry
  abbrev pub one_each : ℕ → ℕ → Bool
  one_each i j = every (λ c. eqb (count_of (of_column y i j c) sheet.zz) 1) (block_rows y j)

  -- what the gate says of pair (i, j)
  unfoldable pub pair_in : ℕ → ℕ → Verdict
  unfolding count_of every pair_of
  pair_in i j = pair_of y.k (levels y i) (levels y j) (one_each i j) (count_of (of_pair y i j) sheet.zz)

-- the first pair that the gate refuses, pairs in turn: 10 or 11, j, jj
abbrev pub or_refused : Verdict → Target → Option Refusal → Option Refusal
or_refused (Ok stored) t rest = rest
or_refused (Err e) t rest = Some (refusal (gate_number e) t.row t.col)

unfoldable pub first_refused_pair : Sheet → Layout → List Target → Option Refusal
unfolding pair_in
first_refused_pair sheet y [] = None
first_refused_pair sheet y (t ∷ l) = or_refused (pair_in sheet y t.row t.col) t (first_refused_pair sheet y l)

-- ---- the layout of a sheet
abbrev pub sheet_m : Sheet → ℕ → ℕ
sheet_m sheet i = levels_at sheet.blocks i
  where
    levels_at : List Block → ℕ → ℕ
    levels_at [] i = 0
    levels_at (b ∷ l) zero = b.m
    levels_at (b ∷ l) (suc i) = levels_at l i

-- its counts and the sorted blocks, before the gate
unfoldable pub sorted_layout : Sheet → Layout
unfolding sorted padded each
sorted_layout sheet =
    let s = sorted (sheet_m sheet) sheet.counts.k in
    record {
      n = sheet.counts.n;
      p = sheet.counts.p;
      q = sheet.counts.q;
      k = sheet.counts.k;
      m = padded 8 (each (sheet_m sheet) s);
      order = padded 8 s;
      sparse = false;
      diagonal = false;
    }

abbrev pub with_storage : Layout → Bool → Bool → Layout
with_storage y sparse diagonal =
    record { n = y.n; p = y.p; q = y.q; k = y.k; m = y.m; order = y.order; sparse = sparse; diagonal = diagonal }

-- with its storage: with k = 2 the one pair may be sparse, and block 1 diagonal
unfoldable pub layout_of_sheet : Sheet → Layout
unfolding sorted_layout pair_in every count_of
layout_of_sheet sheet =
    let y = sorted_layout sheet in
    with_storage y (eqb y.k 2 && is_sparse (pair_in sheet y 1 0)) (diagonal_of y.k (one_each sheet y 1 0))

-- the row, in block 1, of sparse column c's entry
abbrev pub entry_row_in : Sheet → Layout → ℕ → ℕ
entry_row_in sheet y c = row_of (of_column y 1 0 c) sheet.zz - row_start y 1

-- ---- the loaded numbers
abbrev pub double : ℕ → Float
double w = Ieee.of_bits binary64 w

-- the words of the fixed rows of block j: Z'X, and Z'y in the response's row
abbrev pub fixed_word : Sheet → Layout → ℕ → ℕ → ℕ → ℕ
fixed_word sheet y j r c =
    cond (eqb r (response_row y)) (get_or sheet.zy (sheet_row y j c) 0) (get_or sheet.zx (sheet_row y j c * y.p + r) 0)

-- the words of the last triangle: X'X, and X'y and y'y in the response's row
abbrev pub last_word : Sheet → Layout → ℕ → ℕ → ℕ
last_word sheet y r c =
    cond (eqb r (response_row y)) (cond (eqb c (response_row y)) sheet.yy (get_or sheet.xy c 0)) (get_or sheet.xx (start triangle r + c) 0)

-- the word of cell (r, c) of loaded block (i, j): fixed rows and the last triangle for i = k, else Z'Z
abbrev pub loaded_word : Sheet → Layout → ℕ → ℕ → ℕ → ℕ → ℕ
loaded_word sheet y i j r c =
    pick (eqb i y.k) (pick (eqb j y.k) (last_word sheet y r c) (fixed_word sheet y j r c))
    (word_of sheet.zz (sheet_row y j c) (sheet_row y i r))

unfoldable pub loaded_from : Sheet → Layout → List Target → List Float
unfolding loaded_shape word_of sum sheet_levels
loaded_from sheet y [] = []
loaded_from sheet y (t ∷ l) =
    fill (loaded_shape y (entry_row_in sheet y) t.row t.col) (λ r c. double (loaded_word sheet y t.row t.col r c)) ++ loaded_from sheet y l

unfoldable pub loaded_numbers : Sheet → Layout → List Float
unfolding loaded_from targets
loaded_numbers sheet y = loaded_from sheet y (targets y.k)
