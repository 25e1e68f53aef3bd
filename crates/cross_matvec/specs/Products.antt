-- A vector less a block times a vector (document 01, Record 7). The vectors lie in the list v, the block a in w: the entries from `to` on become the
-- rule's, and every other double stays.
use Rattle.std.specs.Prelude.{ℕ, ◌+◌, ◌≤◌, ◌<◌, cond, List, ◌⊎◌, ⊤, Option, None, Some, length, get_or, set, Float}
use Rattle.std.specs.Borrow.{Bor}
use Rattle.storage.specs.Runs.{start, dense}
use Rattle.storage.specs.Shape.{columns, size_of}
use Rattle.storage.specs.declared.Block.{Block}
use Rattle.storage.specs.Placed.{as_columns, read}
use Rattle.rules.specs.Arithmetic.{ieee}
use Rattle.rules.specs.Solves.{matvec_sub, sparse_matvec_sub, matvec_t_sub, sparse_matvec_t_sub}
use Rattle.block_runs.specs.blocks.Blocks.{entry}
use Rattle.block_runs.specs.axpy.Axpy.{at, run, along}

-- a vector from r on with an entry for each row of block a, and one from c on with an entry for each of its columns: within n doubles, and apart
pub record Sides (n r c : ℕ) (a : Block) : Type 0 where
  pub rows : r + a.rows ≤ n
  pub cols : c + a.cols ≤ n
  pub apart : (r + a.rows ≤ c) ⊎ (c + a.cols ≤ r)

-- block a by columns, and a vector from c on with an entry for each of them: apart
abbrev pub Clear : (c : ℕ) → Block → Type 0
Clear c a = (c + a.cols ≤ a.at) ⊎ (a.at + size_of (columns a.rows a.cols) ≤ c)

-- the list that a block lies in: one of its own, or v
abbrev pub held : Option (Bor (List Float)) → List Float → List Float
held None v = v
held (Some w) v = w.now

-- in v it is clear of the vector that is written
abbrev pub ClearIn : Option (Bor (List Float)) → (c : ℕ) → Block → Type 0
ClearIn None c a = Clear c a
ClearIn (Some w) c a = ⊤

-- the row of the entry in column c of a sparse block, by the list of these rows
abbrev pub row_in : List ℕ → ℕ → ℕ
row_in rows c = get_or rows c 0

-- it has one for each column of block a, which is one of its rows
abbrev pub HasRows : List ℕ → Block → Type 0
HasRows rows a = (a.cols ≤ length rows) × ((c : ℕ) → c < a.cols → row_in rows c < a.rows)

-- forward: less the dense block a times the vector at z
abbrev pub subtracted_product : (to z : ℕ) → Block → List Float → List Float → List Float
subtracted_product to z a w v =
    run to a.rows (matvec_sub ieee (read (as_columns a) w) (entry z a.cols v) (entry to a.rows v) a.cols) v

-- backward: less its transpose times the vector at z
abbrev pub subtracted_product_t : (to z : ℕ) → Block → List Float → List Float → List Float
subtracted_product_t to z a w v =
    run to a.cols (matvec_t_sub ieee (read (as_columns a) w) (entry z a.rows v) (entry to a.cols v) a.rows) v

-- forward: less the sparse block a, whose column c has its entry in row `row c`, times the vector at z, where a source of ±0 is skipped
abbrev pub subtracted_sparse_product : (row : ℕ → ℕ) (to z : ℕ) → Block → List Float → List Float → List Float
subtracted_sparse_product row to z a w v =
    run to a.rows (sparse_matvec_sub ieee row (entry a.at a.cols w) (entry z a.cols v) (entry to a.rows v) a.cols) v

-- backward: less its transpose times the vector at z
abbrev pub subtracted_sparse_product_t : (row : ℕ → ℕ) (to z : ℕ) → Block → List Float → List Float → List Float
subtracted_sparse_product_t row to z a w v =
    run to a.cols (sparse_matvec_t_sub ieee row (entry a.at a.cols w) (entry z a.rows v) (entry to a.cols v)) v

-- ---- what the loops leave, double by double
-- the sum of the products of n doubles from p on in w with those from z on in v
abbrev pub column_sum : (w : List Float) (p : ℕ) (v : List Float) (z n : ℕ) → Float
column_sum w p v z n = along ieee.plus ieee.zero (λ r. at w (p + r)) (λ r. at v (z + r)) n

-- entry i of the k entries from `to` on, less the sum of column i of those that start at p
abbrev pub minus_column : (to p rows z : ℕ) (w v : List Float) → ℕ → Float
minus_column to p rows z w v i = ieee.minus (at v (to + i)) (column_sum w (p + start (dense rows) i) v z rows)

abbrev pub subtract_columns : (to k p rows z : ℕ) (w v : List Float) → List Float
subtract_columns to k p rows z w v = run to k (minus_column to p rows z w v) v

-- the double at k less x times e, unless e is ±0
abbrev pub subtract_entry : (k : ℕ) (x e : Float) → List Float → List Float
subtract_entry k x e v = cond (ieee.null e) v (set v k (ieee.minus (at v k) (ieee.times x e)))
