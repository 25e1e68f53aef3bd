-- What the steps S make of dense blocks and triangles (document 01, Record 4), over the whole list w that holds the blocks: the target's cells
-- become the rule's, and every other double stays.
use Rattle.std.specs.Prelude.{ℕ, ◌+◌, List, Float}
use Rattle.rules.specs.Arithmetic.{ieee}
use Rattle.rules.specs.Steps.{subtract_dense, subtract_last, subtract_sparse}
use Rattle.storage.specs.declared.Block.{Block}
use Rattle.storage.specs.Placed.{as_columns, as_triangle, read, put}
use Rattle.block_runs.specs.blocks.Blocks.{entry}
use Rattle.block_runs.specs.axpy.Axpy.{at, run, along}

-- ---- the target's cells, by the rule
-- a dense S
abbrev pub subtract_dots : (t a b : Block) → List Float → ℕ → ℕ → Float
subtract_dots t a b w = subtract_dense ieee (read (as_columns t) w) (read (as_columns a) w) (read (as_columns b) w) a.cols

-- a triangle's S
abbrev pub subtract_squares : (t a : Block) → List Float → ℕ → ℕ → Float
subtract_squares t a w = subtract_dense ieee (read (as_triangle t) w) (read (as_columns a) w) (read (as_columns a) w) a.cols

-- the last triangle's S
abbrev pub subtract_last_cell : (t a : Block) → List Float → ℕ → ℕ → Float
subtract_last_cell t a w = subtract_last ieee (read (as_triangle t) w) (read (as_columns a) w) a.cols

-- S(k,1,0) of fixed rows t with a sparse block v, whose column x has its entry in row `row` of x, after n of its columns
abbrev pub subtract_entries : (row : ℕ → ℕ) (t a v : Block) → List Float → ℕ → ℕ → ℕ → Float
subtract_entries row t a v w n = subtract_sparse ieee row (read (as_columns t) w) (read (as_columns a) w) (entry v.at v.cols w) n

-- S of a dense block: less block a times block b transposed
abbrev pub subtracted_dense : (t a b : Block) → List Float → List Float
subtracted_dense t a b w = put (as_columns t) (subtract_dots t a b w) w

-- S of a triangle: less block a times itself transposed
abbrev pub subtracted_rank : (t a : Block) → List Float → List Float
subtracted_rank t a w = put (as_triangle t) (subtract_squares t a w) w

-- S(k,k,h): the same, product by product
abbrev pub subtracted_last : (t a : Block) → List Float → List Float
subtracted_last t a w = put (as_triangle t) (subtract_last_cell t a w) w

-- S(k,1,0) with a sparse block: less block a times block v transposed, product by product
abbrev pub subtracted_entries : (row : ℕ → ℕ) (t a v : Block) → List Float → List Float
subtracted_entries row t a v w = put (as_columns t) (subtract_entries row t a v w a.cols) w

-- ---- one run of n doubles, from `to` on: a column of a dense block, a row of a triangle
-- less the sums of the products of rows 0 to n - 1 of block a and row r of block b
abbrev pub subtract_sums : (to n : ℕ) (a b : Block) (r : ℕ) → List Float → List Float
subtract_sums to n a b r w =
    run to n
    (λ i. ieee.minus (at w (to + i)) (along ieee.plus ieee.zero (read (as_columns a) w i) (read (as_columns b) w r) a.cols))
    w

-- less those products, one by one
abbrev pub subtract_products : (to n : ℕ) (a b : Block) (r : ℕ) → List Float → List Float
subtract_products to n a b r w =
    run to n (λ i. along ieee.minus (at w (to + i)) (read (as_columns a) w i) (read (as_columns b) w r) a.cols) w

-- less f times the n doubles from ax on
abbrev pub subtract_column : (to n ax : ℕ) (f : Float) → List Float → List Float
subtract_column to n ax f w = run to n (λ i. ieee.minus (at w (to + i)) (ieee.times (at w (ax + i)) f)) w
