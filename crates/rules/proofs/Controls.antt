-- The rules by computation, on doubles where another order of operations, or another test, gives other bits. The words were worked out in Python's doubles.
use Prim.Native.Nat.{ℕ, zero, suc}
use mathlib.Core.Path.{◌≡◌, refl}
use mathlib.Core.List.{[], ◌∷◌}
use mathlib.Core.Option.{none, some}
use lib.ListN.{get_or}
use lib.Ieee as Ieee
use lib.Ieee.{Float, nan, binary64}
use Rattle.logarithm.specs.Ln.{ln_of}
use Rattle.rules.specs.Arithmetic.{ieee}
use Rattle.rules.specs.Sums.{sum_from, subtract_from, logs_from}
use Rattle.rules.specs.Begin.{cross_cell}
use Rattle.rules.specs.Steps.{subtract_dense, subtract_last, subtract_sparse, subtract_diagonal}
use Rattle.rules.specs.Cholesky.{first_bad, pivots, finish_pivots, logs_of_first, logs_of_later}
use Rattle.rules.specs.Solves.{sparse_matvec_sub, matvec_sub, sparse_matvec_t_sub}
use Rattle.rules.specs.Finish.{deviance_of, fixed_cross, residual, offset_of}
use lib.Dec.{eqb}
use mathlib.Core.Bool.{Bool, true, false}

abbrev word : ℕ → Float
word w = Ieee.of_bits binary64 w

unfoldable bits : Float → ℕ
unfolding Ieee.add Ieee.sub Ieee.mul Ieee.div Ieee.le Ieee.lt Ieee.eq Ieee.of_bits Ieee.to_bits sum_from subtract_from logs_from first_bad
bits x = Ieee.to_bits binary64 x

-- a cross cell is scaled twice, by the column block first: 0.4, 1.61 of the column block, 0.36 of the row block
cross_cell_lem : bits (cross_cell ieee (word 0x3ff9c28f5c28f5c3) (word 0x3fd70a3d70a3d70a) (word 0x3fd999999999999a)) ≡ 0x3fcdaceee0f3cb40
unfolding bits
cross_cell_lem = refl

-- one target cell and two products: 1.94, 1.8 · 0.67, 0.79 · 0.42
abbrev target : ℕ → ℕ → Float
target r c = word 0x3fff0a3d70a3d70a

abbrev left : ℕ → ℕ → Float
left r c = get_or (word 0x3ffccccccccccccd ∷ word 0x3fe947ae147ae148 ∷ []) c (word 0)

abbrev right : ℕ → ℕ → Float
right r c = get_or (word 0x3fe570a3d70a3d71 ∷ word 0x3fdae147ae147ae1 ∷ []) c (word 0)

-- a dense S sums and subtracts once
dense : bits (subtract_dense ieee target left right 2 0 0) ≡ 0x3fd9bda5119ce070
unfolding bits
dense = refl

-- row 0 the left factors, row 1 the right
abbrev sides : ℕ → ℕ → Float
sides zero c = left 0 c
sides (suc r) c = right 0 c

-- the last triangle and a sparse pair subtract product by product
last : bits (subtract_last ieee target sides 2 0 1) ≡ 0x3fd9bda5119ce072
unfolding bits
last = refl

sparse : bits (subtract_sparse ieee (λ x. 0) target left (right 0) 2 0 0) ≡ 0x3fd9bda5119ce072
unfolding bits
sparse = refl

-- C lets a NaN pass and refuses ±0; the finish refuses NaN
nan_passes : pivots ieee (λ r. nan) 3 ≡ none
unfolding bits
nan_passes = refl

minus_zero_refused : pivots ieee (λ r. word 0x8000000000000000) 3 ≡ some 0
unfolding bits
minus_zero_refused = refl

nan_refused : finish_pivots ieee (λ r. nan) 3 ≡ some 0
unfolding bits
nan_refused = refl

-- going forward, a sparse pair skips a source of -0, here against an infinite entry; a dense one does not
sparse_skips : bits (sparse_matvec_sub ieee (λ c. 0) (λ c. word 0x7ff0000000000000) (λ c. word 0x8000000000000000) (λ r. word 0x3ff0000000000000) 1 0) ≡ 0x3ff0000000000000
unfolding bits
sparse_skips = refl

dense_takes : bits (matvec_sub ieee (λ r c. word 0x7ff0000000000000) (λ c. word 0x8000000000000000) (λ r. word 0x3ff0000000000000) 1 0) ≡ 0x7ff8000000000000
unfolding bits
dense_takes = refl

-- going backward a sparse pair takes its source of 0, once: 1 - (0.0 + inf · 0)
sparse_back : bits (sparse_matvec_t_sub ieee (λ c. 0) (λ c. word 0x7ff0000000000000) (λ r. word 0) (λ c. word 0x3ff0000000000000) 0) ≡ 0x7ff8000000000000
unfolding bits
sparse_back = refl

-- A diagonal S takes a cell that is 0 now, and subtracts the others all the same: 5 - (1·1 + 0·0). A cell that was not loaded is left out, NaN or not.
diagonal_zero_now :
    bits (subtract_diagonal ieee (λ r c. true) (λ r c. word 0x4014000000000000) (λ r c. get_or (word 0x3ff0000000000000 ∷ word 0 ∷ []) c (word 0)) 2 0 0) ≡ 0x4010000000000000
unfolding bits
diagonal_zero_now = refl

diagonal_nan_now : bits (subtract_diagonal ieee (λ r c. eqb c 1) (λ r c. word 0x4014000000000000) (λ r c. get_or (nan ∷ word 0x3ff0000000000000 ∷ []) c (word 0)) 2 0 0) ≡ 0x4010000000000000
unfolding bits
diagonal_nan_now = refl

-- C(0) adds one by one, a later C sums its own first: 2^53 plus ln 2 twice
first_logs : bits (logs_of_first ieee (word 0x4340000000000000) (λ r. word 0x4000000000000000) 2) ≡ 0x4340000000000000
unfolding bits ln_of
first_logs = refl

later_logs : bits (logs_of_later ieee (word 0x4340000000000000) (λ r. word 0x4000000000000000) 2) ≡ 0x4340000000000001
unfolding bits ln_of
later_logs = refl

-- d = 4, s = 2.7, logdet 1.3, two pivots 4.7 and 1.6: ML, and REML with twice the logarithms of the pivots
deviance : Bool → ℕ
unfolding bits
deviance reml =
    bits (deviance_of ieee reml (word 0x4010000000000000) (word 0x400599999999999a) (word 0x3ff4cccccccccccd) (λ r. get_or (word 0x4012cccccccccccd ∷ word 0x3ff999999999999a ∷ []) r (word 0)) 2)

ml_deviance : deviance false ≡ 0x40309fe03d0d1438
unfolding deviance ln_of
ml_deviance = refl

reml_deviance : deviance true ≡ 0x4034a8deaad53457
unfolding deviance ln_of
reml_deviance = refl

-- the finish sums and subtracts once, cell (1, 0) by v of column 1 and w of column 0, and u of row 0 by w of each column
fixed_cross_lem : bits (fixed_cross ieee target (λ i. sides (suc i)) sides 2 1 0) ≡ 0x3fd9bda5119ce070
unfolding bits
fixed_cross_lem = refl

offset : bits (offset_of ieee (target 0) (λ j i. left 0 j) (right 0) 2 0) ≡ 0x3fd9bda5119ce070
unfolding bits
offset = refl

-- r2 takes v of y times w of y away first, then 0.01 · 0.03 twice
residual_twice : bits (residual ieee (target 0 0) (left 0) (right 0) 2 (λ j. word 0x3f847ae147ae147b) (λ j. word 0x3f9eb851eb851eb8) 2) ≡ 0x3fd9b3d07c84b5d7
unfolding bits
residual_twice = refl
