-- Deviance and solution by computation, on the finished factor of document 01's worked sheet. The deviances are Python's.
use Prim.Native.Nat.{ℕ}
use mathlib.Core.Path.{◌≡◌, refl}
use mathlib.Core.Bool.{Bool, true, false}
use mathlib.Core.List.{List, [], ◌∷◌, ◌++◌}
use lib.ListN.{replicate, set}
use lib.Ieee as Ieee
use lib.Ieee.{Float, nan, binary64}
use Rattle.refusal.specs.Numbers.{refusal}
use Rattle.layout.specs.declared.Layout.{Layout}
use Rattle.heading_format.specs.declared.Progress.{Progress}
use Rattle.heading_format.specs.declared.State.TheVariants.{UnderWay, Finished}
use Rattle.heading_format.specs.Heading.{written, layout_of, undone}
use Rattle.workspace.specs.Compute.{word, words}
use Rattle.update.specs.Compute.{steps}
use Rattle.profile.specs.declared.Deviance.TheVariants.{Value, Pivot, NoScale}
use Rattle.profile.specs.Deviance.{deviance_from_factor}
use Rattle.profile.specs.Finish.{Solving, solve_of}
use Rattle.profile.specs.Solves.{block_in, solved_for}
use Rattle.layout.proofs.Made.{layout_with}
use Rattle.heading_format.proofs.Heading.{progress_with}
use Rattle.std.specs.Prelude.{Result, Ok, Err}
use Rattle.refusal.specs.declared.Refusal.{Refusal}
use Rattle.profile.specs.declared.Deviance.{Deviance}
use Rattle.profile.specs.declared.Solution.{Solution}

abbrev layout : ℕ → Layout
layout n = layout_with n 1 1 1 (1 ∷ replicate 7 0) (replicate 8 0) false false

-- every block at its last stage: (0,0), (1,0) and (1,1)
abbrev finished : Progress
finished = progress_with Finished 0 (1 ∷ 1 ∷ 2 ∷ replicate 42 0)

abbrev under_way : Progress
under_way = undone UnderWay 4

-- loaded 3, 2 over 4, 5 6 9; theta 1; the factor 2, 1 over 2, 2 2 1; the sum ln 2
abbrev doubles : List Float
doubles =
    word 0x4008000000000000
    ∷ word 0x4000000000000000
    ∷ word 0x4010000000000000
    ∷ word 0x4014000000000000
    ∷ word 0x4018000000000000
    ∷ word 0x4022000000000000
    ∷ word 0x3ff0000000000000
    ∷ word 0x4000000000000000
    ∷ word 0x3ff0000000000000
    ∷ word 0x4000000000000000
    ∷ word 0x4000000000000000
    ∷ word 0x4000000000000000
    ∷ word 0x3ff0000000000000
    ∷ word 0x3fe62e42fefa39ef
    ∷ []

unfoldable bits_of : Result Deviance Refusal → ℕ
unfolding Ieee.to_bits
bits_of (Ok (Value v)) = Ieee.to_bits binary64 v
bits_of (Ok (Pivot j r)) = 1
bits_of (Ok NoScale) = 2
bits_of (Err r) = 3

unfoldable deviance : ℕ → Progress → List Float → Bool → Result Deviance Refusal
unfolding steps deviance_from_factor
deviance n g w reml = deviance_from_factor (written (layout n) g) w reml

-- ((3 ln(2π/3)) + 2 ln 2) + 3
ml : bits_of (deviance 3 finished doubles false) ≡ 0x401a6a963a085b3b
unfolding deviance bits_of
ml = refl

-- (((2 ln(2π/2)) + 2 ln 2) + 2) + 2 ln 2
reml : bits_of (deviance 3 finished doubles true) ≡ 0x401c3f89a3f0edd6
unfolding deviance bits_of
reml = refl

-- no scale: d is 0, or r2 is 0; a NaN r2 is a value
no_freedom : deviance 1 finished doubles true ≡ Ok NoScale
unfolding deviance
no_freedom = refl

no_residual : deviance 3 finished (set doubles 12 (word 0)) false ≡ Ok NoScale
unfolding deviance
no_residual = refl

nan_value : bits_of (deviance 3 finished (set doubles 12 nan) false) ≡ 0x7ff8000000000000
unfolding deviance bits_of
nan_value = refl

not_finished : deviance 3 under_way doubles false ≡ Err (refusal 25 0 0)
unfolding deviance
not_finished = refl

unfoldable solving : Progress → List Float → ℕ → Solving
unfolding steps solve_of
solving g w n = solve_of (written (layout 3) g) w false (replicate n (word 99))

-- beta 1, b 2 · 1/2, u 1/2, .. when the kept theta is 2 and the loaded Z'X and Z'y are half as large: v is the same
solution :
    words (solving finished (set (set (set doubles 6 (word 0x4000000000000000)) 1 (word 0x3ff0000000000000)) 2 (word 0x4000000000000000)) 6).result
    ≡ 0x3ff0000000000000 ∷ 0x3ff0000000000000 ∷ 0x3fe0000000000000 ∷ 0x4000000000000000 ∷ 0x3ff0000000000000 ∷ 0x3fe0000000000000 ∷ []
unfolding solving words
solution = refl

-- its deviance comes from its own r2, (9 - 4) - 4, which here is the last pivot's square
unfoldable solution_bits : Result Solution Refusal → ℕ
unfolding Ieee.to_bits
solution_bits (Ok s) = Ieee.to_bits binary64 s.deviance
solution_bits (Err r) = 0

unfoldable solving_by : Bool → ℕ
unfolding solving solution_bits
solving_by mode = solution_bits (solve_of (written (layout 3) finished) doubles mode (replicate 6 (word 99))).answer

solution_ml : solving_by false ≡ 0x401a6a963a085b3b
unfolding solving_by
solution_ml = refl

solution_reml : solving_by true ≡ 0x401c3f89a3f0edd6
unfolding solving_by
solution_reml = refl

-- with another y'y, 10, r2 is 2 and sigma2 2/3, whatever the last pivot: 3 ln(2π·2/3) + 2 ln 2 + 3
other_residual : solution_bits (solving finished (set doubles 5 (word 0x4024000000000000)) 6).answer ≡ 0x40215df7acd3187a
unfolding solving solution_bits
other_residual = refl

-- 25 before 13; 13 leaves the list; 27, here X'X 1 - 2 · 1/2, leaves it +0.0
solve_early : (solving under_way doubles 5).answer ≡ Err (refusal 25 0 0)
unfolding solving
solve_early = refl

wrong_length : solving finished doubles 5 ≡ record { answer = Err (refusal 13 0 0); result = replicate 5 (word 99) }
unfolding solving
wrong_length = refl

no_pivot : (solving finished (set doubles 3 (word 0x3ff0000000000000)) 6).answer ≡ Err (refusal 27 0 0)
unfolding solving
no_pivot = refl

no_pivot_clears : words (solving finished (set doubles 3 nan) 6).result ≡ replicate 6 0
unfolding solving words
no_pivot_clears = refl

-- ---- the solves with two blocks. Forward, 1.94 less 0.67 · 1.8 and 0.42 · 0.79 has other bits product by product than summed first. Words by Python.
abbrev pair : List ℕ → Bool → Layout
pair m thin = layout_with 9 1 5 2 m (0 ∷ 1 ∷ replicate 6 0) thin thin

unfoldable floats : List ℕ → List Float
floats [] = []
floats (w ∷ l) = word w ∷ floats l

unfoldable solved : Layout → List ℕ → List Float → List (List Float) → List ℕ
unfolding steps layout_of solved_for words floats
solved y rows w v = let l = solved_for (written y finished ++ rows) w v in words (block_in l 0 ++ block_in l 1)

-- pivots 2 and 4; a triangle of rows 1 and 0.5 2; a pair of rows 0.67 0.42 and 0.3 0.05, by columns. Right side 3.6 3.16, which 2 and 4 divide into
-- 1.8 0.79, and 1.94 5.
dense_pair :
    solved (pair (2 ∷ 2 ∷ replicate 6 0) false) []
    (replicate 21 (word 0)
    ++ floats (0x4000000000000000 ∷ 0x4010000000000000 ∷ 0x3ff0000000000000 ∷ 0x3fe0000000000000 ∷ 0x4000000000000000 ∷ [])
    ++ floats (0x3fe570a3d70a3d71 ∷ 0x3fd3333333333333 ∷ 0x3fdae147ae147ae1 ∷ 0x3fa999999999999a ∷ []))
    (floats (0x400ccccccccccccd ∷ 0x400947ae147ae148 ∷ []) ∷ floats (0x3fff0a3d70a3d70a ∷ 0x4014000000000000 ∷ []) ∷ [])
    ≡ 0x3fe91441fea8112d ∷ 0x3fc94677b395c424 ∷ 0xbfc0075f6fd22000 ∷ 0x3ff0e0aa64c2f838 ∷ []
unfolding solved
dense_pair = refl

-- pivots 2, 4, 1 and 1, 2; entries 0.67, 0.42 in row 1 and 0.3 in row 0. Right side 3.6 3.16 0.5 and 2 1.94.
sparse_pair :
    solved (pair (3 ∷ 2 ∷ replicate 6 0) true) (1 ∷ 1 ∷ 0 ∷ [])
    (replicate 23 (word 0)
    ++ floats (0x4000000000000000 ∷ 0x4010000000000000 ∷ 0x3ff0000000000000 ∷ 0x3ff0000000000000 ∷ 0x4000000000000000 ∷ [])
    ++ floats (0x3fe570a3d70a3d71 ∷ 0x3fdae147ae147ae1 ∷ 0x3fd3333333333333 ∷ []))
    (floats (0x400ccccccccccccd ∷ 0x400947ae147ae148 ∷ 0x3fe0000000000000 ∷ []) ∷ floats (0x4000000000000000 ∷ 0x3fff0a3d70a3d70a ∷ []) ∷ [])
    ≡ 0x3febb8dbcec84f90 ∷ 0x3fc7edb940fecdd1 ∷ 0xbfac28f5c28f5c30 ∷ 0x3ffd99999999999a ∷ 0x3fb9bda5119ce072 ∷ []
unfolding solved
sparse_pair = refl
