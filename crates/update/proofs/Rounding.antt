-- Which form of S and T each target takes, on numbers where another form gives other bits: 1.94 less 1.8 · 0.67 and 0.79 · 0.42, product by product or
-- summed first. The words were worked out in Python's doubles.
use Prim.Native.Nat.{ℕ}
use mathlib.Core.Path.{◌≡◌, refl}
use mathlib.Core.Bool.{Bool, true, false}
use mathlib.Core.List.{List, [], ◌∷◌}
use lib.ListN.{replicate}
use lib.Ieee.{Float}
use Rattle.layout.specs.declared.Layout.{Layout}
use Rattle.storage.specs.Shape.{packed, columns}
use Rattle.workspace.specs.Compute.{word, words}
use Rattle.update.specs.Compute.{steps}
use Rattle.update.specs.Working.{subtracted, solved}
use Rattle.layout.proofs.Made.{layout_with}

-- k blocks of m levels; p = 1, so that the last triangle has two rows as well
abbrev layout : (k : ℕ) (m : List ℕ) (thin : Bool) → Layout
layout k m thin = layout_with 3 1 6 k m (0 ∷ 1 ∷ 2 ∷ replicate 5 0) thin thin

-- three cells of 1.94; two columns of two rows: 1.8, 0.67 and 0.79, 0.42
abbrev target : List Float
target = replicate 3 (word 0x3fff0a3d70a3d70a)

abbrev source : List Float
source = word 0x3ffccccccccccccd ∷ word 0x3fe570a3d70a3d71 ∷ word 0x3fe947ae147ae148 ∷ word 0x3fdae147ae147ae1 ∷ []

-- the entries of a sparse pair: 0.67 and 0.42
abbrev entries : List Float
entries = word 0x3fe570a3d70a3d71 ∷ word 0x3fdae147ae147ae1 ∷ []

-- S(2,2,0) with k = 2 is the last triangle's: product by product
last_block :
    words (subtracted (layout 2 (2 ∷ 2 ∷ replicate 6 0) false) (λ x. 0) (λ r c. true) 2 2 0 target source source)
    ≡ 0xbffec91d14e3bcd5 ∷ 0x3fd9bda5119ce072 ∷ 0x3ff50902de00d1b7 ∷ []
unfolding steps words
last_block = refl

-- S(2,2,0) with k = 3 is a factor's: summed first
middle_block :
    words (subtracted (layout 3 (2 ∷ 2 ∷ 2 ∷ replicate 5 0) false) (λ x. 0) (λ r c. true) 2 2 0 target source source)
    ≡ 0xbffec91d14e3bcd6 ∷ 0x3fd9bda5119ce070 ∷ 0x3ff50902de00d1b6 ∷ []
unfolding steps words
middle_block = refl

-- S(2,1,0) with a sparse pair of one row: product by product
sparse_pair :
    words (subtracted (layout 2 (2 ∷ 1 ∷ replicate 6 0) true) (λ x. 0) (λ r c. true) 2 1 0 target source entries)
    ≡ 0x3fd9bda5119ce072 ∷ 0x3ff50902de00d1b7 ∷ []
unfolding steps words
sparse_pair = refl

-- T by a packed factor with rows 1; 0 1; 0.67 0.42 1: product by product, then the division
packed_solve :
    words
    (solved (columns 1 3) (packed 3) (word 0x3ffccccccccccccd ∷ word 0x3fe947ae147ae148 ∷ word 0x3fff0a3d70a3d70a ∷ [])
    (word 0x3ff0000000000000
    ∷ word 0
    ∷ word 0x3ff0000000000000
    ∷ word 0x3fe570a3d70a3d71
    ∷ word 0x3fdae147ae147ae1
    ∷ word 0x3ff0000000000000
    ∷ []))
    ≡ 0x3ffccccccccccccd ∷ 0x3fe947ae147ae148 ∷ 0x3fd9bda5119ce072 ∷ []
unfolding steps words
packed_solve = refl
