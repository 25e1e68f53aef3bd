-- Begin and the steps by computation, on a workspace of two blocks whose sorted order is not the sheet's: block 0 of the sheet has one level, block 1 two.
-- Every loaded number is 1, and theta is 2, 3.
use Prim.Native.Nat.{ℕ, ◌+◌}
use mathlib.Core.Path.{◌≡◌, refl}
use mathlib.Core.Bool.{false, true}
use mathlib.Core.List.{List, [], ◌∷◌, ◌++◌}
use lib.ListN.{replicate, drop}
use lib.Ieee.{Float, nan}
use Rattle.step_order.specs.Steps.{Step, C, T, rust_order, S}
use Rattle.layout.specs.declared.Layout.{Layout}
use Rattle.heading_format.specs.declared.State.TheVariants.{Idle}
use Rattle.layout.specs.Shapes as Shapes
use Rattle.heading_format.specs.Heading.{written, progress_of, progress_numbers, idle}
use Rattle.workspace.specs.Compute.{leaves, word, words}
use Rattle.workspace.specs.Memory.{Workspace, working_block}
use Rattle.refusal.specs.Numbers.{refusal_of}
use Rattle.workspace.specs.Answers.{Outcome, workspace}
use Rattle.update.specs.declared.StepName.TheVariants.{S as Subtract, C as Factor, T as Solve}
use Rattle.update.specs.Names.{step_of_name}
use Rattle.update.specs.Compute.{steps}
use Rattle.update.specs.Working.{logged}
use Rattle.update.specs.Calls.{begin_of, step_of, run_of}
use Rattle.layout.proofs.Made.{layout_with}
use Rattle.std.specs.Prelude.{Ok}

abbrev one : Float
one = word 0x3ff0000000000000

abbrev layout : Layout
layout =
    layout_with 3 1 3 2 (2 ∷ 1 ∷ replicate 6 0) (1 ∷ 0 ∷ replicate 6 0) false false

-- 14 loaded numbers and 17 working doubles; loaded block (2,2) has rows 1 and 1, 9
unfoldable fresh : Workspace
unfolding written progress_numbers rust_order
fresh = workspace (written layout (idle 2)) (replicate 13 one ++ (word 0x4022000000000000 ∷ replicate 17 nan))

unfoldable begun : Outcome
unfolding fresh steps begin_of
begun = begin_of fresh.heading fresh.doubles (word 0x4000000000000000 ∷ word 0x4008000000000000 ∷ [])

unfoldable done : List Step → Outcome
unfolding begun run_of
done l = run_of begun.left l

enough : Shapes.doubles_needed layout ≡ 31
unfolding leaves
enough = refl

accepted : begun.answer ≡ (Ok tt)
unfolding begun
accepted = refl

-- Theta is in sheet order: sorted block 0, which is block 1 of the sheet, has theta 3. Its diagonal is (3·3)·1 + 1, a cross cell (1·3)·2, a fixed cell 1·3.
first_diagonal : words (working_block begun.left.heading begun.left.doubles 0 0) ≡ 0x4024000000000000 ∷ 0x4024000000000000 ∷ []
unfolding begun words
first_diagonal = refl

second_triangle : words (working_block begun.left.heading begun.left.doubles 1 1) ≡ 0x4014000000000000 ∷ []
unfolding begun words
second_triangle = refl

cross_cells_lem : words (working_block begun.left.heading begun.left.doubles 1 0) ≡ 0x4018000000000000 ∷ 0x4018000000000000 ∷ []
unfolding begun words
cross_cells_lem = refl

fixed_cells_lem :
    words (working_block begun.left.heading begun.left.doubles 2 0)
    ≡ 0x4008000000000000 ∷ 0x4008000000000000 ∷ 0x4008000000000000 ∷ 0x4008000000000000 ∷ []
unfolding begun words
fixed_cells_lem = refl

-- 22 comes before 21; 21 before 23 and 24
nothing_under_way : (refusal_of (step_of fresh.heading fresh.doubles (C 9)).answer).number ≡ 22
unfolding fresh steps step_of
nothing_under_way = refl

no_such_step : (refusal_of (done (T 0 1 ∷ [])).answer).number ≡ 21
unfolding done
no_such_step = refl

-- a name is the step with its own numbers
names : (step_of_name (Subtract 2 1 0) ≡ S 2 1 0) × (step_of_name (Factor 1) ≡ C 1) × (step_of_name (Solve 2 1) ≡ T 2 1)
names = (refl, refl, refl)

-- ten steps are left, and nine after C(0)
ten_left : (progress_of begun.left.heading).left ≡ 10
unfolding begun rust_order
ten_left = refl

nine_left : (progress_of (done (C 0 ∷ [])).left.heading).left ≡ 9
unfolding done rust_order
nine_left = refl

-- C(0) takes roots of 10
first_factor : words (working_block (done (C 0 ∷ [])).left.heading (done (C 0 ∷ [])).left.doubles 0 0) ≡ 0x40094c583ada5b53 ∷ 0x40094c583ada5b53 ∷ []
unfolding done words
first_factor = refl

-- C(2), of the last block, adds no logarithms, whatever its factor
last_adds_none : (s : Float) (f : List Float) → logged layout (λ c. 0) (λ r c. true) 2 s f ≡ s
unfolding logged
last_adds_none s f = refl

-- Block 1 keeps 5 - 7.2, which is refused: 26 at block 1, row 0, and progress none. What it leaves is cleared.
refused : refusal_of (done (rust_order 2)).answer ≡ record { number = 26; first = 1; second = 0 }
unfolding done rust_order
refused = refl

refused_none : (progress_of (done (rust_order 2)).left.heading).state ≡ Idle
unfolding done rust_order
refused_none = refl

refused_clears : words (drop 14 (done (rust_order 2)).left.doubles) ≡ replicate 17 0
unfolding done words
refused_clears = refl

-- C(0) writes no other block: the cross cells are still 6
others_stay : words (working_block (done (C 0 ∷ [])).left.heading (done (C 0 ∷ [])).left.doubles 1 0) ≡ 0x4018000000000000 ∷ 0x4018000000000000 ∷ []
unfolding done words
others_stay = refl

-- ---- the slip of `rank_sub_diagonal`, which skips a diagonal S for all rows: block 1 a diagonal, its cells chosen by the loaded numbers
abbrev diagonal : ℕ → Layout
diagonal m =
    layout_with 3 1 (2 + m) 2 (2 ∷ m ∷ replicate 6 0) (0 ∷ 1 ∷ replicate 6 0) false true

unfoldable after : ℕ → List Float → List Float → List Step → Outcome
unfolding steps written progress_numbers begin_of run_of
after m loaded theta l = run_of (begin_of (written (diagonal m) (idle 2)) (loaded ++ replicate 30 nan) theta).left l

-- Pair 2^1000, 2^-100, theta 2^-500 twice: the second cell underflows to 0 when it is scaled. Block 1 is 5, and 5 - 1 after S(1,1,0).
underflow :
    words
    (working_block (written (diagonal 1) (idle 2))
    (after 1
    (word 0 ∷ word 0 ∷ word 0x7e90000000000000 ∷ word 0x7e70000000000000 ∷ word 0x39b0000000000000 ∷ replicate 9 one)
    (word 0x20b0000000000000 ∷ word 0x20b0000000000000 ∷ [])
    (C 0 ∷ T 1 0 ∷ S 1 1 0 ∷ [])
    ).left.doubles
    1 1)
    ≡ 0x4010000000000000 ∷ []
unfolding after words
underflow = refl

-- The same where the second cell underflows in the division of T(1,0): 2^-600 by a root of about 2^500.
underflow_divided :
    words
    (working_block (written (diagonal 1) (idle 2))
    (after 1
    (word 0 ∷ word 0x7e70000000000000 ∷ word 0x4010000000000000 ∷ one ∷ word 0x1a70000000000000 ∷ replicate 9 one)
    (one ∷ one ∷ [])
    (C 0 ∷ T 1 0 ∷ S 1 1 0 ∷ [])
    ).left.doubles
    1 1)
    ≡ 0x4010000000000000 ∷ []
unfolding after words
underflow_divided = refl

-- An infinite pivot: 2^1000, 1 and 5 on the diagonals, cross cells 1, theta 2^20 and 1. (t·t)·a + 1 overflows to +infinity, and the division by its root
-- makes the first cell 0; the second is 1 - 2^-41. Block 1 is 6, and 6 - (1 - 2^-40) after S(1,1,0). The word, 5 + 2^-40, is from Python's floats.
infinite_pivot :
    words
    (working_block (written (diagonal 1) (idle 2))
    (after 1
    (word 0x7e70000000000000 ∷ one ∷ word 0x4014000000000000 ∷ one ∷ one ∷ replicate 9 one)
    (word 0x4130000000000000 ∷ one ∷ [])
    (C 0 ∷ T 1 0 ∷ S 1 1 0 ∷ [])
    ).left.doubles
    1 1)
    ≡ 0x4014000000000400 ∷ []
unfolding after words
infinite_pivot = refl

-- Pair 2^1000, 1, theta 2^100 and 0: the first cell overflows and is NaN after the second product, the second is 0. Block 1 is 1, and 1 - NaN after S(1,1,0).
zero_theta :
    words
    (working_block (written (diagonal 1) (idle 2))
    (after 1
    (one ∷ one ∷ word 0x4014000000000000 ∷ word 0x7e70000000000000 ∷ one ∷ replicate 9 one)
    (word 0x4630000000000000 ∷ word 0 ∷ [])
    (C 0 ∷ T 1 0 ∷ S 1 1 0 ∷ [])
    ).left.doubles
    1 1)
    ≡ 0x7ff8000000000000 ∷ []
unfolding after words
zero_theta = refl

-- A NaN pivot fills column 0 of a pair with one entry in each row: the row that was loaded in that column becomes NaN, the other keeps 2.
nan_column :
    words
    (working_block (written (diagonal 2) (idle 2))
    (after 2
    (word 0 ∷ one ∷ one ∷ one ∷ one ∷ word 0 ∷ word 0 ∷ one ∷ replicate 11 one)
    (word 0x6570000000000000 ∷ one ∷ [])
    (C 0 ∷ T 1 0 ∷ S 1 1 0 ∷ [])
    ).left.doubles
    1 1)
    ≡ 0x7ff8000000000000 ∷ 0x4000000000000000 ∷ []
unfolding after words
nan_column = refl
