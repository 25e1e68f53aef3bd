-- The heading (document 01, Records 2 and 5, refusal 20): its parts as specs/Parts.antt has them, and behind them the rows of the sparse columns' entries.
use Rattle.std.specs.Prelude.{ℕ, zero, suc, ◌+◌, Bool, true, false, not, ◌&&◌, ◌||◌, cond, List, [], ◌∷◌, ◌++◌, ltb, leb, eqb, length, get_or, take, drop, replicate, Ok, Err}
use Rattle.storage.specs.Runs.{start, triangle}
use Rattle.step_order.specs.Steps.{Step, rust_order, forerunners}
use Rattle.step_order.specs.Progress.{all, steps_left, done}
use Rattle.layout.specs.declared.Layout.{Layout}
use Rattle.heading_format.specs.declared.Progress.{Progress}
use Rattle.heading_format.specs.declared.State.{State}
use Rattle.heading_format.specs.declared.State.TheVariants.{Idle, UnderWay, Finished}
use Rattle.layout.specs.declared.Storage.TheVariants.{Dense, Sparse}
use Rattle.layout.specs.Blocks.{sum, sorted, padded}
use Rattle.layout.specs.Gate.{Verdict, pair_of}
use Rattle.layout.specs.Shapes.{levels, block_rows, doubles_needed, sheet_index}
use Rattle.heading_format.specs.Parts.{levels_at, order_at, sparse_at, diagonal_at, progress_at, steps_left_at, stages_at, most_targets, unused_numbers, heading_length}

-- ---- the numbers: the layout, the progress with the stages by rows, zeros
abbrev pub bit : Bool → ℕ
bit b = cond b 1 0

abbrev pub state_number : State → ℕ
state_number Idle = 0
state_number UnderWay = 1
state_number Finished = 2

unfoldable pub layout_numbers : Layout → List ℕ
unfolding padded
layout_numbers y = (y.n ∷ y.p ∷ y.q ∷ y.k ∷ []) ++ padded 8 y.m ++ padded 8 y.order ++ (bit y.sparse ∷ bit y.diagonal ∷ [])

unfoldable pub progress_numbers : Progress → List ℕ
unfolding padded
progress_numbers g = (state_number g.state ∷ g.left ∷ []) ++ padded most_targets g.stages

unfoldable pub written : Layout → Progress → List ℕ
unfolding layout_numbers progress_numbers
written y g = layout_numbers y ++ progress_numbers g ++ replicate unused_numbers 0

-- how many numbers a workspace has
abbrev pub numbers_needed : Layout → ℕ
numbers_needed y = heading_length + cond y.sparse (block_rows y 0) 0

-- ---- reading them back
abbrev pub state_of : ℕ → State
state_of zero = Idle
state_of (suc zero) = UnderWay
state_of (suc (suc x)) = Finished

unfoldable pub layout_of : List ℕ → Layout
layout_of h =
    record {
      n = get_or h 0 0;
      p = get_or h 1 0;
      q = get_or h 2 0;
      k = get_or h 3 0;
      m = take 8 (drop levels_at h);
      order = take 8 (drop order_at h);
      sparse = eqb (get_or h sparse_at 0) 1;
      diagonal = eqb (get_or h diagonal_at 0) 1;
    }

unfoldable pub progress_of : List ℕ → Progress
progress_of h = record { state = state_of (get_or h progress_at 0); left = get_or h steps_left_at 0; stages = take most_targets (drop stages_at h) }

-- the stage of target (i, j), and the row of sparse column c's entry
abbrev pub stage_of : Progress → ℕ → ℕ → ℕ
stage_of g i j = get_or g.stages (start triangle i + j) 0

abbrev pub entry_row : List ℕ → ℕ → ℕ
entry_row h c = get_or h (heading_length + c) 0

-- ---- a valid layout: what Records 1 and 2 allow
-- every number below n passes
unfoldable pub every : (ℕ → Bool) → ℕ → Bool
every f zero = true
every f (suc n) = every f n && f n

abbrev pub within : ℕ → ℕ → ℕ → Bool
within low high x = leb low x && leb x high

unfoldable pub same : List ℕ → List ℕ → Bool
same [] [] = true
same [] (y ∷ m) = false
same (x ∷ l) [] = false
same (x ∷ l) (y ∷ m) = eqb x y && same l m

-- levels of the block that has sheet index i, among the first n sorted ones
unfoldable pub sheet_levels : Layout → ℕ → ℕ → ℕ
sheet_levels y zero i = 0
sheet_levels y (suc s) i = let rest = sheet_levels y s i in cond (eqb (sheet_index y s) i) (levels y s) rest

abbrev pub is_dense : Verdict → Bool
is_dense (Ok Dense) = true
is_dense (Ok Sparse) = false
is_dense (Err e) = false

abbrev pub is_sparse : Verdict → Bool
is_sparse (Ok Dense) = false
is_sparse (Ok Sparse) = true
is_sparse (Err e) = false

-- The gate by the counts alone, since no double is tested: with one entry in each column, which a diagonal block 1 says, a pair has as many entries as columns.
abbrev pub valid_pair : Layout → ℕ → ℕ → Bool
valid_pair y i j =
    let pair = pair_of y.k (levels y i) (levels y j) y.diagonal (levels y j) in
    cond y.sparse (is_sparse pair) (is_dense pair)

unfoldable pub valid_layout : Layout → Bool
unfolding every same sheet_levels sorted sum pair_of
valid_layout y =
    within 1 1000000000 y.n
    && within 1 32 y.p
    && within 1 8 y.k
    && every (λ j. within 1 65535 (levels y j)) y.k
    && same (take y.k y.order) (sorted (sheet_levels y y.k) y.k)
    && eqb y.q (sum (block_rows y) y.k)
    && (not y.diagonal || eqb y.k 2)
    && (not y.sparse || (y.diagonal && eqb y.k 2))
    && every (λ i. every (λ j. valid_pair y i j) i) y.k

-- ---- a valid progress: the steps left are those outside the set, no step is done without its forerunners, no stage is past its target's last step;
-- with no update under way nothing is done, and an update is finished when no step is left
abbrev pub forerunners_done : (ℕ → ℕ → ℕ) → List Step → Bool
forerunners_done g [] = true
forerunners_done g (s ∷ l) = (not (done g s) || all (done g) (forerunners s)) && forerunners_done g l

abbrev pub valid_state : State → ℕ → ℕ → Bool
valid_state Idle left every_step = eqb left every_step
valid_state UnderWay left every_step = ltb 0 left
valid_state Finished left every_step = eqb left 0

unfoldable pub valid_progress : ℕ → Progress → Bool
unfolding every rust_order
valid_progress k g =
    every (λ i. every (λ j. leb (stage_of g i j) (suc j)) (suc i)) (suc k)
    && eqb g.left (steps_left k (done (stage_of g)))
    && forerunners_done (stage_of g) (rust_order k)
    && valid_state g.state g.left (length (rust_order k))

-- nothing is done
abbrev pub undone : State → ℕ → Progress
undone state left = record { state = state; left = left; stages = replicate most_targets 0 }

-- progress none: every step is left
abbrev pub idle : ℕ → Progress
idle k = undone Idle (length (rust_order k))

-- an update just begun: every step is left
abbrev pub under_way : ℕ → Progress
under_way k = undone UnderWay (length (rust_order k))

-- ---- h and a list of this many doubles are a workspace; where they are not, number 20
unfoldable pub valid_heading : List ℕ → ℕ → Bool
unfolding layout_of progress_of valid_layout valid_progress every
valid_heading h doubles =
    leb heading_length (length h)
    && leb (get_or h sparse_at 0) 1
    && leb (get_or h diagonal_at 0) 1
    && leb (get_or h progress_at 0) 2
    && valid_layout (layout_of h)
    && valid_progress (layout_of h).k (progress_of h)
    && leb (numbers_needed (layout_of h)) (length h)
    && leb (doubles_needed (layout_of h)) doubles
    && (not (layout_of h).sparse || every (λ c. ltb (entry_row h c) (block_rows (layout_of h) 1)) (block_rows (layout_of h) 0))
