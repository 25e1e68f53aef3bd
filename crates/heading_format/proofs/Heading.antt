-- The heading: what is written is read back, and a valid workspace is never refused with 20.
use Prim.Native.Nat.{ℕ, zero, suc, ◌+◌, ◌≤◌, ◌<◌}
use mathlib.Core.Path.{◌≡◌, refl, sym, ap, ap₂, ◌∙◌}
use mathlib.Core.Bool.{Bool, true, false, not, ◌&&◌, ◌||◌, cond}
use mathlib.Core.List.{List, [], ◌∷◌, ◌++◌}
use native.Mathlib.Omega.{arith}
use lib.Dec.{ltb, leb, eqb}
use lib.ListN.{length, get_or, length-append}
use lib.Seq.{get_or-append-add}
use borrow.Author.Tests.{le-leb, lt-ltb, ltb-true}
use Rattle.storage.specs.Runs.{start}
use Rattle.storage.specs.Part.{store}
use Rattle.step_order.specs.Steps.{rust_order}
use Rattle.layout.specs.declared.Layout.{Layout}
use Rattle.heading_format.specs.declared.Progress.{Progress}
use Rattle.heading_format.specs.declared.State.{State}
use Rattle.heading_format.specs.declared.State.TheVariants.{Idle, UnderWay, Finished}
use Rattle.layout.specs.Blocks.{padded}
use Rattle.layout.specs.Shapes.{levels, doubles_needed}
use Rattle.heading_format.specs.Heading.{bit, state_number, layout_numbers, progress_numbers, written, state_of, layout_of, progress_of, entry_row, every, valid_layout, valid_progress, idle, under_way, valid_heading, numbers_needed}
use Rattle.heading_format.proofs.Valid.{both, unless, every_of, every_at, is_false}
use Rattle.heading_format.specs.Parts.{sparse_at, diagonal_at, progress_at, most_targets, heading_length}
use Rattle.layout.proofs.Made.{layout_with}

-- a list of n numbers needs no zeros
padded_same : (n : ℕ) (l : List ℕ) → length l ≡ n → padded n l ≡ l
unfolding padded
padded_same zero [] e = refl
padded_same zero (x ∷ l) e = absurd (omega arith)
padded_same (suc n) [] e = absurd (omega arith)
padded_same (suc n) (x ∷ l) e = ap (λ (m : List ℕ). x ∷ m) (padded_same n l (omega arith))

pub bit_back : (b : Bool) → eqb (bit b) 1 ≡ b
bit_back true = refl
bit_back false = refl

pub state_back : (s : State) → state_of (state_number s) ≡ s
state_back Idle = refl
state_back UnderWay = refl
state_back Finished = refl

-- y and g with these parts in place of their own
abbrev sorted_with : Layout → List ℕ → List ℕ → Bool → Bool → Layout
sorted_with y m order sparse diagonal = layout_with y.n y.p y.q y.k m order sparse diagonal

-- a progress by its parts: laws and examples name it so
abbrev pub progress_with : State → ℕ → List ℕ → Progress
progress_with state left stages = record { state = state; left = left; stages = stages }

module _ (y : Layout) (g : Progress) where
  -- the rows of a sparse pair stand behind the heading's parts
  pub length_written : length (written y g) ≡ heading_length
  unfolding written layout_numbers progress_numbers padded
  length_written = refl

  pub rows_back : (rows : List ℕ) (c : ℕ) → entry_row (written y g ++ rows) c ≡ get_or rows c 0
  rows_back rows c = ap (λ (n : ℕ). get_or (written y g ++ rows) (n + c) 0) (sym length_written) ∙ get_or-append-add (written y g) rows c 0

  -- a layout is read as it was written
  pub layout_back : (rest : List ℕ) → length y.m ≡ 8 → length y.order ≡ 8 → layout_of (written y g ++ rest) ≡ y
  unfolding layout_of written layout_numbers progress_numbers padded
  layout_back rest a b =
      ap₂ (λ (x z : List ℕ). sorted_with y x z (eqb (bit y.sparse) 1) (eqb (bit y.diagonal) 1)) (padded_same 8 y.m a) (padded_same 8 y.order b)
      ∙ ap₂ (sorted_with y y.m y.order) (bit_back y.sparse) (bit_back y.diagonal)

  -- so is a progress
  pub progress_back : (rest : List ℕ) → length g.stages ≡ most_targets → progress_of (written y g ++ rest) ≡ g
  unfolding progress_of written layout_numbers progress_numbers padded
  progress_back rest a =
      ap₂ (λ (s : State) (l : List ℕ). progress_with s g.left l) (state_back g.state) (padded_same most_targets g.stages a)

  -- another progress goes over the old one, and all else stays
  pub progress_stored : (g' : Progress) (rest : List ℕ) → store progress_at (progress_numbers g') (written y g ++ rest) ≡ written y g' ++ rest
  unfolding store written layout_numbers progress_numbers padded
  progress_stored g' rest = refl

-- ---- never number 20

-- what `valid_heading` asks of a list of numbers that reads as y and g: all but the sparse rows, and those
abbrev front : List ℕ → ℕ → Layout → Progress → Bool
front h doubles y g =
    leb heading_length (length h)
    && leb (get_or h sparse_at 0) 1
    && leb (get_or h diagonal_at 0) 1
    && leb (get_or h progress_at 0) 2
    && valid_layout y
    && valid_progress y.k g
    && leb (numbers_needed y) (length h)
    && leb (doubles_needed y) doubles

abbrev sparse_rows : List ℕ → Layout → Bool
sparse_rows h y = every (λ c. ltb (entry_row h c) (levels y 1)) (levels y 0)

abbrev asked : List ℕ → ℕ → Layout → Progress → Bool
asked h doubles y g = front h doubles y g && (not y.sparse || sparse_rows h y)

-- a list that reads as y and g is a workspace's heading where each of the facts holds
pub valid_heading_of : (h : List ℕ) (doubles : ℕ) (y : Layout) (g : Progress) → layout_of h ≡ y → progress_of h ≡ g → heading_length ≤ length h → get_or h sparse_at 0 ≤ 1
    → get_or h diagonal_at 0 ≤ 1 → get_or h progress_at 0 ≤ 2 → valid_layout y ≡ true → valid_progress y.k g ≡ true → numbers_needed y ≤ length h → doubles_needed y ≤ doubles
    → (y.sparse ≡ true → (c : ℕ) → c < levels y 0 → entry_row h c < levels y 1) → valid_heading h doubles ≡ true
unfolding valid_heading
valid_heading_of h doubles y g e f long sparse diagonal state ok going numbers room rows =
    ap₂ (asked h doubles) e f
    ∙ both _ _
    (both _ _
    (both _ _
    (both _ _
    (both _ _
    (both _ _
    (both _ _ (both _ _ (le-leb heading_length (length h) long) (le-leb (get_or h sparse_at 0) 1 sparse)) (le-leb (get_or h diagonal_at 0) 1 diagonal))
    (le-leb (get_or h progress_at 0) 2 state))
    ok)
    going)
    (le-leb (numbers_needed y) (length h) numbers))
    (le-leb (doubles_needed y) doubles room))
    (unless y.sparse (sparse_rows h y) (λ s. every_of (λ c. ltb (entry_row h c) (levels y 1)) (levels y 0) (λ c l. lt-ltb (entry_row h c) (levels y 1) (rows s c l))))

bit_small : (b : Bool) → bit b ≤ 1
bit_small true = omega arith
bit_small false = omega arith

state_small : (s : State) → state_number s ≤ 2
state_small Idle = omega arith
state_small UnderWay = omega arith
state_small Finished = omega arith

numbers_of : (b : Bool) (m n : ℕ) → (b ≡ true → m ≤ n) → heading_length + cond b m 0 ≤ heading_length + n
numbers_of true m n h = omega (arith, h refl)
numbers_of false m n h = omega arith

-- what is written of a valid layout and progress, with the rows of a sparse pair behind it and doubles enough, is a workspace
pub never_20 : (y : Layout) (g : Progress) (rows : List ℕ) (doubles : ℕ) → valid_layout y ≡ true → valid_progress y.k g ≡ true → length y.m ≡ 8
    → length y.order ≡ 8 → length g.stages ≡ most_targets
    → (y.sparse ≡ true → (levels y 0 ≤ length rows) × ((c : ℕ) → c < levels y 0 → get_or rows c 0 < levels y 1)) → doubles_needed y ≤ doubles
    → valid_heading (written y g ++ rows) doubles ≡ true
unfolding written layout_numbers progress_numbers padded
never_20 y g rows doubles ok going a b c sparse room =
    valid_heading_of (written y g ++ rows) doubles y g (layout_back y g rows a b) (progress_back y g rows c) (omega (arith, long)) (bit_small y.sparse)
    (bit_small y.diagonal) (state_small g.state) ok going (rw long (numbers_of y.sparse (levels y 0) (length rows) (λ s. (sparse s).0))) room
    (λ s i h. rw (rows_back y g rows i) ((sparse s).1 i h))
  where
    long : length (written y g ++ rows) ≡ heading_length + length rows
    long = length-append (written y g) rows ∙ omega (arith, length_written y g)

-- ---- number 20 for a sparse pair

last_fails : (a b : Bool) → b ≡ false → (a && b) ≡ false
last_fails true b e = e
last_fails false b e = refl

-- a heading with a sparse row that is not below the levels of block 1 is refused
pub sparse_row_refused : (h : List ℕ) (doubles c : ℕ) → (layout_of h).sparse ≡ true → c < levels (layout_of h) 0 → levels (layout_of h) 1 ≤ entry_row h c
    → valid_heading h doubles ≡ false
unfolding valid_heading
sparse_row_refused h doubles c s l bad =
    last_fails (front h doubles y (progress_of h)) (not y.sparse || sparse_rows h y) (rw s (is_false (sparse_rows h y) wrong))
  where
    y : Layout
    y = layout_of h

    wrong : sparse_rows h y ≡ true → ⊥
    wrong e =
        let k : entry_row h c < levels y 1 =
        ltb-true (entry_row h c) (levels y 1) (every_at (λ i. ltb (entry_row h i) (levels y 1)) (levels y 0) e c l) in
        omega arith

-- ---- progress none and an update just begun are valid, for every number of blocks

idle_each : every (λ k. valid_progress k (idle k)) 9 ≡ true
unfolding every valid_progress rust_order start
idle_each = refl

under_way_each : every (λ k. valid_progress k (under_way k)) 9 ≡ true
unfolding every valid_progress rust_order start
under_way_each = refl

pub idle_valid : (k : ℕ) → k ≤ 8 → valid_progress k (idle k) ≡ true
idle_valid k h = every_at (λ k. valid_progress k (idle k)) 9 idle_each k (omega arith)

pub under_way_valid : (k : ℕ) → k ≤ 8 → valid_progress k (under_way k) ≡ true
under_way_valid k h = every_at (λ k. valid_progress k (under_way k)) 9 under_way_each k (omega arith)
