-- The numbers of a heading, read into an array and written out of one.
use Prim.Native.Nat.{ℕ, zero, suc, ◌+◌, ◌≤◌, ◌<◌}
use mathlib.Core.Path.{◌≡◌, refl, sym, ap, ◌∙◌}
use mathlib.Core.Bool.{Bool, true, false}
use mathlib.Core.List.{List, [], ◌∷◌, ◌++◌}
use mir.Val.{bool_byte}
use native.Mathlib.Nat.{add-zero}
use native.Mathlib.Omega.{arith}
use lib.Dec.{eqb}
use lib.ListN.{length, get_or, take, drop, set, replicate, length-drop}
use lib.Seq.{get_or-drop, take_all}
use Rattle.storage.specs.Part.{store}
use Rattle.storage.proofs.Cells.{take_tab}
use Rattle.storage.proofs.Parts.{store_nil, store_one, store_more}
use Rattle.layout.specs.declared.Layout.{Layout}
use Rattle.heading_format.specs.declared.Progress.{Progress}
use Rattle.heading_format.specs.declared.State.{State}
use Rattle.heading_format.specs.declared.State.TheVariants.{Finished}
use Rattle.layout.specs.Blocks.{padded}
use Rattle.heading_format.specs.Heading.{bit, state_number, state_of, layout_of, progress_of, layout_numbers, progress_numbers, written}
use Rattle.storage.proofs.Filling.{Filling, filling_done, array_done}
use Rattle.layout.proofs.Sums.{padded_at, length_padded}
use Rattle.heading_format.specs.Parts.{levels_at, order_at, sparse_at, diagonal_at, progress_at, steps_left_at, stages_at, most_targets, progress_end, unused_numbers, heading_length}
use Rattle.layout.proofs.Made.{layout_with}
use Rattle.heading_format.proofs.Heading.{progress_with}

-- ---- reading

-- the number x places behind `at`
abbrev pub behind : List ℕ → ℕ → ℕ → ℕ
behind h at x = get_or h (at + x) 0

-- an array of n numbers, all read
pub read_all : (h : List ℕ) (at : ℕ) {n : ℕ} {w r : List ℕ} {j : ℕ} → Filling (behind h at) 0 n w r j → n ≤ j → length w ≡ n → at + n ≤ length h → r ≡ take n (drop at h)
read_all h at {n} e g q l =
    array_done e g q ∙ sym (take_tab 0 n (behind h at) (drop at h) (omega (arith, length-drop at h)) (λ i b. get_or-drop at h i 0))

-- a number past 1 is read as finished
pub state_else : (v : ℕ) → (v ≡ 0 → ⊥) → (v ≡ 1 → ⊥) → Finished ≡ state_of v
state_else zero a b = absurd (a refl)
state_else (suc zero) a b = absurd (b refl)
state_else (suc (suc v)) a b = refl

-- a layout and a progress, made of the numbers that were read
pub layout_read : (h : List ℕ) {n p q k s d : ℕ} {m order : List ℕ} → m ≡ take 8 (drop levels_at h) → order ≡ take 8 (drop order_at h) → n ≡ get_or h 0 0 → p ≡ get_or h 1 0 → q ≡ get_or h 2 0 → k ≡ get_or h 3 0
    → s ≡ get_or h sparse_at 0 → d ≡ get_or h diagonal_at 0 → ◌≡◌ {A = Layout} (layout_with n p q k m order (eqb s 1) (eqb d 1)) (layout_of h)
unfolding layout_of
layout_read h a b c d e f g i = rw (a, b, c, d, e, f, g, i)

pub progress_read : (h : List ℕ) {s : State} {v left : ℕ} {stages : List ℕ} → v ≡ get_or h progress_at 0 → s ≡ state_of v → stages ≡ take most_targets (drop stages_at h) → left ≡ get_or h steps_left_at 0
    → ◌≡◌ {A = Progress} (progress_with s left stages) (progress_of h)
unfolding progress_of
progress_read h a b c d = rw (b, a, c, d)

-- ---- writing

-- one number
pub stored_one : (w : List ℕ) (at v : ℕ) → at < length w → set w at v ≡ store at (v ∷ []) w
stored_one w at v h =
    simp (store_nil, add-zero) at (store_one at [] w (omega arith) v (omega arith))

-- the first n numbers of l
abbrev pub each : List ℕ → ℕ → ℕ
each l x = get_or l x 0

-- all of them
pub stored_all : (l : List ℕ) {at n : ℕ} {w r : List ℕ} {j : ℕ} → Filling (each l) at n w r j → n ≤ j → r ≡ store at (padded n l) w
stored_all l {at} {n} {w} e g =
    filling_done e g
    ∙ ap (λ (x : List ℕ). store at x w)
    (sym (take_tab 0 n (each l) (padded n l) (omega (arith, length_padded n l)) (λ i b. padded_at n l i b)) ∙ take_all n (padded n l) (omega (arith, length_padded n l)))

long_layout : (y : Layout) → progress_at ≡ length (layout_numbers y)
unfolding layout_numbers padded
long_layout y = refl

long_both : (y : Layout) (g : Progress) → progress_end ≡ length (layout_numbers y ++ progress_numbers g)
unfolding layout_numbers progress_numbers padded
long_both y g = refl

-- b written right behind a: both are written as one
then : (w : List ℕ) (off p : ℕ) (a b : List ℕ) → p ≡ off + length a → p ≤ length w → store p b (store off a w) ≡ store off (a ++ b) w
then w off p a b z h = rw z (store_more off a w (omega arith) b)

module _ (w : List ℕ) {w₁ w₂ w₃ w₄ : List ℕ} where
  -- the counts, one by one
  pub counts_stored : (n p q k : ℕ) → w₄ ≡ store 3 (k ∷ []) w₃ → w₃ ≡ store 2 (q ∷ []) w₂ → w₂ ≡ store 1 (p ∷ []) w₁ → w₁ ≡ store 0 (n ∷ []) w → 4 ≤ length w
      → w₄ ≡ store 0 (n ∷ p ∷ q ∷ k ∷ []) w
  counts_stored n p q k e₄ e₃ e₂ e₁ h =
      rw (e₄, e₃, e₂, e₁, then w 0 1 (n ∷ []) (p ∷ []) refl (omega arith), then w 0 2 (n ∷ p ∷ []) (q ∷ []) refl (omega arith))
      (then w 0 3 (n ∷ p ∷ q ∷ []) (k ∷ []) refl (omega arith))

  -- the layout: counts, levels, sheet indexes, flags
  pub layout_stored : (y : Layout) → w₄ ≡ store sparse_at (bit y.sparse ∷ bit y.diagonal ∷ []) w₃ → w₃ ≡ store order_at (padded 8 y.order) w₂ → w₂ ≡ store levels_at (padded 8 y.m) w₁
      → w₁ ≡ store 0 (y.n ∷ y.p ∷ y.q ∷ y.k ∷ []) w → heading_length ≤ length w → w₄ ≡ store 0 (layout_numbers y) w
  unfolding layout_numbers padded
  layout_stored y e₄ e₃ e₂ e₁ h =
      rw (e₄, e₃, e₂, e₁)
      (ap (λ (x : List ℕ). store sparse_at flags (store order_at order x)) (then w 0 levels_at counts m refl (omega arith))
      ∙ ap (λ (x : List ℕ). store sparse_at flags x) (then w 0 order_at (counts ++ m) order refl (omega arith))
      ∙ then w 0 sparse_at (counts ++ m ++ order) flags refl (omega arith))
    where
      counts : List ℕ
      counts = y.n ∷ y.p ∷ y.q ∷ y.k ∷ []

      m : List ℕ
      m = padded 8 y.m

      order : List ℕ
      order = padded 8 y.order

      flags : List ℕ
      flags = bit y.sparse ∷ bit y.diagonal ∷ []

-- the flags
pub flag_number : (b : Bool) → bool_byte b ≡ bit b
flag_number true = refl
flag_number false = refl

pub flags_stored : (w : List ℕ) {w₁ w₂ : List ℕ} {a b : ℕ} (s d : ℕ) → w₂ ≡ store diagonal_at (b ∷ []) w₁ → w₁ ≡ store sparse_at (a ∷ []) w → a ≡ s → b ≡ d → progress_at ≤ length w → w₂ ≡ store sparse_at (s ∷ d ∷ []) w
flags_stored w s d e₂ e₁ a b h = rw (e₂, e₁, a, b) (then w sparse_at diagonal_at (s ∷ []) (d ∷ []) refl (omega arith))

module _ (w : List ℕ) {w₁ w₂ w₃ : List ℕ} where
  -- the progress: state, steps left, stages
  pub progress_stored : {a : ℕ} (g : Progress) → w₃ ≡ store stages_at (padded most_targets g.stages) w₂ → w₂ ≡ store steps_left_at (g.left ∷ []) w₁ → w₁ ≡ store progress_at (a ∷ []) w → a ≡ state_number g.state
      → heading_length ≤ length w → w₃ ≡ store progress_at (progress_numbers g) w
  unfolding progress_numbers
  progress_stored g e₃ e₂ e₁ a h =
      rw (e₃, e₂, e₁, a, then w progress_at steps_left_at (state_number g.state ∷ []) (g.left ∷ []) refl (omega arith))
      (then w progress_at stages_at (state_number g.state ∷ g.left ∷ []) (padded most_targets g.stages) refl (omega arith))

  -- the whole heading: layout, progress, zeros
  pub all_stored : (y : Layout) (g : Progress) → w₃ ≡ store progress_end (padded unused_numbers (replicate unused_numbers 0)) w₂ → w₂ ≡ store progress_at (progress_numbers g) w₁ → w₁ ≡ store 0 (layout_numbers y) w → heading_length ≤ length w
      → w₃ ≡ store 0 (written y g) w
  unfolding written padded
  all_stored y g e₃ e₂ e₁ h =
      rw (e₃, e₂, e₁)
      (ap (λ (x : List ℕ). store progress_end (replicate unused_numbers 0) x) (then w 0 progress_at (layout_numbers y) (progress_numbers g) (long_layout y) (omega arith))
      ∙ then w 0 progress_end (layout_numbers y ++ progress_numbers g) (replicate unused_numbers 0) (long_both y g) (omega arith))
