-- What begin leaves of the doubles: every block begun, theta kept, the sum +0.0; the loaded numbers and what lies behind stay.
use Prim.Native.Nat.{ℕ, ◌+◌, ◌≤◌}
use mathlib.Core.Path.{◌≡◌, refl, sym, ap, ◌∙◌}
use mathlib.Core.Bool.{Bool, true, false, ◌&&◌}
use mathlib.Core.List.{List, [], ◌∷◌, Memᴰ}
use mathlib.Core.Logic.{◌⊎◌, inl, inr, ⊎_elim}
use native.Mathlib.Omega.{arith}
use lib.Dec.{ltb, eqb}
use borrow.Author.Tests.{eqb-true, le-ltb}
use lib.ListN.{length, get_or, take, drop}
use lib.Ieee.{Float}
use Rattle.storage.specs.Shape.{diagonal, size_of}
use Rattle.storage.specs.Part.{part, store}
use Rattle.storage.proofs.Parts.{length_part, length_store, part_same, part_else, take_store, drop_store}
use Rattle.storage.proofs.Blocks.{length_fill}
use Rattle.rules.specs.Arithmetic.{ieee}
use Rattle.layout.specs.declared.Layout.{Layout}
use Rattle.layout.specs.Shapes.{Target, target, pick, levels, targets, shape, loaded_shape, sizes, loaded_sizes, loaded_length, loaded_at, theta_at, working_at, sum_at, doubles_needed, triangle_end}
use Rattle.heading_format.specs.Heading.{layout_of, entry_row}
use Rattle.layout.proofs.Places.{block_inside, blocks_apart, in_targets, size_working, size_loaded, theta_inside}
use Rattle.workspace.specs.Memory.{loaded_block, loaded_some}
use Rattle.update.specs.Working.{scaled}
use Rattle.update.specs.Calls.{store_scaled, begun}
use Rattle.demand3.proofs.frame.Step.{cell_stored}
use Rattle.demand3.proofs.frame.Stored.{same_or_other, run_length_lem, run_part, run_drop, run_own}

-- a choice under a test that fails
pick_later : {A : Type 0} (b c : Bool) (x y : A) → c ≡ false → pick (b && c) x y ≡ y
pick_later true true x y e = ap (λ (d : Bool). pick d x y) e
pick_later true false x y e = refl
pick_later false c x y e = refl

-- a choice of two lists of one length
length_pick : (b : Bool) (x y : List Float) (n : ℕ) → (b ≡ true → length x ≡ n) → length y ≡ n → length (pick b x y) ≡ n
length_pick true x y n p q = p refl
length_pick false x y n p q = q

-- a loaded block of the last column is as long as it works
last_size : (y : Layout) (i j : ℕ) → eqb j y.k ≡ true → loaded_sizes y i j ≡ sizes y i j
unfolding loaded_shape
last_size y i j e =
    ap size_of (pick_later (eqb i j) (ltb j y.k) (diagonal (levels y j)) (shape y (λ x. 0) i j) (le-ltb j y.k (omega (arith, eqb-true j y.k e))))

module _ (y : Layout) (row : ℕ → ℕ) (loaded : ℕ → ℕ → Bool) (theta : List Float) where
  -- a begun block is as long as it works
  pub scaled_length : (i j : ℕ) (a : List Float) → length a ≡ loaded_sizes y i j → length (scaled y row loaded theta i j a) ≡ sizes y i j
  unfolding scaled
  scaled_length i j a size =
      length_pick (eqb j y.k) a _ (sizes y i j) (λ e. size ∙ last_size y i j e) (length_fill (shape y row i j) _ ∙ size_working y row i j)

-- ---- the targets of a workspace

module _ (y : Layout) where
  -- its loaded block lies inside the loaded numbers
  loaded_within : (t : Target) → Memᴰ t (targets y.k) → loaded_at y t.row t.col + loaded_sizes y t.row t.col ≤ loaded_length y
  unfolding loaded_at triangle_end
  loaded_within t m = block_inside (loaded_sizes y) (targets y.k) t.row t.col m

  -- its working block between theta and the sum
  working_above : (t : Target) → theta_at y + y.k ≤ working_at y t.row t.col
  unfolding working_at
  working_above t = omega arith

  working_within : (t : Target) → Memᴰ t (targets y.k) → working_at y t.row t.col + sizes y t.row t.col ≤ sum_at y
  unfolding working_at sum_at
  working_within t m = omega (arith, block_inside (sizes y) (targets y.k) t.row t.col m)

  -- and apart from any other
  working_alone : (t s : Target) → Memᴰ t (targets y.k) → Memᴰ s (targets y.k) → (s.row ≡ t.row → s.col ≡ t.col → ⊥)
      → (working_at y t.row t.col + sizes y t.row t.col ≤ working_at y s.row s.col)
      ⊎ (working_at y s.row s.col + sizes y s.row s.col ≤ working_at y t.row t.col)
  unfolding working_at
  working_alone t s m n other =
      ⊎_elim (λ a. inl (omega arith)) (λ a. inr (omega arith))
      (blocks_apart (sizes y) (targets y.k) t.row t.col s.row s.col m n (λ p q. other (sym p) (sym q)))

module _ (h : List ℕ) (w theta : List Float) (room : doubles_needed (layout_of h) ≤ length w) (many : length theta ≡ (layout_of h).k) where
  -- the layout
  abbrev y : Layout
  y = layout_of h

  -- every target, where it lies, and what begin makes of it
  abbrev every : List Target
  every = targets y.k

  abbrev place : Target → ℕ
  place t = working_at y t.row t.col

  abbrev made : Target → List Float
  made t = scaled y (entry_row h) (loaded_some h w) theta t.row t.col (loaded_block h w t.row t.col)

  -- the blocks of a list, one after the other
  abbrev run : List Target → List Float → List Float
  run = store_scaled h w theta

  ends : (v : List Float) → run [] v ≡ v
  unfolding store_scaled
  ends v = refl

  goes_on : (t : Target) (l : List Target) (v : List Float) → run (t ∷ l) v ≡ run l (store (place t) (made t) v)
  unfolding store_scaled
  goes_on t l v = refl

  -- theta alone, and the blocks with it
  abbrev kept : List Float
  kept = store (theta_at y) theta w

  abbrev blocks : List Float
  blocks = run every kept

  -- theta fits and leaves the length
  theta_fits : theta_at y + length theta ≤ length w
  theta_fits = omega (arith, theta_inside y)

  kept_length : length kept ≡ length w
  kept_length = length_store (theta_at y) theta w theta_fits

  -- each block is as long as it works
  made_length : (t : Target) → Memᴰ t every → length (made t) ≡ sizes y t.row t.col
  made_length t m =
      let size : size_of (loaded_shape y (entry_row h) t.row t.col) ≡ loaded_sizes y t.row t.col = size_loaded y (entry_row h) t.row t.col in
      scaled_length y (entry_row h) (loaded_some h w) theta t.row t.col (loaded_block h w t.row t.col)
      (length_part (loaded_at y t.row t.col) (size_of (loaded_shape y (entry_row h) t.row t.col)) w
      (omega (arith, size, loaded_within y t m, theta_inside y))
      ∙ size)

  -- so it ends before the sum
  before_sum : (t : Target) → Memᴰ t every → place t + length (made t) ≤ sum_at y
  before_sum t m = omega (arith, made_length t m, working_within y t m)

  fits : (t : Target) → Memᴰ t every → place t + length (made t) ≤ length kept
  fits t m = omega (arith, kept_length, before_sum t m)

  -- the blocks leave the length, and the sum fits behind them
  blocks_length : length blocks ≡ length w
  blocks_length = run_length_lem place made run ends goes_on every kept fits ∙ kept_length

  sum_fits : sum_at y + length (ieee.zero ∷ []) ≤ length blocks
  sum_fits = omega (arith, blocks_length)

  -- all that lies before the blocks is theta and what was there
  part_stays : (off n : ℕ) → off + n ≤ theta_at y + y.k → part off n (begun h w theta).doubles ≡ part off n kept
  unfolding begun
  part_stays off n l =
      part_else (sum_at y) (ieee.zero ∷ []) blocks sum_fits off n (inl (omega (arith, theta_inside y)))
      ∙ run_part place made run ends goes_on every kept fits off n (λ t m. inl (omega (arith, working_above y t)))

  -- the length stays
  pub begun_length : length (begun h w theta).doubles ≡ length w
  unfolding begun
  begun_length = length_store (sum_at y) (ieee.zero ∷ []) blocks sum_fits ∙ blocks_length

  -- every block is begun, out of the numbers as they were before
  pub begun_block : (i j : ℕ) → j ≤ i → i ≤ (layout_of h).k
      → part (working_at (layout_of h) i j) (sizes (layout_of h) i j) (begun h w theta).doubles ≡ scaled (layout_of h) (entry_row h) (loaded_some h w) theta i j (loaded_block h w i j)
  unfolding begun
  begun_block i j l m =
      let t : Target = target i j in
      let here : Memᴰ t every = in_targets y.k i j l m in
      part_else (sum_at y) (ieee.zero ∷ []) blocks sum_fits (place t) (sizes y i j) (inl (working_within y t here))
      ∙ ap (λ (n : ℕ). part (place t) n blocks) (sym (made_length t here))
      ∙ run_own place made run ends goes_on every kept fits t
      (λ s n. ⊎_elim (λ e. inl e)
      (λ other. inr
      (⊎_elim (λ a. inl (omega (arith, made_length t here))) (λ a. inr (omega (arith, made_length s n))) (working_alone y t s here n other)))
      (same_or_other s t))
      here

  -- the sum is +0.0
  pub begun_sum : get_or (begun h w theta).doubles (sum_at (layout_of h)) ieee.zero ≡ ieee.zero
  unfolding begun
  begun_sum = cell_stored (sum_at y) ieee.zero blocks ieee.zero (omega (arith, blocks_length))

  -- the loaded numbers stay
  pub begun_loaded : take (loaded_length (layout_of h)) (begun h w theta).doubles ≡ take (loaded_length (layout_of h)) w
  begun_loaded = part_stays 0 (loaded_length y) (omega arith) ∙ take_store (theta_at y) theta w theta_fits

  -- theta is kept
  pub begun_theta : part (theta_at (layout_of h)) (layout_of h).k (begun h w theta).doubles ≡ theta
  begun_theta = part_stays (theta_at y) y.k (omega arith) ∙ part_same (theta_at y) theta w theta_fits y.k many

  -- what lies behind the workspace stays
  pub begun_behind : drop (doubles_needed (layout_of h)) (begun h w theta).doubles ≡ drop (doubles_needed (layout_of h)) w
  unfolding begun
  begun_behind =
      drop_store (sum_at y) (ieee.zero ∷ []) blocks sum_fits (doubles_needed y) (omega arith)
      ∙ run_drop place made run ends goes_on every kept fits (doubles_needed y) (λ t m. omega (arith, before_sum t m))
      ∙ drop_store (theta_at y) theta w theta_fits (doubles_needed y) (omega (arith, theta_inside y))
