-- Blocks begun one after the other, each out of the list as it then is, are those that begin is defined by: no loaded double is written.
use Prim.Native.Nat.{ℕ, zero, suc, ◌+◌, ◌≤◌, ◌<◌}
use mathlib.Core.Path.{◌≡◌, refl, sym, ap, ◌∙◌}
use mathlib.Core.Bool.{false}
use mathlib.Core.List.{List, [], ◌∷◌, ◌++◌}
use mathlib.Core.Logic.{inl}
use native.Mathlib.Nat.{add-zero}
use native.Mathlib.Omega.{arith}
use lib.ListN.{length, set}
use lib.Seq.{take_all}
use lib.Ieee.{Float, nan}
use Rattle.storage.specs.Part.{part, store}
use Rattle.storage.proofs.Parts.{length_part, length_store, part_else, store_nil, store_one}
use Rattle.storage.proofs.Cells.{take_tab}
use Rattle.rules.specs.Arithmetic.{ieee}
use Rattle.block_runs.specs.axpy.Axpy.{run}
use Rattle.block_runs.specs.axpy.Axpy.{at as double}
use Rattle.layout.specs.declared.Layout.{Layout}
use Rattle.layout.specs.Shapes.{Target, target, factors, across, pairs, targets, sizes, loaded_sizes, loaded_length, loaded_at, theta_at, working_at, sum_at, doubles_needed}
use Rattle.heading_format.specs.Heading.{layout_of, entry_row}
use Rattle.layout.proofs.Places.{size_loaded, loaded_inside, working_behind, theta_inside}
use Rattle.workspace.specs.Memory.{loaded_block, loaded_some}
use Rattle.update.specs.Working.{scaled}
use Rattle.update.specs.Calls.{store_scaled}
use Rattle.begin.specs.scaled_blocks.Scaled.{scaled_block, scaled_blocks, BlocksScaled}
use Rattle.begin.proofs.scaled_blocks.Shaped.{room, is_made, length_scaled}
use Rattle.begin.specs.write_begin.Begun.{DoublesBegun}

-- ---- all blocks of a list are blocks of a workspace

abbrev InRange : ℕ → List Target → Type 0
InRange k [] = Unit {0}
InRange k (b ∷ l) = ((b.col ≤ b.row) × (b.row ≤ k)) × InRange k l

range_append : (k : ℕ) (a b : List Target) → InRange k a → InRange k b → InRange k (a ++ b)
range_append k [] b p q = q
range_append k (t ∷ a) b p q = (p.0, range_append k a b p.1 q)

range_factors : (k n : ℕ) → n ≤ k → InRange k (factors n)
unfolding factors
range_factors k zero h = tt
range_factors k (suc n) h = range_append k (factors n) (target n n ∷ []) (range_factors k n (omega arith)) ((omega arith, omega arith), tt)

range_across : (k i n : ℕ) → n ≤ i → i ≤ k → InRange k (across i n)
unfolding across
range_across k i zero h g = tt
range_across k i (suc n) h g = range_append k (across i n) (target i n ∷ []) (range_across k i n (omega arith) g) ((omega arith, g), tt)

range_pairs : (k n : ℕ) → n ≤ k → InRange k (pairs n)
unfolding pairs
range_pairs k zero h = tt
range_pairs k (suc n) h = range_append k (pairs n) (across n n) (range_pairs k n (omega arith)) (range_across k n n (omega arith) (omega arith))

range_targets : (k : ℕ) → InRange k (targets k)
unfolding targets
range_targets k =
    range_append k (factors k ++ pairs k ++ across k k) (target k k ∷ [])
    (range_append k (factors k ++ pairs k) (across k k)
    (range_append k (factors k) (pairs k) (range_factors k k (omega arith)) (range_pairs k k (omega arith)))
    (range_across k k k (omega arith) (omega arith)))
    ((omega arith, omega arith), tt)

-- ---- the loaded doubles stay

-- two lists have the same loaded doubles
abbrev SameLoaded : Layout → List Float → List Float → Type 0
SameLoaded y v w = (off n : ℕ) → off + n ≤ loaded_length y → part off n v ≡ part off n w

same_behind : (y : Layout) (v w : List Float) (off : ℕ) (l : List Float) → off + length l ≤ length v → loaded_length y ≤ off → SameLoaded y v w → SameLoaded y (store off l v) w
same_behind y v w off l fits behind same a n h = part_else off l v fits a n (inl (omega arith)) ∙ same a n h

module _ (h : List ℕ) (w : List Float) (t : List Float) where
  abbrev y : Layout
  y = layout_of h

  module _ (i j : ℕ) (a : j ≤ i) (b : i ≤ y.k) (v : List Float) (fits : doubles_needed y ≤ length v) where
    block_length : length (scaled y (entry_row h) (λ r c. false) t i j (part (loaded_at y i j) (loaded_sizes y i j) v)) ≡ sizes y i j
    block_length = length_scaled y (entry_row h) t (λ r c. false) i j a b _ (length_part (loaded_at y i j) (loaded_sizes y i j) v (room y (length v) fits i j a b).loaded)

    block_inside : working_at y i j + length (scaled y (entry_row h) (λ r c. false) t i j (part (loaded_at y i j) (loaded_sizes y i j) v)) ≤ length v
    block_inside = omega (arith, block_length, (room y (length v) fits i j a b).working)

    -- one block leaves the length and the loaded doubles
    kept_length : length (scaled_block y (entry_row h) t i j v) ≡ length v
    unfolding scaled_block
    kept_length = length_store (working_at y i j) _ v block_inside

    kept_loaded : SameLoaded y v w → SameLoaded y (scaled_block y (entry_row h) t i j v) w
    unfolding scaled_block
    kept_loaded = same_behind y v w (working_at y i j) _ block_inside (omega (arith, working_behind y i j a b))

    -- the block out of v is that out of w
    block_same : SameLoaded y v w
        → store (working_at y i j) (scaled y (entry_row h) (loaded_some h w) t i j (loaded_block h w i j)) v ≡ scaled_block y (entry_row h) t i j v
    unfolding scaled_block
    block_same same =
        let e : loaded_block h w i j ≡ part (loaded_at y i j) (loaded_sizes y i j) v =
        ap (λ (n : ℕ). part (loaded_at y i j) n w) (size_loaded y (entry_row h) i j) ∙ sym (same (loaded_at y i j) (loaded_sizes y i j) (loaded_inside y i j a b)) in
        ap (λ (l : List Float). store (working_at y i j) l v)
        (ap (scaled y (entry_row h) (loaded_some h w) t i j) e ∙ is_made y (entry_row h) t (loaded_some h w) i j _ ∙ sym (is_made y (entry_row h) t (λ r c. false) i j _))

  list_same : (l : List Target) → InRange y.k l → (v : List Float) → doubles_needed y ≤ length v → SameLoaded y v w
      → store_scaled h w t l v ≡ scaled_blocks y (entry_row h) t l v
  unfolding store_scaled scaled_blocks
  list_same [] r v fits same = refl
  list_same (b ∷ l) r v fits same =
      let a : b.col ≤ b.row = r.0.0 in
      let g : b.row ≤ y.k = r.0.1 in
      ap (store_scaled h w t l) (block_same b.row b.col a g v fits same)
      ∙ list_same l r.1 (scaled_block y (entry_row h) t b.row b.col v) (omega (arith, kept_length b.row b.col a g v fits))
      (kept_loaded b.row b.col a g v fits same)

  -- all of them, behind theta
  pub blocks_stored : doubles_needed y ≤ length w → length t ≡ y.k
      → store_scaled h w t (targets y.k) (store (theta_at y) t w) ≡ scaled_blocks y (entry_row h) t (targets y.k) (store (theta_at y) t w)
  blocks_stored fits k =
      let u : theta_at y + length t ≤ length w = omega (arith, theta_inside y) in
      list_same (targets y.k) (range_targets y.k) (store (theta_at y) t w) (omega (arith, length_store (theta_at y) t w u))
      (same_behind y w w (theta_at y) t u (omega arith) (λ off n g. refl))

-- ---- the calls

-- one double written is a list of one stored
pub stored_one : (w : List Float) (at : ℕ) (v : Float) → at < length w → set w at v ≡ store at (v ∷ []) w
stored_one w at v h = simp (store_nil, add-zero) at (store_one at [] w (omega arith) v (omega arith))

-- theta, copied one by one
pub theta_stored : (theta w v : List Float) (at k : ℕ) → k ≡ length theta → v ≡ run at k (λ i. double theta (0 + i)) w → v ≡ store at theta w
theta_stored theta w v at k e q =
    q
    ∙ ap (λ (l : List Float). store at l w)
    (sym (take_tab nan k _ theta (omega arith) (λ i l. ap (double theta) (omega arith))) ∙ take_all k theta (omega arith))

-- theta, the blocks and the sum
pub doubles_begun : (y : Layout) (theta w v₁ v₂ : List Float) (at sum : ℕ) → at ≡ theta_at y → sum ≡ sum_at y → v₁ ≡ store at theta w
    → BlocksScaled y theta (targets y.k) v₁ v₂ → sum < length v₂ → DoublesBegun y theta w (set v₂ sum ieee.zero)
doubles_begun y theta w v₁ v₂ at sum a s e f l row =
    stored_one v₂ sum ieee.zero l
    ∙ rw (s, f row, e, a) refl
