-- What a step leaves of the doubles: its own block and the sum; every other block, the loaded numbers, theta and what lies behind stay.
use Prim.Native.Nat.{ℕ, ◌+◌, ◌<◌, ◌≤◌}
use mathlib.Core.Path.{◌≡◌, sym, ap, ◌∙◌}
use mathlib.Core.List.{List, [], ◌∷◌}
use mathlib.Core.Logic.{◌⊎◌, inl, inr, ⊎_elim, by_cases}
use native.Mathlib.Decide.{dec_lt}
use native.Mathlib.Nat.{add-zero}
use native.Mathlib.Omega.{arith}
use lib.ListN.{length, get_or, take, drop}
use lib.Ieee.{Float}
use Rattle.storage.specs.Part.{part, store}
use Rattle.storage.proofs.Parts.{length_store, part_same, part_else, drop_store, store_else, store_in}
use Rattle.rules.specs.Arithmetic.{ieee}
use Rattle.layout.specs.declared.Layout.{Layout}
use Rattle.layout.specs.Shapes.{sizes, loaded_length, theta_at, working_at, sum_at, doubles_needed}
use Rattle.layout.proofs.Places.{working_inside, working_behind, working_apart}

-- block (i, j) is l, and the sum is x
abbrev pub with_block : Layout → ℕ → ℕ → List Float → Float → List Float → List Float
with_block y i j l x w = store (sum_at y) (x ∷ []) (store (working_at y i j) l w)

-- one number stored is read again
pub cell_stored : (off : ℕ) (x : Float) (w : List Float) (d : Float) → off < length w → get_or (store off (x ∷ []) w) off d ≡ x
cell_stored off x w d fits = ap (λ (n : ℕ). get_or (store off (x ∷ []) w) n d) (sym (add-zero off)) ∙ store_in off (x ∷ []) w (omega arith) d 0 (omega arith)

module _ (y : Layout) (w : List Float) (room : doubles_needed y ≤ length w) (i j : ℕ) (h : j ≤ i) (g : i ≤ y.k)
    (l : List Float) (size : length l ≡ sizes y i j) (x : Float) where
  -- the block fits, leaves the length, and so the sum fits behind it
  block_fits : working_at y i j + length l ≤ length w
  block_fits = omega (arith, working_inside y i j h g)

  block_length : length (store (working_at y i j) l w) ≡ length w
  block_length = length_store (working_at y i j) l w block_fits

  sum_fits : sum_at y + length (x ∷ []) ≤ length (store (working_at y i j) l w)
  sum_fits = omega (arith, block_length)

  -- a part that lies before or behind the block, and before the sum or behind it, stays
  part_stays : (off n : ℕ) → (off + n ≤ sum_at y) ⊎ (sum_at y + 1 ≤ off) → (off + n ≤ working_at y i j) ⊎ (working_at y i j + length l ≤ off)
      → part off n (with_block y i j l x w) ≡ part off n w
  part_stays off n a b =
      part_else (sum_at y) (x ∷ []) (store (working_at y i j) l w) sum_fits off n a ∙ part_else (working_at y i j) l w block_fits off n b

  -- the length stays
  pub with_length : length (with_block y i j l x w) ≡ length w
  with_length = length_store (sum_at y) (x ∷ []) (store (working_at y i j) l w) sum_fits ∙ block_length

  -- the block is what was stored
  pub with_own : part (working_at y i j) (sizes y i j) (with_block y i j l x w) ≡ l
  with_own =
      part_else (sum_at y) (x ∷ []) (store (working_at y i j) l w) sum_fits (working_at y i j) (sizes y i j) (inl (working_inside y i j h g))
      ∙ part_same (working_at y i j) l w block_fits (sizes y i j) size

  -- every other block stays
  pub with_other : (i' j' : ℕ) → j' ≤ i' → i' ≤ y.k → (i ≡ i' → j ≡ j' → ⊥) → part (working_at y i' j') (sizes y i' j') (with_block y i j l x w) ≡ part (working_at y i' j') (sizes y i' j') w
  with_other i' j' h' g' other =
      part_stays (working_at y i' j') (sizes y i' j') (inl (working_inside y i' j' h' g'))
      (⊎_elim (λ a. inr (omega arith)) (λ a. inl a) (working_apart y i j h g i' j' h' g' other))

  -- the sum is x
  pub with_sum : get_or (with_block y i j l x w) (sum_at y) ieee.zero ≡ x
  with_sum = cell_stored (sum_at y) x (store (working_at y i j) l w) ieee.zero (omega (arith, block_length))

  -- the loaded numbers stay
  pub with_loaded_lem : take (loaded_length y) (with_block y i j l x w) ≡ take (loaded_length y) w
  with_loaded_lem =
      part_stays 0 (loaded_length y) (inl (omega (arith, working_behind y i j h g, working_inside y i j h g)))
      (inl (omega (arith, working_behind y i j h g)))

  -- theta stays
  pub with_theta_lem : part (theta_at y) y.k (with_block y i j l x w) ≡ part (theta_at y) y.k w
  with_theta_lem =
      part_stays (theta_at y) y.k (inl (omega (arith, working_behind y i j h g, working_inside y i j h g))) (inl (working_behind y i j h g))

  -- what lies behind the workspace stays
  pub with_behind : drop (doubles_needed y) (with_block y i j l x w) ≡ drop (doubles_needed y) w
  with_behind =
      drop_store (sum_at y) (x ∷ []) (store (working_at y i j) l w) sum_fits (doubles_needed y) (omega arith)
      ∙ drop_store (working_at y i j) l w block_fits (doubles_needed y) (omega (arith, working_inside y i j h g))

  -- a place that is neither the block's nor the sum's
  pub with_elsewhere : (n : ℕ) → ((working_at y i j ≤ n) → (n < working_at y i j + sizes y i j) → ⊥) → (n ≡ sum_at y → ⊥) → get_or (with_block y i j l x w) n ieee.zero ≡ get_or w n ieee.zero
  with_elsewhere n a b =
      store_else (sum_at y) (x ∷ []) (store (working_at y i j) l w) sum_fits ieee.zero n
      (by_cases (dec_lt n (sum_at y)) (λ c. inl c) (λ c. by_cases (dec_lt (sum_at y) n) (λ d. inr (omega arith)) (λ d. absurd (b (omega arith)))))
      ∙ store_else (working_at y i j) l w block_fits ieee.zero n
      (by_cases (dec_lt n (working_at y i j)) (λ c. inl c)
      (λ c. by_cases (dec_lt n (working_at y i j + sizes y i j)) (λ d. absurd (a (omega arith) d)) (λ d. inr (omega arith))))
