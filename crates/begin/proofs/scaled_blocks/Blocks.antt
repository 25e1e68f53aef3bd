-- The calls that begin one block, and the loops over the blocks: each callee's answer is a number of its own.
use Prim.Native.Nat.{ℕ, ◌+◌, ◌≤◌, ◌<◌}
use mathlib.Core.Path.{◌≡◌, refl, sym, ap, subst, ◌∙◌}
use mathlib.Core.Bool.{true}
use mathlib.Core.List.{List, [], ◌∷◌, ◌++◌}
use mathlib.Core.Logic.{◌⊎◌, inr}
use native.Mathlib.Numerals.{add-one}
use native.Mathlib.Omega.{arith}
use lib.ListN.{length, drop, length-drop}
use lib.Seq.{get_or-drop}
use lib.Ieee.{Float, nan}
use Rattle.storage.specs.Runs.{tab}
use Rattle.storage.specs.Part.{part, store}
use Rattle.storage.proofs.Cells.{take_tab}
use Rattle.block_runs.specs.axpy.Axpy.{at}
use Rattle.block_runs.specs.blocks.Blocks.{EachShape}
use Rattle.layout.specs.declared.Layout.{Layout}
use Rattle.layout.specs.declared.FactorKind.{FactorKind}
use Rattle.layout.specs.Shapes.{Target, target, factors, across, pairs, targets, factor_kind, shape, sizes, loaded_sizes, loaded_at, working_at, doubles_needed}
use Rattle.layout.proofs.Places.{size_working}
use Rattle.layout.proofs.Formula.{loaded_other, loaded_last}
use Rattle.heading_format.specs.Heading.{valid_layout}
use Rattle.block_places.proofs.block_sizes.Growing.{Grows}
use Rattle.block_places.proofs.block_sizes.Sizes.{below}
use Rattle.block_places.specs.Working.{working, as_factor, placed}
use Rattle.block_places.proofs.Placing.{is_factor, is_loaded_factor, lies, behind}
use Rattle.re_factor.specs.Factor as factor
use Rattle.cross_block.specs.Blocks.{scaled_twice, scaled_once}
use Rattle.begin.specs.scaled_blocks.Scaled.{scaled_block, scaled_blocks, BlockScaled, BlocksScaled}
use Rattle.begin.proofs.scaled_blocks.Shaped.{room, factor_scaled, pair_scaled, fixed_scaled, last_scaled}
use Rattle.workspace.specs.Memory.{sorted_theta}

-- n doubles from src on, one by one
pub copied : (src n : ℕ) (w : List Float) → src + n ≤ length w → tab n (λ i. at w (src + i)) ≡ part src n w
copied src n w h = sym (take_tab nan n (λ i. at w (src + i)) (drop src w) (simp length-drop (omega arith)) (λ i l. get_or-drop src w i nan))

-- ---- one block

-- the kernels' conditions: the target and its source lie in the doubles, the source before the target
abbrev Fits : (off size src n len : ℕ) → Type 0
Fits off size src n len = ((off + size ≤ len) × (src + n ≤ len)) × ((off + size ≤ src) ⊎ (src + n ≤ off))

-- factor j, by its kind
module _ (y : Layout) (ok : valid_layout y ≡ true) (j : ℕ) (h : j < y.k) {d : FactorKind} (e : factor_kind y j ≡ d) where
  is_own : (row : ℕ → ℕ) → placed y row j j ≡ as_factor d (working y j j)
  is_own row = is_factor y row ok j (omega arith) e

  pub factor_ready : (len : ℕ) → doubles_needed y ≤ len → factor.Begins len (as_factor d (working y j j)) (factor.loaded_of (working y j j) (loaded_at y j j))
  factor_ready len fits =
      let row : ℕ → ℕ = λ x. 0 in
      let s = behind y row fits (omega arith) (omega arith) (is_own row) (omega arith) (omega arith) (is_loaded_factor y row j h) in
      (lies y row fits (omega arith) (omega arith) (is_own row), s.0, s.1)

  pub factor_done : (t : List Float) (w : List Float) {w' : List Float} → w' ≡ factor.scaled (as_factor d (working y j j)) (factor.loaded_of (working y j j) (loaded_at y j j)) (sorted_theta y t j) w
      → BlockScaled y t j j w w'
  factor_done t w q row = q ∙ sym (factor_scaled y row t j h w (is_own row))

module _ (y : Layout) (len : ℕ) (fits : doubles_needed y ≤ len) where
  module _ (i j off src n : ℕ) (h : j < i) (g : i ≤ y.k) (a : off ≡ working_at y i j) (b : src ≡ loaded_at y i j) (c : n ≡ sizes y i j) where
    pub off_diagonal_fits : Fits off n src n len
    off_diagonal_fits =
        let r = room y len fits i j (omega arith) g in
        let l = loaded_other y i j h in
        ((omega (arith, r.working), omega (arith, r.loaded)), inr (omega (arith, r.apart)))

    module _ (t : List Float) (x : Float) (e : x ≡ sorted_theta y t j) (w w' : List Float) where
      pub fixed_done : i ≡ y.k → EachShape n (λ s. w' ≡ scaled_once s off src x w) → BlockScaled y t i j w w'
      fixed_done k q row =
          q (shape y row i j) (size_working y row i j ∙ sym c)
          ∙ rw (a, b, e)
          (subst (λ (r : ℕ). scaled_once (shape y row r j) (working_at y r j) (loaded_at y r j) (sorted_theta y t j) w ≡ scaled_block y row t r j w) (sym k)
          (sym (fixed_scaled y row t j (omega arith) w)))

      pub pair_done : (i ≡ y.k → ⊥) → (z : Float) → z ≡ sorted_theta y t i → EachShape n (λ s. w' ≡ scaled_twice s off src x z w) → BlockScaled y t i j w w'
      pair_done k z f q row =
          q (shape y row i j) (size_working y row i j ∙ sym c)
          ∙ rw (a, b, e, f) (sym (pair_scaled y row t i j h (below i y.k g k) w))

  module _ (off src n : ℕ) (a : off ≡ working_at y y.k y.k) (b : src ≡ loaded_at y y.k y.k) (c : n ≡ loaded_sizes y y.k y.k) where
    pub last_fits : (off + n ≤ len) × (src + n ≤ off)
    last_fits =
        let r = room y len fits y.k y.k (omega arith) (omega arith) in
        let l = loaded_last y in
        (omega (arith, r.working), omega (arith, r.apart))

    pub last_done : (t : List Float) (w w' : List Float) → w' ≡ store off (part src n w) w → BlockScaled y t y.k y.k w w'
    last_done t w w' q row = q ∙ rw (a, b, c) (sym (last_scaled y row t w))

-- ---- blocks in turn

module _ (y : Layout) (row : ℕ → ℕ) (t : List Float) where
  scaled_append : (a b : List Target) (v : List Float) → scaled_blocks y row t (a ++ b) v ≡ scaled_blocks y row t b (scaled_blocks y row t a v)
  unfolding scaled_blocks
  scaled_append [] b v = refl
  scaled_append (u ∷ a) b v = scaled_append a b (scaled_block y row t u.row u.col v)

  scaled_next : (l : List Target) (i j : ℕ) (v : List Float) → scaled_blocks y row t (l ++ (target i j ∷ [])) v ≡ scaled_block y row t i j (scaled_blocks y row t l v)
  unfolding scaled_blocks
  scaled_next l i j v = scaled_append l (target i j ∷ []) v

-- a loop over a list that grows: the first j of its n pieces are begun
pub record Scaling (y : Layout) (t : List Float) (l g : ℕ → List Target) (n : ℕ) (w v : List Float) (j : ℕ) : Type 0 where
  pub grows : Grows l g
  pub within : j ≤ n
  pub far : BlocksScaled y t (l j) w v
  pub long : length v ≡ length w

module _ {y : Layout} {t : List Float} {l g : ℕ → List Target} {n : ℕ} {w : List Float} where
  pub scaling_none : Grows l g → Scaling y t l g n w w 0
  unfolding scaled_blocks
  scaling_none e =
      record {
        grows = e;
        within = omega arith;
        far = λ row. sym (ap (λ (x : List Target). scaled_blocks y row t x w) e.none);
        long = refl;
      }

  module _ {v : List Float} {j : ℕ} (e : Scaling y t l g n w v j) where
    -- one piece more
    pub scaling_more : {u : List Float} → j < n → BlocksScaled y t (g j) v u → length u ≡ length v → Scaling y t l g n w u (j + 1)
    scaling_more h f q =
        record {
          grows = e.grows;
          within = omega arith;
          far = λ row. rw (add-one, e.grows.more j) (f row ∙ ap (scaled_blocks y row t (g j)) (e.far row) ∙ sym (scaled_append y row t (l j) (g j) w));
          long = q ∙ e.long;
        }

    -- a piece that is one block
    pub scaling_block : {u : List Float} {r c : ℕ} → g j ≡ (target r c ∷ []) → j < n → BlockScaled y t r c v u → length u ≡ length v → Scaling y t l g n w u (j + 1)
    unfolding scaled_blocks
    scaling_block z h f q = scaling_more h (λ row. rw z (f row)) q

    pub scaling_all : n ≤ j → BlocksScaled y t (l n) w v
    scaling_all h = let within = e.within in subst (λ (x : ℕ). BlocksScaled y t (l x) w v) (omega arith) e.far

module _ (y : Layout) (t : List Float) (w : List Float) where
  -- all of them
  pub targets_done : (v₁ v₂ v₃ u : List Float) → BlocksScaled y t (factors y.k) w v₁ → BlocksScaled y t (pairs y.k) v₁ v₂ → BlocksScaled y t (across y.k y.k) v₂ v₃
      → BlockScaled y t y.k y.k v₃ u → BlocksScaled y t (targets y.k) w u
  unfolding targets
  targets_done v₁ v₂ v₃ u a b c d row =
      d row
      ∙ ap (scaled_block y row t y.k y.k)
      (c row
      ∙ ap (scaled_blocks y row t (across y.k y.k))
      (b row ∙ ap (scaled_blocks y row t (pairs y.k)) (a row) ∙ sym (scaled_append y row t (factors y.k) (pairs y.k) w))
      ∙ sym (scaled_append y row t (factors y.k ++ pairs y.k) (across y.k y.k) w))
      ∙ sym (scaled_next y row t (factors y.k ++ pairs y.k ++ across y.k y.k) y.k y.k w)
