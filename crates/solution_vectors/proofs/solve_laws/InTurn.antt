-- All blocks in turn: the vector is the list of its blocks, and a turn sets one of them.
use Prim.Native.Nat.{ℕ, ◌+◌, ◌≤◌, ◌<◌}
use mathlib.Core.Path.{◌≡◌, refl, sym, ap, ap₂, ◌∙◌}
use mathlib.Core.Bool.{true}
use mathlib.Core.List.{List}
use native.Mathlib.Omega.{arith}
use lib.ListN.{length, set}
use lib.Ieee.{Float}
use Rattle.storage.proofs.Parts.{store_store}
use Rattle.layout.specs.declared.Layout.{Layout}
use Rattle.layout.specs.Shapes.{levels}
use Rattle.heading_format.specs.Heading.{valid_layout}
use Rattle.profile.specs.Solves.{block_in}
use Rattle.profile.specs.Finish.{in_sheet_order}
use Rattle.solution_vectors.specs.Vectors.{block_at, blocks_at, with_vector, with_block_at, Sized}
use Rattle.solution_vectors.proofs.Order.{order_length}
use Rattle.solution_vectors.proofs.Vectors.{sized_set, sized_blocks, vector_same, length_vector, vector_at, read_vector, vector_block}

-- v is v₀ with the vector of the blocks l
pub record InTurn (y : Layout) (from : ℕ) (v₀ : List Float) (l : List (List Float)) (v : List Float) : Type 0 where
  pub valid_layout : valid_layout y ≡ true
  pub fits : from + y.q ≤ length v₀
  pub sized : Sized y l
  pub long : length v ≡ length v₀
  pub same : v ≡ with_vector y from l v₀

module _ {y : Layout} {from : ℕ} {v₀ : List Float} where
  pub turn_none : valid_layout y ≡ true → from + y.q ≤ length v₀ → InTurn y from v₀ (blocks_at y from v₀) v₀
  turn_none ok fits =
      record {
        valid_layout = ok;
        fits = fits;
        sized = sized_blocks y ok from v₀ fits;
        long = refl;
        same = sym (vector_same y ok from v₀ fits);
      }

  -- block i made anew of all blocks and itself
  pub turn_more : {l : List (List Float)} {v : List Float} → InTurn y from v₀ l v → (i : ℕ) → i < y.k
      → (make : List (List Float) → List Float → List Float) → length (make l (block_in l i)) ≡ levels y i
      → {l' : List (List Float)} → l' ≡ set l i (make l (block_in l i))
      → {v' : List Float} → v' ≡ with_block_at y from i (make (blocks_at y from v) (block_at y from v i)) v → InTurn y from v₀ l' v'
  turn_more {l} {v} e i h make size {l'} q {v'} then =
      let ok = e.valid_layout in
      let all : blocks_at y from v ≡ l = ap (blocks_at y from) e.same ∙ read_vector y ok from l e.sized v₀ e.fits in
      let own : block_at y from v i ≡ block_in l i =
      ap (λ (x : List Float). block_at y from x i) e.same ∙ vector_at y ok from l e.sized v₀ e.fits i h in
      let b : List Float = make l (block_in l i) in
      let sized : Sized y l' = rw q (sized_set y ok l e.sized i b h size) in
      let same : v' ≡ with_vector y from l' v₀ =
      then ∙ ap₂ (λ (x u : List Float). with_block_at y from i x u) (ap₂ make all own) e.same
      ∙ vector_block y ok from l e.sized v₀ e.fits i b h size ∙ ap (λ (z : List (List Float)). with_vector y from z v₀) (sym q) in
      record {
        valid_layout = ok;
        fits = e.fits;
        sized = sized;
        long = ap length same ∙ length_vector y ok from l' sized v₀ e.fits;
        same = same;
      }

-- a vector stored over another stands alone
pub vector_over : (y : Layout) → valid_layout y ≡ true → (from : ℕ) (v₀ : List Float) → from + y.q ≤ length v₀ → (l l' : List (List Float)) → Sized y l → Sized y l'
    → with_vector y from l' (with_vector y from l v₀) ≡ with_vector y from l' v₀
vector_over y ok from v₀ fits l l' e e' =
    let n = order_length y ok l e in
    let n' = order_length y ok l' e' in
    store_store from (in_sheet_order y l y.k) v₀ (omega arith) (in_sheet_order y l' y.k) (omega arith)
