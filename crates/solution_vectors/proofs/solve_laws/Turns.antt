-- One block's turns: each makes a new block of the one that stands there and of another one, which stays.
use Prim.Native.Nat.{ℕ, ◌+◌, ◌≤◌, ◌<◌}
use mathlib.Core.Path.{◌≡◌, refl, sym, ap, ◌∙◌}
use mathlib.Core.Bool.{true}
use mathlib.Core.List.{List}
use native.Mathlib.Omega.{arith}
use lib.ListN.{length}
use lib.Seq.{take_all}
use lib.Ieee.{Float}
use Rattle.storage.specs.Runs.{tab}
use Rattle.storage.proofs.Cells.{length_tab, get_or_tab, tab_ext, take_tab}
use Rattle.storage.proofs.Parts.{store_store, store_part}
use Rattle.rules.specs.Arithmetic.{ieee}
use Rattle.rules.specs.Cholesky.{at}
use Rattle.layout.specs.declared.Layout.{Layout}
use Rattle.layout.specs.Shapes.{levels}
use Rattle.heading_format.specs.Heading.{valid_layout}
use Rattle.workspace.specs.Loaded.{row_start}
use Rattle.block_places.proofs.sheet_rows.AllRows.{rows_within}
use Rattle.solution_vectors.specs.Vectors.{block_at, with_block_at}
use Rattle.solution_vectors.proofs.Vectors.{block_length, length_block, block_same, block_other}
use Rattle.solution_vectors.proofs.solve_laws.Within.{Inside}

-- block i has the values g, and all else is as in v₀
pub record Turning (y : Layout) (from i : ℕ) (v₀ : List Float) (g : ℕ → Float) (v : List Float) : Type 0 where
  pub valid_layout : valid_layout y ≡ true
  pub here : i < y.k
  pub fits : from + y.q ≤ length v₀
  pub long : length v ≡ length v₀
  pub same : v ≡ with_block_at y from i (tab (levels y i) g) v₀

-- at the start they are its own
pub turning_none : {y : Layout} {from i : ℕ} {v₀ : List Float} → valid_layout y ≡ true → i < y.k → from + y.q ≤ length v₀ → Turning y from i v₀ (at ieee (block_at y from v₀ i)) v₀
turning_none {y} {from} {i} {v₀} ok here fits =
    record {
      valid_layout = ok;
      here = here;
      fits = fits;
      long = refl;
      same =
          sym
          (ap (λ (l : List Float). with_block_at y from i l v₀) (own (block_at y from v₀ i) (levels y i) (block_length y ok from v₀ fits i here))
          ∙ store_part (from + row_start y i) (levels y i) v₀ (omega (arith, rows_within y ok i here)));
    }
  where
    own : (b : List Float) (n : ℕ) → length b ≡ n → tab n (at ieee b) ≡ b
    own b n e = sym (take_tab ieee.zero n (at ieee b) b (omega arith) (λ x l. refl)) ∙ take_all n b (omega arith)

module _ {y : Layout} {from i : ℕ} {v₀ : List Float} {g : ℕ → Float} {v : List Float} (e : Turning y from i v₀ g v) where
  cell_is : (r : ℕ) → r < levels y i → at ieee (block_at y from v i) r ≡ g r
  cell_is r l =
      ap (λ (x : List Float). at ieee (block_at y from x i) r) e.same
      ∙ ap (λ (b : List Float). at ieee b r) (block_same y e.valid_layout from i (tab (levels y i) g) v₀ e.here (length_tab (levels y i) g) e.fits)
      ∙ get_or_tab (levels y i) g r ieee.zero l

  -- any other block is as it was
  pub turning_other : (j : ℕ) → j < y.k → (i ≡ j → ⊥) → block_at y from v j ≡ block_at y from v₀ j
  turning_other j h other =
      ap (λ (x : List Float). block_at y from x j) e.same
      ∙ block_other y e.valid_layout from i (tab (levels y i) g) v₀ e.here (length_tab (levels y i) g) e.fits j h other

  over : (b : List Float) → length b ≡ levels y i → with_block_at y from i b v ≡ with_block_at y from i b v₀
  over b q =
      let fits = e.fits in
      let n = length_tab (levels y i) g in
      let within = rows_within y e.valid_layout i e.here in
      ap (with_block_at y from i b) e.same ∙ store_store (from + row_start y i) (tab (levels y i) g) v₀ (omega arith) b (omega arith)

  -- a rule that makes each row of that row alone
  pub turning_more : (less : (ℕ → Float) → ℕ → Float) → ((f f' : ℕ → Float) (r : ℕ) → f r ≡ f' r → less f r ≡ less f' r)
      → {v' : List Float} → v' ≡ with_block_at y from i (tab (levels y i) (less (at ieee (block_at y from v i)))) v → Turning y from i v₀ (less g) v'
  turning_more less local {v'} then =
      let b : List Float = tab (levels y i) (less g) in
      let n : length b ≡ levels y i = length_tab (levels y i) (less g) in
      let same : v' ≡ with_block_at y from i b v₀ =
      then ∙ ap (λ (x : List Float). with_block_at y from i x v) (tab_ext (levels y i) _ _ (λ r l. local _ _ r (cell_is r l))) ∙ over b n in
      record {
        valid_layout = e.valid_layout;
        here = e.here;
        fits = e.fits;
        long = ap length same ∙ length_block y e.valid_layout from i b v₀ e.here n e.fits;
        same = same;
      }

  -- a solve of the block's rows alone
  pub turning_solve : {solve : (ℕ → Float) → List Float} → Inside (levels y i) solve
      → {v' : List Float} → v' ≡ with_block_at y from i (solve (at ieee (block_at y from v i))) v → v' ≡ with_block_at y from i (solve g) v₀
  turning_solve {solve} inside then =
      then ∙ ap (λ (b : List Float). with_block_at y from i b v) (inside.local _ _ cell_is) ∙ over (solve g) (inside.long g)
