-- b by its blocks: what the call on one block makes, and that u stays while b is written.
use Prim.Native.Nat.{ℕ, ◌+◌, ◌≤◌, ◌<◌}
use mathlib.Core.Path.{◌≡◌, sym, ap, ◌∙◌}
use mathlib.Core.Bool.{true}
use mathlib.Core.List.{List}
use mathlib.Core.Logic.{◌⊎◌, inl, inr}
use native.Mathlib.Omega.{arith}
use lib.Ieee.{Float}
use Rattle.storage.specs.Runs.{tab}
use Rattle.storage.specs.Shape.{diagonal}
use Rattle.storage.specs.Part.{store}
use Rattle.storage.proofs.Cells.{length_tab, tab_ext}
use Rattle.storage.proofs.Places.{size_diagonal}
use Rattle.storage.proofs.Parts.{get_or_part}
use Rattle.rules.specs.Arithmetic.{ieee}
use Rattle.rules.specs.Begin.{fixed_cell}
use Rattle.rules.specs.Cholesky.{at}
use Rattle.block_runs.specs.blocks.Blocks.{EachShape}
use Rattle.rules.proofs.Products.{times_swap}
use Rattle.cross_block.specs.Blocks.{scaled_once}
use Rattle.cross_block.proofs.Turns.{as_block}
use Rattle.layout.specs.declared.Layout.{Layout}
use Rattle.layout.specs.Shapes.{levels}
use Rattle.heading_format.specs.Heading.{valid_layout}
use Rattle.workspace.specs.Memory.{theta_of}
use Rattle.workspace.specs.Loaded.{row_start}
use Rattle.block_places.proofs.sheet_rows.AllRows.{rows_within}
use Rattle.block_places.specs.block_kinds.Rows.{rows_of}
use Rattle.block_places.proofs.block_kinds.Shapes.{rows_level}
use Rattle.solution_vectors.specs.Vectors.{block_at, with_block_at}
use Rattle.solution_vectors.proofs.Vectors.{Blockwise, blockwise_more, blockwise_else}
use Rattle.solution_vectors.specs.result_places.Places.{b_at, u_at, result_length_of}
use Rattle.solution_finish.specs.b_vector.Effects.{effect_block}

module _ (y : Layout) (ok : valid_layout y ≡ true) where
  -- ---- one block, each callee's answer being a number of its own

  module _ (j first n len : ℕ) (h : j < y.k) (a : first ≡ row_start y j) (b : n ≡ rows_of y j) (e : len ≡ result_length_of y) where
    pub block_fits : (y.p + first + n ≤ len) × (y.p + first + y.q + n ≤ len)
    block_fits = let k = rows_within y ok j h in let r = rows_level y j h in (omega arith, omega arith)

    pub block_apart : (y.p + first + n ≤ y.p + first + y.q) ⊎ (y.p + first + y.q + n ≤ y.p + first)
    block_apart = let k = rows_within y ok j h in let r = rows_level y j h in inl (omega arith)

  pub block_scaled : (hs : List ℕ) (w v u : List Float) (j first n : ℕ) (theta : Float) → j < y.k → theta ≡ theta_of hs w j → first ≡ row_start y j → n ≡ rows_of y j
      → EachShape n (λ s. u ≡ scaled_once s (y.p + first) (y.p + first + y.q) theta v)
      → u ≡ with_block_at y (b_at y) j (effect_block hs w y v j) v
  block_scaled hs w v u j first n theta h t a b f =
      let r : n ≡ levels y j = b ∙ rows_level y j h in
      let src : y.p + first + y.q ≡ u_at y + row_start y j = omega arith in
      f (diagonal n) (size_diagonal n)
      ∙ ap (λ (l : List Float). store (y.p + first) l v) (sym (as_block n (y.p + first + y.q) v (fixed_cell ieee theta) (diagonal n) (size_diagonal n)))
      ∙ rw (src, a, r, t)
      (ap (λ (l : List Float). store (y.p + row_start y j) l v)
      (tab_ext (levels y j) _ _
      (λ c l. times_swap _ (theta_of hs w j) ∙ ap (ieee.times (theta_of hs w j)) (sym (get_or_part (u_at y + row_start y j) (levels y j) v c ieee.zero l)))))

  -- ---- one block more

  pub b_more : (hs : List ℕ) (w : List Float) {v r u : List Float} {j : ℕ} → Blockwise y (b_at y) (effect_block hs w y v) v r j → j < y.k
      → u ≡ with_block_at y (b_at y) j (effect_block hs w y r j) r → Blockwise y (b_at y) (effect_block hs w y v) v u (j + 1)
  b_more hs w {v} {r} {u} {j} e h then =
      let same : block_at y (u_at y) r j ≡ block_at y (u_at y) v j = blockwise_else e (u_at y + row_start y j) (levels y j) (inr (omega arith)) in
      blockwise_more e h (length_tab (levels y j) _)
      (then
      ∙ ap (λ (l : List Float). with_block_at y (b_at y) j (tab (levels y j) (λ c. ieee.times (theta_of hs w j) (at ieee l c))) r) same)
