-- b stands in its place once each of its blocks is theta times that of u, which stands in its own.
use Prim.Native.Nat.{ℕ, ◌+◌, ◌≤◌, ◌<◌}
use mathlib.Core.Path.{◌≡◌, sym, ap, ap₂, ◌∙◌}
use mathlib.Core.Bool.{true}
use mathlib.Core.List.{List, []}
use mathlib.Core.Logic.{◌⊎◌}
use native.Mathlib.Omega.{arith}
use lib.ListN.{length, replicate, drop, length-drop, length-replicate, get_or-replicate}
use lib.Seq.{get_or-drop}
use lib.Ieee.{Float}
use Rattle.storage.specs.Runs.{tab}
use Rattle.storage.specs.Part.{part}
use Rattle.storage.proofs.Cells.{length_tab, get_or_tab, tab_ext, take_tab}
use Rattle.storage.proofs.Parts.{get_or_part}
use Rattle.rules.specs.Arithmetic.{ieee}
use Rattle.rules.specs.Cholesky.{at}
use Rattle.layout.specs.declared.Layout.{Layout}
use Rattle.layout.specs.Shapes.{levels}
use Rattle.heading_format.specs.Heading.{valid_layout, layout_of}
use Rattle.workspace.specs.Memory.{theta_of}
use Rattle.workspace.specs.Loaded.{row_start}
use Rattle.block_places.proofs.sheet_rows.AllRows.{rows_within}
use Rattle.profile.specs.Solves.{block_in}
use Rattle.profile.specs.Finish.{in_sheet_order, theta_rows, u_vector, b_vector}
use Rattle.solution_vectors.specs.Vectors.{block_at, with_vector, Sized}
use Rattle.solution_vectors.proofs.Order.{order_length, order_block}
use Rattle.solution_vectors.proofs.Vectors.{sized_tab, same_blocks, length_vector, vector_rows, vector_else}
use Rattle.solution_vectors.specs.result_places.Places.{b_at, u_at, result_length_of}
use Rattle.solution_finish.specs.b_vector.Effects.{effect_block, effect_blocks}

-- a part of the list of f 0, f 1, ..
part_tab : (off n m : ℕ) (f : ℕ → Float) → off + n ≤ m → part off n (tab m f) ≡ tab n (λ i. f (off + i))
part_tab off n m f fits =
    take_tab ieee.zero n (λ i. f (off + i)) (drop off (tab m f)) (simp length-drop (omega (arith, length_tab m f)))
    (λ i l. get_or-drop off (tab m f) i ieee.zero ∙ get_or_tab m f (off + i) ieee.zero (omega arith))

module _ (h : List ℕ) (w : List Float) (y : Layout) where
  -- theta of each row, by a layout that equals the heading's
  abbrev thetas : List (List Float)
  thetas = tab y.k (λ j. replicate (levels y j) (theta_of h w j))

  thetas_by : y ≡ layout_of h → in_sheet_order y thetas y.k ≡ theta_rows h w
  unfolding theta_rows
  thetas_by e = ap (λ (z : Layout). in_sheet_order z (tab z.k (λ j. replicate (levels z j) (theta_of h w j))) z.k) e

  abbrev effect_by : ℕ → Float
  effect_by i = ieee.times (at ieee (theta_rows h w) i) (at ieee (u_vector h w) i)

  b_by : y ≡ layout_of h → tab y.q effect_by ≡ b_vector h w
  unfolding b_vector
  b_by e = ap (λ (z : Layout). tab z.q effect_by) e

  module _ (ok : valid_layout y ≡ true) where
    -- each row of block j has theta of block j
    theta_at_lem : y ≡ layout_of h → (j : ℕ) → j < y.k → (c : ℕ) → c < levels y j → at ieee (theta_rows h w) (row_start y j + c) ≡ theta_of h w j
    theta_at_lem e j l c m =
        let sized : Sized y thetas = sized_tab y ok (λ i. replicate (levels y i) (theta_of h w i)) (λ i g. length-replicate (levels y i) (theta_of h w i)) in
        sym (get_or_part (row_start y j) (levels y j) (theta_rows h w) c ieee.zero m)
        ∙ ap (λ (z : List Float). at ieee z c)
        (ap (part (row_start y j) (levels y j)) (sym (thetas_by e)) ∙ order_block y ok thetas sized j l
        ∙ get_or_tab y.k (λ i. replicate (levels y i) (theta_of h w i)) j [] l)
        ∙ get_or-replicate (levels y j) c (theta_of h w j) ieee.zero m

    module _ (v : List Float) where
      made_sized : Sized y (effect_blocks h w y v)
      unfolding effect_blocks
      made_sized = sized_tab y ok (effect_block h w y v) (λ j l. length_tab (levels y j) _)

      -- ---- what the store leaves alone

      module _ (v' : List Float) (long : length v ≡ result_length_of y) (then : v' ≡ with_vector y (b_at y) (effect_blocks h w y v) v) where
        pub b_length : length v' ≡ length v
        b_length = ap length then ∙ length_vector y ok (b_at y) (effect_blocks h w y v) made_sized v (omega arith)

        -- what lies apart from b is as it was
        pub b_else : (off n : ℕ) → (off + n ≤ b_at y) ⊎ (u_at y ≤ off) → part off n v' ≡ part off n v
        b_else off n apart = ap (part off n) then ∙ vector_else y ok (b_at y) (effect_blocks h w y v) made_sized v (omega arith) off n apart

      -- ---- b

      module _ (e : y ≡ layout_of h) (u : part (u_at y) y.q v ≡ u_vector h w) where
        -- double c of block j of u
        offset_at : (j : ℕ) → j < y.k → (c : ℕ) → c < levels y j → at ieee (block_at y (u_at y) v j) c ≡ at ieee (u_vector h w) (row_start y j + c)
        offset_at j l c m =
            let same : u_at y + row_start y j + c ≡ u_at y + (row_start y j + c) = omega arith in
            get_or_part (u_at y + row_start y j) (levels y j) v c ieee.zero m ∙ ap (at ieee v) same
            ∙ sym (get_or_part (u_at y) y.q v (row_start y j + c) ieee.zero (omega (arith, rows_within y ok j l)))
            ∙ ap (λ (z : List Float). at ieee z (row_start y j + c)) u

        block_is : (j : ℕ) → j < y.k → block_in (effect_blocks h w y v) j ≡ part (row_start y j) (levels y j) (tab y.q effect_by)
        unfolding effect_blocks
        block_is j l =
            get_or_tab y.k (effect_block h w y v) j [] l
            ∙ tab_ext (levels y j) _ (λ c. effect_by (row_start y j + c)) (λ c m. ap₂ ieee.times (sym (theta_at_lem e j l c m)) (offset_at j l c m))
            ∙ sym (part_tab (row_start y j) (levels y j) y.q effect_by (rows_within y ok j l))

        rows_are : in_sheet_order y (effect_blocks h w y v) y.k ≡ b_vector h w
        rows_are =
            let l : List (List Float) = effect_blocks h w y v in
            same_blocks y ok (in_sheet_order y l y.k) (tab y.q effect_by) (order_length y ok l made_sized) (length_tab y.q effect_by)
            (λ j g. order_block y ok l made_sized j g ∙ block_is j g)
            ∙ b_by e

module _ (h : List ℕ) (w : List Float) (y : Layout) (e : y ≡ layout_of h) (ok : valid_layout y ≡ true) where
  pub b_are : (v v' : List Float) → length v ≡ result_length_of y → part (u_at y) y.q v ≡ u_vector h w
      → v' ≡ with_vector y (b_at y) (effect_blocks h w y v) v → part (b_at y) y.q v' ≡ b_vector h w
  b_are v v' long u then =
      ap (part (b_at y) y.q) then ∙ vector_rows y ok (b_at y) (effect_blocks h w y v) (made_sized h w y ok v) v (omega arith)
      ∙ rows_are h w y ok v e u
