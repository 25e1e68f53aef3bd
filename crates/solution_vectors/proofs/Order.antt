-- The sorted blocks of a vector in sheet order: each lies in rows of its own, and together they are all of its rows.
use Prim.Native.Nat.{ℕ, zero, suc, ◌+◌, ◌≤◌, ◌<◌}
use mathlib.Core.Path.{◌≡◌, refl, sym, ap, ap₂, subst, ◌∙◌}
use mathlib.Core.Bool.{Bool, true, false, cond}
use mathlib.Core.List.{List}
use mathlib.Core.Logic.{◌⊎◌, inl, inr, by_cases}
use native.Mathlib.Decide.{dec_lt}
use native.Mathlib.Omega.{arith}
use lib.Dec.{eqb}
use lib.ListN.{length, get_or, take, length-append}
use lib.Seq.{get_or-take, take_all}
use lib.Ieee.{Float}
use borrow.Author.Tests.{eqb-true, eqb-false, eq-eqb, ne_eqb}
use Rattle.storage.specs.Part.{part}
use Rattle.storage.proofs.Parts.{part_left, part_right}
use Rattle.layout.specs.declared.Layout.{Layout}
use Rattle.layout.specs.Blocks.{sorted, sum}
use Rattle.layout.specs.Shapes.{levels, sheet_index}
use Rattle.layout.proofs.Sums.{sum_same, sum_more, sum_le, sum_over, sum_small, over_sorted}
use Rattle.heading_format.specs.Heading.{sheet_levels, valid_layout}
use Rattle.heading_format.proofs.Valid.{is_valid}
use Rattle.heading_format.proofs.Sorted.{length_sorted, same_lists, order_below, levels_at_lem}
use Rattle.workspace.specs.Loaded.{row_start}
use Rattle.block_places.proofs.sheet_rows.Rows.{index_one}
use Rattle.block_places.proofs.sheet_rows.AllRows.{all_rows}
use Rattle.profile.specs.Solves.{block_in}
use Rattle.profile.specs.Finish.{sorted_index, in_sheet_order}
use Rattle.solution_vectors.specs.Vectors.{Sized}

module _ (y : Layout) where
  -- the block that is answered has sheet index i, or none has
  index_found : (n i : ℕ) → ((sorted_index y n i < n) × (sheet_index y (sorted_index y n i) ≡ i)) ⊎ ((j : ℕ) → j < n → sheet_index y j ≡ i → ⊥)
  unfolding sorted_index
  index_found zero i = inr (λ j h e. omega arith)
  index_found (suc n) i = step (index_found n i) (eqb (sheet_index y n) i) refl
    where
      step : ((sorted_index y n i < n) × (sheet_index y (sorted_index y n i) ≡ i)) ⊎ ((j : ℕ) → j < n → sheet_index y j ≡ i → ⊥)
          → (b : Bool) → eqb (sheet_index y n) i ≡ b
          → ((cond b n (sorted_index y n i) < suc n) × (sheet_index y (cond b n (sorted_index y n i)) ≡ i)) ⊎ ((j : ℕ) → j < suc n → sheet_index y j ≡ i → ⊥)
      step f true q = inl (omega arith, eqb-true (sheet_index y n) i q)
      step (inl f) false q = let l = f.0 in inl (omega arith, f.1)
      step (inr f) false q =
          inr
          (λ j h e. by_cases (dec_lt j n) (λ l. f j l e)
          (λ l. let z : j ≡ n = omega arith in eqb-false (sheet_index y n) i q (subst (λ (x : ℕ). sheet_index y x ≡ i) z e)))

  module _ (ok : valid_layout y ≡ true) where
    abbrev sheet_m : ℕ → ℕ
    sheet_m = sheet_levels y y.k

    -- ---- every sheet index is a sorted block's

    -- how many of the first n blocks have sheet index i
    abbrev marked : ℕ → ℕ → ℕ
    marked i s = cond (eqb s i) 1 0

    marks : (i : ℕ) → sum (λ j. marked i (sheet_index y j)) y.k ≡ sum (marked i) y.k
    marks i =
        let l : List ℕ = sorted sheet_m y.k in
        let at : (j : ℕ) → j < y.k → marked i (sheet_index y j) ≡ marked i (get_or l j 0) =
        λ j h. ap (marked i) (sym (get_or-take y.k y.order j 0 h) ∙ ap (λ (z : List ℕ). get_or z j 0) (same_lists (take y.k y.order) l (is_valid y ok).order)) in
        sum_same (λ j. marked i (sheet_index y j)) (λ j. marked i (get_or l j 0)) y.k at
        ∙ ap (sum (λ j. marked i (get_or l j 0))) (sym (length_sorted sheet_m y.k))
        ∙ sum_over (marked i) l ∙ over_sorted sheet_m (marked i) y.k

    pub index_at : (i : ℕ) → i < y.k → (sorted_index y y.k i < y.k) × (sheet_index y (sorted_index y y.k i) ≡ i)
    index_at i h = go (index_found y.k i)
      where
        one : marked i i ≡ 1
        one = rw (eq-eqb i i refl) refl

        go : ((sorted_index y y.k i < y.k) × (sheet_index y (sorted_index y y.k i) ≡ i)) ⊎ ((j : ℕ) → j < y.k → sheet_index y j ≡ i → ⊥)
            → (sorted_index y y.k i < y.k) × (sheet_index y (sorted_index y y.k i) ≡ i)
        go (inl f) = f
        go (inr f) =
            let none : (j : ℕ) → j < y.k → marked i (sheet_index y j) ≤ 0 = λ j l. rw (ne_eqb (sheet_index y j) i (f j l)) (omega arith) in
            absurd (omega (arith, sum_small (λ j. marked i (sheet_index y j)) 0 y.k none, marks i, sum_more (marked i) i, one, sum_le (marked i) (i + 1) y.k (omega arith)))

    -- and of one alone
    index_order : (j : ℕ) → j < y.k → sorted_index y y.k (sheet_index y j) ≡ j
    index_order j h = let a = index_at (sheet_index y j) (order_below y ok j h) in index_one y ok (sorted_index y y.k (sheet_index y j)) j a.0 h a.1

    -- the levels of the block that has sheet index i
    pub levels_index : (i : ℕ) → i < y.k → levels y (sorted_index y y.k i) ≡ sheet_m i
    levels_index i h = let a = index_at i h in sym (levels_at_lem y ok (sorted_index y y.k i) a.0) ∙ ap sheet_m a.1

    -- ---- the blocks one after the other

    module _ (l : List (List Float)) (sized : Sized y l) where
      length_order : (n : ℕ) → n ≤ y.k → length (in_sheet_order y l n) ≡ sum sheet_m n
      unfolding in_sheet_order sum
      length_order zero h = refl
      length_order (suc n) h =
          length-append (in_sheet_order y l n) (block_in l (sorted_index y y.k n))
          ∙ ap₂ (λ (a b : ℕ). a + b) (length_order n (omega arith)) (sized.each (sorted_index y y.k n) (index_at n h).0 ∙ levels_index n h)

      pub order_length : length (in_sheet_order y l y.k) ≡ y.q
      order_length = length_order y.k (omega arith) ∙ all_rows y ok

      block_among : (n : ℕ) → n ≤ y.k → (j : ℕ) → j < y.k → sheet_index y j < n → part (row_start y j) (levels y j) (in_sheet_order y l n) ≡ block_in l j
      unfolding in_sheet_order
      block_among zero h j g b = absurd (omega arith)
      block_among (suc n) h j g b =
          let rest : List Float = in_sheet_order y l n in
          let last : List Float = block_in l (sorted_index y y.k n) in
          let long : length rest ≡ sum sheet_m n = length_order n (omega arith) in
          by_cases (dec_lt (sheet_index y j) n)
          (λ m. part_left rest last (row_start y j) (levels y j)
          (omega (arith, levels_at_lem y ok j g, sum_more sheet_m (sheet_index y j), sum_le sheet_m (sheet_index y j + 1) n (omega arith)))
          ∙ block_among n (omega arith) j g m)
          (λ m. let e : sheet_index y j ≡ n = omega arith in
          let same : last ≡ block_in l j = ap (block_in l) (ap (sorted_index y y.k) (sym e) ∙ index_order j g) in
          part_right rest last (row_start y j) (levels y j) 0 (omega (arith, ap (sum sheet_m) e))
          ∙ ap (take (levels y j)) same ∙ take_all (levels y j) (block_in l j) (omega (arith, sized.each j g)))

      -- block j lies in its rows
      pub order_block : (j : ℕ) → j < y.k → part (row_start y j) (levels y j) (in_sheet_order y l y.k) ≡ block_in l j
      order_block j h = block_among y.k (omega arith) j h (order_below y ok j h)
