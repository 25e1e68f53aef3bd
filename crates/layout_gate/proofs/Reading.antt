-- What is read of a held sheet is its layout.
use Prim.Native.Nat.{ℕ, zero, suc, ◌+◌, ◌^◌, ◌≤◌, ◌<◌}
use mathlib.Core.Path.{◌≡◌, refl, sym, ap, ap₂, ◌∙◌}
use mathlib.Core.Bool.{Bool, false, ◌&&◌}
use mathlib.Core.List.{List, [], ◌∷◌}
use native.Mathlib.Omega.{arith}
use borrow.Author.Tests.{eq-eqb, ne_eqb}
use lib.Dec.{eqb}
use lib.ListN.{get_or}
use Rattle.sheet.specs.declared.Counts.{Counts}
use Rattle.sheet.specs.declared.Starts.{Starts}
use Rattle.sheet.specs.Run.{Block}
use Rattle.sheet.specs.Sheet.{Sheet, accepted, read_sheet}
use Rattle.sheet.proofs.Whole.{read_whole}
use Rattle.layout.specs.declared.Layout.{Layout}
use Rattle.layout.specs.Blocks.{sorted, sum, each, padded}
use Rattle.layout.specs.Shapes.{levels}
use Rattle.heading_format.specs.Heading.{sheet_levels}
use Rattle.heading_format.proofs.Sorted.{All, all_map, all_at, length_sorted, below_sorted, sorted_ext}
use Rattle.layout.proofs.Sums.{sum_same, sum_small, padded_at}
use Rattle.sheet_checks.specs.levels.Held.{Holds, level_list}
use Rattle.sheet_checks.proofs.levels.Sums.{levels_small}
use Rattle.layout_gate.specs.column_entries.Columns.{each_one}
use Rattle.workspace.specs.Loaded.{row_start, one_each, sheet_m, sorted_layout, layout_of_sheet}
use Rattle.workspace.proofs.Valid.{levels_in, order_at_lem, levels_at_lem, sheet_levels_lem, diagonal_is}
use Rattle.layout_gate.specs.Ordered.{Ordered}

-- ---- functions that agree below n
each_same : (f g : ℕ → ℕ) (l : List ℕ) → All (λ s. f s ≡ g s) l → each f l ≡ each g l
unfolding each
each_same f g [] a = refl
each_same f g (x ∷ l) a = ap₂ (λ (y : ℕ) (z : List ℕ). y ∷ z) a.0 (each_same f g l a.1)

each_small : (f : ℕ → ℕ) → ((x : ℕ) → f x ≤ 65535) → (l : List ℕ) (i : ℕ) → get_or (each f l) i 0 ≤ 65535
unfolding each
each_small f h [] i = omega arith
each_small f h (x ∷ l) zero = h x
each_small f h (x ∷ l) (suc i) = each_small f h l i

-- ---- the sheet's blocks: `sheet_m` is `levels_in` of them
level_list_lem : (l : List Block) (i : ℕ) → get_or (level_list l) i 0 ≡ levels_in l i
unfolding level_list
level_list_lem [] i = refl
level_list_lem (b ∷ l) zero = refl
level_list_lem (b ∷ l) (suc i) = level_list_lem l i

module _ (s : List ℕ) (sheet : Sheet) (z : Starts) (e : read_sheet s ≡ accepted sheet z) where
  -- at most eight blocks, as many as the places say
  few : sheet.counts.k ≤ 8
  few = (read_whole s sheet z e).shape.counts.k

  pub same_k : z.counts.k ≡ sheet.counts.k
  same_k = ap (λ (c : Counts). c.k) (read_whole s sheet z e).shape.same_counts

  -- ---- whether block 1 is diagonal: not with another k
  pub not_two : (z.counts.k ≡ 2 → ⊥) → false ≡ (layout_of_sheet sheet).diagonal
  unfolding layout_of_sheet sorted_layout
  not_two n = sym (diagonal_is sheet ∙ ap (λ (b : Bool). b && one_each sheet (layout_of_sheet sheet) 1 0) (ne_eqb sheet.counts.k 2 (λ x. n (same_k ∙ x))))

  module _ (m : List ℕ) (q : m ≡ padded 8 (level_list sheet.blocks)) where
    -- the levels of a block, by its sheet index
    abbrev of : ℕ → ℕ
    of i = get_or m i 0

    of_is : (i : ℕ) → i < 8 → of i ≡ sheet_m sheet i
    of_is i h = ap (λ (l : List ℕ). get_or l i 0) q ∙ padded_at 8 (level_list sheet.blocks) i h ∙ level_list_lem sheet.blocks i

    pub of_small : (i : ℕ) → of i ≤ 65535
    of_small i = rw q (levels_small 8 sheet.blocks (read_whole s sheet z e).shape.blocks i)

    sorted_is : sorted of z.counts.k ≡ sorted (sheet_m sheet) sheet.counts.k
    sorted_is = ap (sorted of) same_k ∙ sorted_ext of (sheet_m sheet) sheet.counts.k (λ i h. of_is i (omega (arith, few)))

    -- ---- the sorted order, and the levels in it
    pub order_is : padded 8 (sorted of z.counts.k) ≡ (layout_of_sheet sheet).order
    unfolding layout_of_sheet sorted_layout
    order_is = ap (padded 8) sorted_is

    pub levels_are : padded 8 (each of (sorted of z.counts.k)) ≡ (layout_of_sheet sheet).m
    unfolding layout_of_sheet sorted_layout
    levels_are =
        ap (padded 8)
        (ap (each of) sorted_is
        ∙ each_same of (sheet_m sheet) (sorted (sheet_m sheet) sheet.counts.k)
        (all_map (λ i. i < sheet.counts.k) (λ i. of i ≡ sheet_m sheet i) (λ i h. of_is i (omega (arith, few))) (sorted (sheet_m sheet) sheet.counts.k) (below_sorted (sheet_m sheet) sheet.counts.k)))

    module _ (order : List ℕ) (o : order ≡ (layout_of_sheet sheet).order) (j : ℕ) (h : j < sheet.counts.k) where
      -- the sheet index, the levels and the first row of sorted block j
      there : get_or order j 0 ≡ get_or (sorted (sheet_m sheet) sheet.counts.k) j 0
      there = ap (λ (l : List ℕ). get_or l j 0) o ∙ order_at_lem sheet few j h

      pub order_below : get_or order j 0 < sheet.counts.k
      order_below =
          rw there
          (all_at (λ i. i < sheet.counts.k) (sorted (sheet_m sheet) sheet.counts.k) (below_sorted (sheet_m sheet) sheet.counts.k) j
          (omega (arith, length_sorted (sheet_m sheet) sheet.counts.k)))

      level_is : of (get_or order j 0) ≡ levels (layout_of_sheet sheet) j
      level_is = of_is (get_or order j 0) (omega (arith, order_below, few)) ∙ ap (sheet_m sheet) there ∙ sym (levels_at_lem sheet few j h)

      start_is : sum of (get_or order j 0) ≡ row_start (layout_of_sheet sheet) j
      unfolding layout_of_sheet sorted_layout
      start_is =
          sum_same of (sheet_levels (layout_of_sheet sheet) sheet.counts.k) (get_or order j 0)
          (λ i g. of_is i (omega (arith, order_below, few)) ∙ sym (sheet_levels_lem sheet few i (omega (arith, order_below))))
          ∙ ap (λ (l : List ℕ). sum (sheet_levels (layout_of_sheet sheet) sheet.counts.k) (get_or l j 0)) o

    -- ---- and with k = 2 where each level of the larger has one entry
    pub two : z.counts.k ≡ 2 → (order : List ℕ) → order ≡ (layout_of_sheet sheet).order → (from at : ℕ) → from ≡ sum of (get_or order 0 0)
        → at ≡ sum of (get_or order 1 0) → each_one from (of (get_or order 0 0)) at (of (get_or order 1 0)) sheet.zz ≡ (layout_of_sheet sheet).diagonal
    unfolding layout_of_sheet sorted_layout
    two k order o from at f a =
        let y : Layout = layout_of_sheet sheet in
        let h₀ : 0 < sheet.counts.k = omega (arith, same_k) in
        let h₁ : 1 < sheet.counts.k = omega (arith, same_k) in
        ap₂ (λ (f a : ℕ). each_one f (of (get_or order 0 0)) a (of (get_or order 1 0)) sheet.zz) (f ∙ start_is order o 0 h₀) (a ∙ start_is order o 1 h₁)
        ∙ ap₂ (λ (c r : ℕ). each_one (row_start y 0) c (row_start y 1) r sheet.zz) (level_is order o 0 h₀) (level_is order o 1 h₁)
        ∙ sym (diagonal_is sheet ∙ ap (λ (b : Bool). b && one_each sheet y 1 0) (eq-eqb sheet.counts.k 2 (sym same_k ∙ k)))

  -- levels are small
  pub layout_small : (i : ℕ) → i < 8 → levels (layout_of_sheet sheet) i ≤ 65535
  layout_small i h =
      let m = padded 8 (level_list sheet.blocks) in
      let l = each (λ x. get_or m x 0) (sorted (λ x. get_or m x 0) z.counts.k) in
      omega (
        arith,
        ap (λ (x : List ℕ). get_or x i 0) (levels_are m refl),
        padded_at 8 l i h,
        each_small (λ x. get_or m x 0) (of_small m refl) (sorted (λ x. get_or m x 0) z.counts.k) i,
      )

-- ---- what the function that asks for it is given: k = 2 blocks in sorted order
module _ (s : List ℕ) (z : Starts) (m order : List ℕ) (p : Holds s z × Ordered s z m order) where
  pub given_small : (i : ℕ) → i < 8 → get_or m i 0 ≤ 65535
  given_small i h = let e = p.0.1 in of_small s p.0.0 z e m (p.1 p.0.0 e).0 i

  module _ (k : z.counts.k ≡ 2) (j : ℕ) (h : j < 2) where
    pub given_below : get_or order j 0 < 2
    given_below =
        let e = p.0.1 in
        let a = p.1 p.0.0 e in
        let n = same_k s p.0.0 z e in
        omega (arith, order_below s p.0.0 z e m a.0 order a.1 j (omega arith))

    pub given_room : (t : ℕ) → t ≡ sum (λ i. get_or m i 0) (get_or order j 0) → t + get_or m (get_or order j 0) 0 < 2 ^ 64
    given_room t q =
        let b = given_below in
        omega (arith, sum_small (λ i. get_or m i 0) 65535 (get_or order j 0) (λ i g. given_small i (omega arith)), given_small (get_or order j 0) (omega arith))

-- ---- tests for k = 2
pub not_sparse : (k : ℕ) (b : Bool) → (k ≡ 2 → ⊥) → false ≡ eqb k 2 && b
not_sparse k b n = rw (ne_eqb k 2 n) refl

pub is_two : (k : ℕ) (r b : Bool) → k ≡ 2 → r ≡ b → r ≡ eqb k 2 && b
is_two k r b e q = rw (eq-eqb k 2 e) q
