-- The layout of a sheet says all that the gate asks of its pairs.
use Prim.Native.Nat.{ℕ, zero, suc, ◌≤◌, ◌<◌}
use mathlib.Core.Path.{◌≡◌, refl, sym, ap, ap₂, subst, ◌∙◌}
use mathlib.Core.Bool.{Bool, true, false, ◌&&◌}
use mathlib.Core.List.{List, [], ◌∷◌, ◌++◌}
use mathlib.Core.Logic.{by_cases}
use Rattle.std.specs.Prelude.{Option}
use native.Mathlib.Decide.{dec_lt}
use native.Mathlib.Omega.{arith}
use borrow.Author.Tests.{eqb-true, eq-eqb, lt-ltb}
use lib.Dec.{eqb}
use lib.ListN.{get_or}
use Rattle.refusal.specs.declared.Refusal.{Refusal}
use Rattle.sheet.specs.declared.Counts.{Counts}
use Rattle.sheet.specs.declared.Starts.{Starts}
use Rattle.sheet.specs.Sheet.{Sheet, accepted, read_sheet}
use Rattle.sheet.specs.Whole.{Each}
use Rattle.sheet.proofs.Whole.{read_whole}
use Rattle.layout.specs.declared.Layout.{Layout}
use Rattle.layout.specs.Gate.{Verdict, pair_of}
use Rattle.layout.specs.Shapes.{Target, target, levels, across, pairs}
use Rattle.heading_format.specs.Heading.{is_sparse}
use Rattle.workspace.specs.Loaded.{count_of, of_pair, or_refused, one_each, pair_in, first_refused_pair, sorted_layout, layout_of_sheet}
use Rattle.workspace.proofs.Valid.{one_each_count, sparse_is, diagonal_is}
use Rattle.layout_gate.specs.gate_search.Search.{verdict, first}
use Rattle.layout.proofs.Made.{layout_with}

-- entries count only where each column has one
entries_same : (k rows cols : ℕ) (one : Bool) (n c : ℕ) → (one ≡ true → n ≡ c) → pair_of k rows cols one n ≡ pair_of k rows cols one c
unfolding pair_of
entries_same k rows cols true n c h = ap (λ (x : ℕ). pair_of k rows cols true x) (h refl)
entries_same k rows cols false n c h = refl

-- with more than two blocks the cells alone count
cells_alone : (k rows cols : ℕ) (one one' : Bool) (n n' : ℕ) → 2 < k → pair_of k rows cols one n ≡ pair_of k rows cols one' n'
unfolding pair_of
cells_alone k rows cols one one' n n' h = rw (lt-ltb 2 k h) refl

module _ (sheet : Sheet) where
  abbrev y : Layout
  y = layout_of_sheet sheet

  -- what the gate says of a pair, by the layout alone
  by_layout : ℕ → ℕ → Verdict
  by_layout i j = pair_of y.k (levels y i) (levels y j) y.diagonal (levels y j)

  two_blocks_lem : y.k ≡ 2 → pair_in sheet y 1 0 ≡ by_layout 1 0
  unfolding pair_in by_layout
  two_blocks_lem k =
      entries_same y.k (levels y 1) (levels y 0) (one_each sheet y 1 0) (count_of (of_pair y 1 0) sheet.zz) (levels y 0) (one_each_count sheet y 1 0)
      ∙ ap (λ (b : Bool). pair_of y.k (levels y 1) (levels y 0) b (levels y 0))
      (sym (diagonal_is sheet ∙ ap (λ (b : Bool). b && one_each sheet y 1 0) (eq-eqb y.k 2 k)))

  pair_is : (i j : ℕ) → i < y.k → j < i → pair_in sheet y i j ≡ by_layout i j
  unfolding pair_in by_layout
  pair_is i j h g =
      by_cases (dec_lt 2 y.k)
      (λ l. cells_alone y.k (levels y i) (levels y j) (one_each sheet y i j) y.diagonal (count_of (of_pair y i j) sheet.zz) (levels y j) l)
      (λ l.
      let k : y.k ≡ 2 = omega arith in
      let a : 1 ≡ i = omega arith in
      let b : 0 ≡ j = omega arith in
      subst (λ (x : ℕ). pair_in sheet y x j ≡ by_layout x j) a (subst (λ (x : ℕ). pair_in sheet y 1 x ≡ by_layout 1 x) b (two_blocks_lem k)))

  -- how the one pair is stored
  pub sparse_by_layout : y.sparse ≡ eqb y.k 2 && is_sparse (pair_of y.k (levels y 1) (levels y 0) y.diagonal (levels y 0))
  unfolding by_layout
  sparse_by_layout = sparse_is sheet ∙ go (eqb y.k 2) refl
    where
      go : (b : Bool) → eqb y.k 2 ≡ b → (b && is_sparse (pair_in sheet y 1 0)) ≡ (b && is_sparse (by_layout 1 0))
      go true e = ap is_sparse (two_blocks_lem (eqb-true y.k 2 e))
      go false e = refl

  -- ---- the search over pairs of blocks below k
  abbrev Below : Target → Type 0
  Below t = (t.row < y.k) × (t.col < t.row)

  first_is : (l : List Target) → Each Below l → first_refused_pair sheet y l ≡ first y l
  unfolding first_refused_pair first verdict by_layout
  first_is [] a = refl
  first_is (t ∷ l) a = ap₂ (λ (p : Verdict) (o : Option Refusal). or_refused p t o) (pair_is t.row t.col a.0.0 a.0.1) (first_is l a.1)

  -- every pair in turn is one
  both_below : (l r : List Target) → Each Below l → Each Below r → Each Below (l ++ r)
  both_below [] r a b = b
  both_below (t ∷ l) r a b = (a.0, both_below l r a.1 b)

  across_below : (i n : ℕ) → i < y.k → n ≤ i → Each Below (across i n)
  unfolding across
  across_below i zero h g = tt
  across_below i (suc n) h g = both_below (across i n) (target i n ∷ []) (across_below i n h (omega arith)) ((h, omega arith), tt)

  pairs_below : (n : ℕ) → n ≤ y.k → Each Below (pairs n)
  unfolding pairs
  pairs_below zero h = tt
  pairs_below (suc n) h = both_below (pairs n) (across n n) (pairs_below n (omega arith)) (across_below n n (omega arith) (omega arith))

  -- The first pair that the gate refuses is the first that it refuses by the layout.
  search_is : first_refused_pair sheet y (pairs y.k) ≡ first y (pairs y.k)
  search_is = first_is (pairs y.k) (pairs_below y.k (omega arith))

-- the same of a layout that a sheet has
pub by_sheet : (y : Layout) (sheet : Sheet) → y ≡ layout_of_sheet sheet → first y (pairs y.k) ≡ first_refused_pair sheet y (pairs y.k)
by_sheet y sheet e = rw e (sym (search_is sheet))

-- ---- a layout by its parts
abbrev made : Counts → List ℕ → List ℕ → Bool → Bool → Layout
made c m order sparse diagonal = layout_with c.n c.p c.q c.k m order sparse diagonal

made_same : (c c' : Counts) (m m' order order' : List ℕ) (sparse sparse' diagonal diagonal' : Bool) → c ≡ c' → m ≡ m' → order ≡ order' → sparse ≡ sparse'
    → diagonal ≡ diagonal' → made c m order sparse diagonal ≡ made c' m' order' sparse' diagonal'
made_same c c' m m' order order' sparse sparse' diagonal diagonal' a b d e f = cc

-- whether the one pair is stored sparse, of a layout with these parts
abbrev sparse_by : ℕ → List ℕ → Bool → Bool
sparse_by k m diagonal = eqb k 2 && is_sparse (pair_of k (get_or m 1 0) (get_or m 0 0) diagonal (get_or m 0 0))

pub whole : (s : List ℕ) (sheet : Sheet) (z : Starts) → read_sheet s ≡ accepted sheet z → (m order : List ℕ) (sparse diagonal : Bool)
    → m ≡ (layout_of_sheet sheet).m → order ≡ (layout_of_sheet sheet).order → diagonal ≡ (layout_of_sheet sheet).diagonal → sparse ≡ sparse_by z.counts.k m diagonal
    → made z.counts m order sparse diagonal ≡ layout_of_sheet sheet
unfolding layout_of_sheet sorted_layout
whole s sheet z e m order sparse diagonal a b d p =
    let y : Layout = layout_of_sheet sheet in
    let c : z.counts ≡ sheet.counts = (read_whole s sheet z e).shape.same_counts in
    made_same z.counts sheet.counts m y.m order y.order sparse y.sparse diagonal y.diagonal c a b
    (p
    ∙ ap (λ (c : Counts). sparse_by c.k m diagonal) c
    ∙ ap₂ (λ (m : List ℕ) (d : Bool). sparse_by sheet.counts.k m d) a d
    ∙ sym (sparse_by_layout sheet))
    d
