-- A sheet that load accepts has a valid layout (document 01, Records 1 to 3).
use Prim.Native.Nat.{ℕ, zero, suc, ◌+◌, ◌-◌, ◌*◌, ◌≤◌, ◌<◌}
use mathlib.Core.Path.{◌≡◌, refl, sym, ap, ap₂, subst, ◌∙◌}
use mathlib.Core.Bool.{Bool, true, false, not, ◌&&◌, cond, and-eq-true_iff}
use mathlib.Core.List.{List, [], ◌∷◌, ◌++◌}
use mathlib.Core.Logic.{◌⊎◌, inl, inr, by_cases}
use Rattle.std.specs.Prelude.{None, Ok, Err}
use native.Mathlib.Decide.{dec_lt}
use native.Mathlib.Omega.{arith}
use lib.Dec.{ltb, leb, eqb}
use lib.ListN.{length, get_or, take}
use borrow.Author.Tests.{eqb-true, eqb-false, lt-ltb, le-ltb, le-leb, lt-leb, eq-eqb, ne_eqb}
use Rattle.sheet.specs.Run.{Block, Entry}
use Rattle.sheet.specs.Sheet.{Sheet, accepted, sheet_of}
use Rattle.sheet.specs.declared.Starts.{Starts}
use Rattle.sheet.specs.Fault.{covered_rows, block_of_row, fault_number, has_slope, covers_rows, any_faulty}
use Rattle.sheet.specs.Whole.{Each, BlockInRange}
use Rattle.sheet.proofs.Whole.{read_whole, alone_read}
use Rattle.layout.specs.declared.Layout.{Layout}
use Rattle.layout.specs.declared.Storage.TheVariants.{Dense, Sparse}
use Rattle.layout.specs.declared.GateRefusal.TheVariants.{MultiblockFill, CrossGate}
use Rattle.layout.specs.Blocks.{insert, sorted, sum, each, padded}
use Rattle.layout.specs.Gate.{Verdict, thin, pair_of}
use Rattle.layout.specs.Shapes.{Target, target, levels, across, pairs}
use Rattle.layout.proofs.Sums.{sum_same, sum_front, sum_over, over_sorted, padded_at, each_at}
use Rattle.heading_format.specs.Heading.{every, bit, within, same, sheet_levels, is_dense, is_sparse, valid_pair, valid_layout}
use Rattle.heading_format.proofs.Sorted.{all_at, length_sorted, below_sorted, sorted_ext}
use Rattle.heading_format.proofs.Valid.{both, unless, every_of, every_at}
use Rattle.workspace.specs.Loaded.{
  row_start,
  count_of,
  of_pair,
  of_column,
  or_refused,
  one_each,
  pair_in,
  first_refused_pair,
  sheet_m,
  sorted_layout,
  with_storage,
  layout_of_sheet,
}

-- ---- the numbers of a list

abbrev In : ℕ → List ℕ → Type 0
In i [] = ⊥
In i (s ∷ l) = (s ≡ i) ⊎ In i l

in_at : (i : ℕ) (l : List ℕ) → In i l → (t : ℕ) × (t < length l) × (get_or l t 0 ≡ i)
in_at i [] a = absurd a
in_at i (s ∷ l) (inl e) = (0, omega arith, e)
in_at i (s ∷ l) (inr a) = let r = in_at i l a in let b = r.1 in (suc r.0, omega arith, r.2)

-- ---- the sorted list: blocks 0 to k - 1, each once

module _ (m : ℕ → ℕ) where
  in_insert : (j i : ℕ) (l : List ℕ) → In j (i ∷ l) → In j (insert m i l)
  unfolding insert
  in_insert j i [] a = a
  in_insert j i (s ∷ l) a = step (in_insert j i l) a (ltb (m s) (m i))
    where
      step : (In j (i ∷ l) → In j (insert m i l)) → In j (i ∷ s ∷ l) → (b : Bool) → In j (cond b (i ∷ s ∷ l) (s ∷ insert m i l))
      step f a true = a
      step f (inl e) false = inr (f (inl e))
      step f (inr (inl e)) false = inl e
      step f (inr (inr c)) false = inr (f (inr c))

  in_sorted : (k i : ℕ) → i < k → In i (sorted m k)
  unfolding sorted
  in_sorted zero i h = absurd (omega arith)
  in_sorted (suc k) i h =
      by_cases (dec_lt i k) (λ l. in_insert i k (sorted m k) (inr (in_sorted k i l)))
      (λ l. let e : k ≡ i = omega arith in in_insert i k (sorted m k) (inl e))

  -- each block has a place in it
  pub sorted_has : (k i : ℕ) → i < k → (t : ℕ) × (t < k) × (get_or (sorted m k) t 0 ≡ i)
  sorted_has k i h = let r = in_at i (sorted m k) (in_sorted k i h) in let b = r.1 in (r.0, omega (arith, length_sorted m k), r.2)

-- ---- lists with zeros behind them

padded_take : (n : ℕ) (l : List ℕ) → length l ≤ n → take (length l) (padded n l) ≡ l
unfolding padded
padded_take n [] h = refl
padded_take zero (x ∷ l) h = absurd (omega arith)
padded_take (suc n) (x ∷ l) h = ap (λ (z : List ℕ). x ∷ z) (padded_take n l (omega arith))

same_refl : (l : List ℕ) → same l l ≡ true
unfolding same
same_refl [] = refl
same_refl (x ∷ l) = both (eqb x x) (same l l) (eq-eqb x x refl) (same_refl l)

-- ---- the sheet's blocks: `sheet_m` is `levels_in` of them

abbrev pub levels_in : List Block → ℕ → ℕ
levels_in [] i = 0
levels_in (b ∷ l) zero = b.m
levels_in (b ∷ l) (suc i) = levels_in l i

pub sum_levels : (l : List Block) → sum (levels_in l) (length l) ≡ covered_rows l
unfolding covered_rows sum
sum_levels [] = refl
sum_levels (b ∷ l) = sum_front (levels_in (b ∷ l)) (length l) ∙ ap (λ (a : ℕ). b.m + a) (sum_levels l)

-- row c of block i is in block i
pub row_block : (l : List Block) (i c : ℕ) → i < length l → c < levels_in l i → block_of_row l (sum (levels_in l) i + c) ≡ i
unfolding block_of_row sum
row_block [] i c h g = absurd (omega arith)
row_block (b ∷ l) zero c h g = let e : 0 + c ≡ c = omega arith in rw (e, lt-ltb c b.m g) refl
row_block (b ∷ l) (suc i) c h g =
    let from : sum (levels_in (b ∷ l)) (suc i) + c ≡ b.m + (sum (levels_in l) i + c) = omega (arith, sum_front (levels_in (b ∷ l)) i) in
    let past : b.m + (sum (levels_in l) i + c) - b.m ≡ sum (levels_in l) i + c = omega arith in
    ap (block_of_row (b ∷ l)) from
    ∙ rw (le-ltb (b.m + (sum (levels_in l) i + c)) b.m (omega arith), past) (ap suc (row_block l i c (omega arith) g))

levels_range : (l : List Block) → Each BlockInRange l → (i : ℕ) → i < length l → (1 ≤ levels_in l i) × (levels_in l i ≤ 65535)
levels_range [] a i h = absurd (omega arith)
levels_range (b ∷ l) a zero h = a.0.m
levels_range (b ∷ l) a (suc i) h = levels_range l a.1 i (omega arith)

-- a sheet without a fault has a block, and its blocks cover its rows
pub no_refusal_lem : (sheet : Sheet) → fault_number sheet ≡ 0 → (1 ≤ sheet.counts.k) × (sheet.counts.q ≡ covered_rows sheet.blocks)
unfolding fault_number
no_refusal_lem sheet e =
    let r = go (eqb sheet.counts.flag 0) (eqb sheet.counts.k 0) (has_slope sheet) (covers_rows sheet) (any_faulty sheet) e in
    let some_block : sheet.counts.k ≡ 0 → ⊥ = eqb-false sheet.counts.k 0 r.0 in
    (positive sheet.counts.k some_block, eqb-true sheet.counts.q (covered_rows sheet.blocks) r.1)
  where
    go : (a b c d e : Bool) → ◌≡◌ {A = ℕ} (cond a 5 (cond b 6 (cond c 7 (cond (not d) 8 (cond e 9 0))))) 0 → (b ≡ false) × (d ≡ true)
    go true b c d e h = absurd (omega arith)
    go false true c d e h = absurd (omega arith)
    go false false true d e h = absurd (omega arith)
    go false false false false e h = absurd (omega arith)
    go false false false true e h = (refl, refl)

    positive : (n : ℕ) → (n ≡ 0 → ⊥) → 1 ≤ n
    positive zero h = absurd (h refl)
    positive (suc n) h = omega arith

-- ---- the layout of a sheet, with its blocks sorted

module _ (sheet : Sheet) (few : sheet.counts.k ≤ 8) where
  abbrev list : List ℕ
  list = sorted (sheet_m sheet) sheet.counts.k

  long : length list ≡ sheet.counts.k
  long = length_sorted (sheet_m sheet) sheet.counts.k

  pub order_at_lem : (j : ℕ) → j < sheet.counts.k → get_or (layout_of_sheet sheet).order j 0 ≡ get_or list j 0
  unfolding layout_of_sheet sorted_layout
  order_at_lem j h = padded_at 8 list j (omega (arith, few))

  -- a sorted block's levels are those of its sheet index
  pub levels_at_lem : (j : ℕ) → j < sheet.counts.k → levels (layout_of_sheet sheet) j ≡ sheet_m sheet (get_or list j 0)
  unfolding layout_of_sheet sorted_layout
  levels_at_lem j h = padded_at 8 (each (sheet_m sheet) list) j (omega (arith, few)) ∙ each_at (sheet_m sheet) list j (omega (arith, long))

  sheet_found : (n i t : ℕ) → n ≤ sheet.counts.k → t < n → get_or list t 0 ≡ i → sheet_levels (layout_of_sheet sheet) n i ≡ sheet_m sheet i
  unfolding sheet_levels
  sheet_found zero i t h l e = absurd (omega arith)
  sheet_found (suc n) i t h l e = step (λ g. sheet_found n i t (omega arith) g e) (eqb (get_or (layout_of_sheet sheet).order n 0) i) refl
    where
      step : (t < n → sheet_levels (layout_of_sheet sheet) n i ≡ sheet_m sheet i) → (b : Bool) → eqb (get_or (layout_of_sheet sheet).order n 0) i ≡ b
          → cond b (levels (layout_of_sheet sheet) n) (sheet_levels (layout_of_sheet sheet) n i) ≡ sheet_m sheet i
      step f true q =
          levels_at_lem n (omega arith)
          ∙ ap (sheet_m sheet) (sym (order_at_lem n (omega arith)) ∙ eqb-true (get_or (layout_of_sheet sheet).order n 0) i q)
      step f false q =
          by_cases (dec_lt t n) f
          (λ g.
          let z : t ≡ n = omega arith in
          absurd (eqb-false (get_or (layout_of_sheet sheet).order n 0) i q (order_at_lem n (omega arith) ∙ subst (λ (x : ℕ). get_or list x 0 ≡ i) z e)))

  -- the layout gives back the sheet's levels
  pub sheet_levels_lem : (i : ℕ) → i < sheet.counts.k → sheet_levels (layout_of_sheet sheet) sheet.counts.k i ≡ sheet_m sheet i
  sheet_levels_lem i h =
      let r = sorted_has (sheet_m sheet) sheet.counts.k i h in
      sheet_found sheet.counts.k i r.0 (omega arith) r.1 r.2

  pub order_test : same (take sheet.counts.k (layout_of_sheet sheet).order) (sorted (sheet_levels (layout_of_sheet sheet) sheet.counts.k) sheet.counts.k) ≡ true
  unfolding layout_of_sheet sorted_layout
  order_test =
      ap₂ same
      (ap (λ (n : ℕ). take n (padded 8 list)) (sym long) ∙ padded_take 8 list (omega (arith, long, few)))
      (sorted_ext (sheet_levels (layout_of_sheet sheet) sheet.counts.k) (sheet_m sheet) sheet.counts.k sheet_levels_lem)
      ∙ same_refl list

  pub total : length sheet.blocks ≡ sheet.counts.k → sum (levels (layout_of_sheet sheet)) sheet.counts.k ≡ covered_rows sheet.blocks
  total e =
      sum_same (levels (layout_of_sheet sheet)) (λ j. sheet_m sheet (get_or list j 0)) sheet.counts.k levels_at_lem
      ∙ ap (λ (n : ℕ). sum (λ j. sheet_m sheet (get_or list j 0)) n) (sym long)
      ∙ sum_over (sheet_m sheet) list
      ∙ over_sorted (sheet_m sheet) (sheet_m sheet) sheet.counts.k
      ∙ ap (λ (n : ℕ). sum (sheet_m sheet) n) (sym e)
      ∙ sum_levels sheet.blocks

  pub level_range : Each BlockInRange sheet.blocks → length sheet.blocks ≡ sheet.counts.k → (j : ℕ) → j < sheet.counts.k
      → (1 ≤ levels (layout_of_sheet sheet) j) × (levels (layout_of_sheet sheet) j ≤ 65535)
  level_range a e j h =
      let below : get_or list j 0 < sheet.counts.k = all_at (λ s. s < sheet.counts.k) list (below_sorted (sheet_m sheet) sheet.counts.k) j (omega (arith, long)) in
      let r = levels_range sheet.blocks a (get_or list j 0) (omega arith) in
      let r₀ = r.0 in
      let r₁ = r.1 in
      (omega (arith, levels_at_lem j h), omega (arith, levels_at_lem j h))

-- ---- entries: with one in each column, a pair has as many as columns

count_split : (t u v : Entry → Bool) → ((e : Entry) → bit (t e) ≡ bit (u e) + bit (v e)) → (l : List Entry) → count_of t l ≡ count_of u l + count_of v l
unfolding count_of
count_split t u v h [] = refl
count_split t u v h (e ∷ l) =
    omega (arith, one (t e) (count_of t l), one (u e) (count_of u l), one (v e) (count_of v l), h e, count_split t u v h l)
  where
    one : (b : Bool) (n : ℕ) → cond b (suc n) n ≡ bit b + n
    one true n = omega arith
    one false n = omega arith

count_none : (t : Entry → Bool) → ((e : Entry) → t e ≡ false) → (l : List Entry) → count_of t l ≡ 0
unfolding count_of
count_none t h [] = refl
count_none t h (e ∷ l) = rw (h e) (count_none t h l)

abbrev inside : ℕ → ℕ → ℕ → Bool
inside a n x = leb a x && ltb x (a + n)

-- entries in columns a to a + n - 1 and in rows b to b + m - 1, and those of column a + c
abbrev in_pair : ℕ → ℕ → ℕ → ℕ → Entry → Bool
in_pair a n b m e = inside a n e.col && inside b m e.row

abbrev pub in_column : ℕ → ℕ → ℕ → ℕ → Entry → Bool
in_column a c b m e = eqb e.col (a + c) && inside b m e.row

inside_none : (a x : ℕ) → inside a 0 x ≡ false
inside_none a x = by_cases (dec_lt x a) (λ h. rw (lt-leb a x h) refl) (λ h. let g : leb a x ≡ true = le-leb a x (omega arith) in rw (g, le-ltb x (a + 0) (omega arith)) refl)

inside_more : (a n x : ℕ) → bit (inside a (suc n) x) ≡ bit (inside a n x) + bit (eqb x (a + n))
inside_more a n x =
    by_cases (dec_lt x a)
    (λ h. rw (lt-leb a x h, ne_eqb x (a + n) (λ e. omega arith)) refl)
    (λ h.
    let g : leb a x ≡ true = le-leb a x (omega arith) in
    by_cases (dec_lt x (a + n))
    (λ l. rw (g, lt-ltb x (a + suc n) (omega arith), lt-ltb x (a + n) l, ne_eqb x (a + n) (λ e. omega arith)) refl)
    (λ l.
    by_cases (dec_lt (a + n) x)
    (λ r. rw (g, le-ltb x (a + suc n) (omega arith), le-ltb x (a + n) (omega arith), ne_eqb x (a + n) (λ e. omega arith)) refl)
    (λ r. rw (g, lt-ltb x (a + suc n) (omega arith), le-ltb x (a + n) (omega arith), eq-eqb x (a + n) (omega arith)) refl)))

both_more : (s t u r : Bool) → bit s ≡ bit t + bit u → bit (s && r) ≡ bit (t && r) + bit (u && r)
both_more true true true r e = absurd (omega arith)
both_more true true false true e = refl
both_more true true false false e = refl
both_more true false true true e = refl
both_more true false true false e = refl
both_more true false false r e = absurd (omega arith)
both_more false true u r e = absurd (omega arith)
both_more false false true r e = absurd (omega arith)
both_more false false false r e = refl

pub count_columns : (l : List Entry) (a n b m : ℕ) → ((c : ℕ) → c < n → count_of (in_column a c b m) l ≡ 1) → count_of (in_pair a n b m) l ≡ n
count_columns l a zero b m h = count_none (in_pair a 0 b m) (λ e. rw (inside_none a e.col) refl) l
count_columns l a (suc n) b m h =
    omega (
      arith,
      count_split (in_pair a (suc n) b m) (in_pair a n b m) (in_column a n b m)
          (λ e. both_more (inside a (suc n) e.col) (inside a n e.col) (eqb e.col (a + n)) (inside b m e.row) (inside_more a n e.col)) l,
      count_columns l a n b m (λ c g. h c (omega arith)),
      h n (omega arith),
    )

pub one_each_count : (sheet : Sheet) (y : Layout) (i j : ℕ) → one_each sheet y i j ≡ true → count_of (of_pair y i j) sheet.zz ≡ levels y j
one_each_count sheet y i j e =
    count_columns sheet.zz (row_start y j) (levels y j) (row_start y i) (levels y i)
    (λ c h. eqb-true (count_of (of_column y i j c) sheet.zz) 1 (every_at (λ c. eqb (count_of (of_column y i j c) sheet.zz) 1) (levels y j) e c h))

-- ---- the gate does not see how the pair is stored

module _ (sheet : Sheet) (y : Layout) (sparse diagonal : Bool) where
  stored_levels : (n i : ℕ) → sheet_levels (with_storage y sparse diagonal) n i ≡ sheet_levels y n i
  unfolding sheet_levels
  stored_levels zero i = refl
  stored_levels (suc n) i = ap (λ (x : ℕ). cond (eqb (get_or y.order n 0) i) (levels y n) x) (stored_levels n i)

  stored_start : (j : ℕ) → row_start (with_storage y sparse diagonal) j ≡ row_start y j
  stored_start j = sum_same (sheet_levels (with_storage y sparse diagonal) y.k) (sheet_levels y y.k) (get_or y.order j 0) (λ i h. stored_levels y.k i)

  stored_one : (i j : ℕ) → one_each sheet (with_storage y sparse diagonal) i j ≡ one_each sheet y i j
  stored_one i j = ap₂ (λ (a b : ℕ). every (λ c. eqb (count_of (in_column a c b (levels y i)) sheet.zz) 1) (levels y j)) (stored_start j) (stored_start i)

  stored_pair : (i j : ℕ) → pair_in sheet (with_storage y sparse diagonal) i j ≡ pair_in sheet y i j
  unfolding pair_in
  stored_pair i j =
      ap₂ (λ (a b : ℕ). pair_of y.k (levels y i) (levels y j) (every (λ c. eqb (count_of (in_column a c b (levels y i)) sheet.zz) 1) (levels y j)) (count_of (in_pair a (levels y j) b (levels y i)) sheet.zz))
      (stored_start j) (stored_start i)

-- ---- no pair is refused

module _ (sheet : Sheet) (y : Layout) where
  allowed_parts : (l r : List Target) → first_refused_pair sheet y (l ++ r) ≡ None → (first_refused_pair sheet y l ≡ None) × (first_refused_pair sheet y r ≡ None)
  unfolding first_refused_pair
  allowed_parts [] r e = (refl, e)
  allowed_parts (t ∷ l) r e = step (allowed_parts l r) (pair_in sheet y t.row t.col) e
    where
      step : (first_refused_pair sheet y (l ++ r) ≡ None → (first_refused_pair sheet y l ≡ None) × (first_refused_pair sheet y r ≡ None)) → (p : Verdict)
          → or_refused p t (first_refused_pair sheet y (l ++ r)) ≡ None → (or_refused p t (first_refused_pair sheet y l) ≡ None) × (first_refused_pair sheet y r ≡ None)
      step f (Ok stored) e = f e
      step f (Err refused) e = absurd (let z : ◌≡◌ {A = ℕ} 0 1 = cc in omega arith)

  allowed_across : (i n : ℕ) → first_refused_pair sheet y (across i n) ≡ None → (j : ℕ) → j < n → first_refused_pair sheet y (target i j ∷ []) ≡ None
  unfolding across
  allowed_across i zero e j h = absurd (omega arith)
  allowed_across i (suc n) e j h =
      let r = allowed_parts (across i n) (target i n ∷ []) e in
      by_cases (dec_lt j n) (λ l. allowed_across i n r.0 j l)
      (λ l. let z : n ≡ j = omega arith in subst (λ (x : ℕ). first_refused_pair sheet y (target i x ∷ []) ≡ None) z r.1)

  pub allowed_pairs : (k : ℕ) → first_refused_pair sheet y (pairs k) ≡ None → (i j : ℕ) → i < k → j < i → first_refused_pair sheet y (target i j ∷ []) ≡ None
  unfolding pairs
  allowed_pairs zero e i j h g = absurd (omega arith)
  allowed_pairs (suc k) e i j h g =
      let r = allowed_parts (pairs k) (across k k) e in
      by_cases (dec_lt i k) (λ l. allowed_pairs k r.0 i j l g)
      (λ l. let z : k ≡ i = omega arith in subst (λ (x : ℕ). first_refused_pair sheet y (target x j ∷ []) ≡ None) z (allowed_across k k r.1 j (omega arith)))

-- the gate's answer with these tests: few cells, more than two blocks, one entry in each column and thin
abbrev answer : Bool → Bool → Bool → Verdict
answer a b c = cond a (Ok Dense) (cond b (Err MultiblockFill) (cond c (Ok Sparse) (Err CrossGate)))

two_blocks_lem : (t : Target) (a b one thin thin' : Bool) → (one ≡ true → thin ≡ thin') → or_refused (answer a b (one && thin)) t None ≡ None
    → cond (is_sparse (answer a b (one && thin))) (is_sparse (answer a b (one && thin'))) (is_dense (answer a b (one && thin'))) ≡ true
two_blocks_lem t true b one thin thin' h e = refl
two_blocks_lem t false true one thin thin' h e = absurd (let z : ◌≡◌ {A = ℕ} 0 1 = cc in omega arith)
two_blocks_lem t false false false thin thin' h e = absurd (let z : ◌≡◌ {A = ℕ} 0 1 = cc in omega arith)
two_blocks_lem t false false true false thin' h e = absurd (let z : ◌≡◌ {A = ℕ} 0 1 = cc in omega arith)
two_blocks_lem t false false true true thin' h e = rw (sym (h refl)) refl

more_blocks : (t : Target) (a b c d : Bool) → b ≡ true → or_refused (answer a b c) t None ≡ None → is_dense (answer a b d) ≡ true
more_blocks t true b c d h e = refl
more_blocks t false true c d h e = absurd (let z : ◌≡◌ {A = ℕ} 0 1 = cc in omega arith)
more_blocks t false false c d h e = absurd (let z : ◌≡◌ {A = ℕ} 0 1 = cc in omega arith)

module _ (sheet : Sheet) (y : Layout) (sp : y.sparse ≡ eqb y.k 2 && is_sparse (pair_in sheet y 1 0)) (di : y.diagonal ≡ eqb y.k 2 && one_each sheet y 1 0) where
  one_pair : y.k ≡ 2 → first_refused_pair sheet y (target 1 0 ∷ []) ≡ None → valid_pair y 1 0 ≡ true
  unfolding first_refused_pair pair_in pair_of
  one_pair k e =
      let q : eqb y.k 2 ≡ true = eq-eqb y.k 2 k in
      let s : y.sparse ≡ is_sparse (pair_in sheet y 1 0) = sp ∙ ap (λ (b : Bool). b && is_sparse (pair_in sheet y 1 0)) q in
      let d : y.diagonal ≡ one_each sheet y 1 0 = di ∙ ap (λ (b : Bool). b && one_each sheet y 1 0) q in
      let cells : ℕ = levels y 1 * levels y 0 in
      ap₂ (λ (s d : Bool). let pair = pair_of y.k (levels y 1) (levels y 0) d (levels y 0) in cond s (is_sparse pair) (is_dense pair)) s d
      ∙ two_blocks_lem (target 1 0) (leb cells 100000) (ltb 2 y.k) (one_each sheet y 1 0) (thin (count_of (of_pair y 1 0) sheet.zz) cells) (thin (levels y 0) cells)
      (λ o. ap (λ (n : ℕ). thin n cells) (one_each_count sheet y 1 0 o)) e

  other_pair : (i j : ℕ) → 2 < y.k → first_refused_pair sheet y (target i j ∷ []) ≡ None → valid_pair y i j ≡ true
  unfolding first_refused_pair pair_in pair_of
  other_pair i j k e =
      let q : eqb y.k 2 ≡ false = ne_eqb y.k 2 (λ z. omega arith) in
      let s : y.sparse ≡ false = sp ∙ ap (λ (b : Bool). b && is_sparse (pair_in sheet y 1 0)) q in
      let cells : ℕ = levels y i * levels y j in
      ap (λ (s : Bool). let pair = pair_of y.k (levels y i) (levels y j) y.diagonal (levels y j) in cond s (is_sparse pair) (is_dense pair)) s
      ∙ more_blocks (target i j) (leb cells 100000) (ltb 2 y.k) (one_each sheet y i j && thin (count_of (of_pair y i j) sheet.zz) cells)
      (y.diagonal && thin (levels y j) cells) (lt-ltb 2 y.k k) e

  pub pair_valid : (i j : ℕ) → i < y.k → j < i → first_refused_pair sheet y (target i j ∷ []) ≡ None → valid_pair y i j ≡ true
  pair_valid i j h g e =
      by_cases (dec_lt 2 y.k) (λ l. other_pair i j l e)
      (λ l.
      let k : y.k ≡ 2 = omega arith in
      let a : 1 ≡ i = omega arith in
      let b : 0 ≡ j = omega arith in
      subst (λ (x : ℕ). valid_pair y x j ≡ true) a
      (subst (λ (x : ℕ). valid_pair y 1 x ≡ true) b
      (one_pair k (subst (λ (x : ℕ). first_refused_pair sheet y (target 1 x ∷ []) ≡ None) (sym b) (subst (λ (x : ℕ). first_refused_pair sheet y (target x j ∷ []) ≡ None) (sym a) e)))))

-- ---- how the layout says that it is stored

pub sparse_is : (sheet : Sheet) → (layout_of_sheet sheet).sparse ≡ eqb (layout_of_sheet sheet).k 2 && is_sparse (pair_in sheet (layout_of_sheet sheet) 1 0)
unfolding layout_of_sheet
sparse_is sheet = ap (λ (p : Verdict). eqb (sorted_layout sheet).k 2 && is_sparse p) (sym (stored_pair sheet (sorted_layout sheet) (layout_of_sheet sheet).sparse (layout_of_sheet sheet).diagonal 1 0))

pub diagonal_is : (sheet : Sheet) → (layout_of_sheet sheet).diagonal ≡ eqb (layout_of_sheet sheet).k 2 && one_each sheet (layout_of_sheet sheet) 1 0
unfolding layout_of_sheet
diagonal_is sheet = ap (λ (b : Bool). eqb (sorted_layout sheet).k 2 && b) (sym (stored_one sheet (sorted_layout sheet) (layout_of_sheet sheet).sparse (layout_of_sheet sheet).diagonal 1 0))

-- ---- a valid layout from its facts

pub valid_of : (y : Layout) → (1 ≤ y.n) × (y.n ≤ 1000000000) → (1 ≤ y.p) × (y.p ≤ 32) → (1 ≤ y.k) × (y.k ≤ 8)
    → ((j : ℕ) → j < y.k → (1 ≤ levels y j) × (levels y j ≤ 65535)) → same (take y.k y.order) (sorted (sheet_levels y y.k) y.k) ≡ true
    → y.q ≡ sum (levels y) y.k → (y.diagonal ≡ true → y.k ≡ 2) → (y.sparse ≡ true → (y.diagonal ≡ true) × (y.k ≡ 2))
    → ((i j : ℕ) → i < y.k → j < i → valid_pair y i j ≡ true) → valid_layout y ≡ true
unfolding valid_layout
valid_of y n p k level order q diagonal sparse pair =
    both _ _
    (both _ _
    (both _ _
    (both _ _
    (both _ _
    (both _ _
    (both _ _ (both _ _ (is_within 1 1000000000 y.n n) (is_within 1 32 y.p p)) (is_within 1 8 y.k k))
    (every_of (λ j. within 1 65535 (levels y j)) y.k (λ j h. is_within 1 65535 (levels y j) (level j h))))
    order)
    (eq-eqb y.q (sum (levels y) y.k) q))
    (unless y.diagonal (eqb y.k 2) (λ d. eq-eqb y.k 2 (diagonal d))))
    (unless y.sparse (y.diagonal && eqb y.k 2) (λ s. both y.diagonal (eqb y.k 2) (sparse s).0 (eq-eqb y.k 2 (sparse s).1))))
    (every_of (λ i. every (λ j. valid_pair y i j) i) y.k (λ i h. every_of (λ j. valid_pair y i j) i (λ j g. pair i j h g)))
  where
    is_within : (low high x : ℕ) → (low ≤ x) × (x ≤ high) → within low high x ≡ true
    is_within low high x h = both (leb low x) (leb x high) (le-leb low x h.0) (le-leb x high h.1)

-- a sparse pair has one entry in each column
sparse_one : (a b one thin : Bool) → is_sparse (answer a b (one && thin)) ≡ true → one ≡ true
sparse_one true b one thin e = absurd (let z : ◌≡◌ {A = ℕ} 0 1 = cc in omega arith)
sparse_one false true one thin e = absurd (let z : ◌≡◌ {A = ℕ} 0 1 = cc in omega arith)
sparse_one false false true thin e = refl
sparse_one false false false thin e = e

pub sparse_columns : (sheet : Sheet) → (layout_of_sheet sheet).sparse ≡ true → ((layout_of_sheet sheet).k ≡ 2) × (one_each sheet (layout_of_sheet sheet) 1 0 ≡ true)
unfolding pair_in pair_of
sparse_columns sheet s =
    let y : Layout = layout_of_sheet sheet in
    let t = (and-eq-true_iff (eqb y.k 2) (is_sparse (pair_in sheet y 1 0))).0 (sym (sparse_is sheet) ∙ s) in
    let cells : ℕ = levels y 1 * levels y 0 in (
      eqb-true y.k 2 t.0,
      sparse_one (leb cells 100000) (ltb 2 y.k) (one_each sheet y 1 0) (thin (count_of (of_pair y 1 0) sheet.zz) cells) t.1,
    )

-- ---- the layout of a sheet that load accepts is valid

-- Counts in range, sorted blocks that cover the rows, and pairs that the gate allows.
pub shaped_valid : (sheet : Sheet) → (1 ≤ sheet.counts.n) × (sheet.counts.n ≤ 1000000000) → (1 ≤ sheet.counts.p) × (sheet.counts.p ≤ 32)
    → (1 ≤ sheet.counts.k) × (sheet.counts.k ≤ 8) → Each BlockInRange sheet.blocks → length sheet.blocks ≡ sheet.counts.k
    → sheet.counts.q ≡ covered_rows sheet.blocks
    → ((i j : ℕ) → i < sheet.counts.k → j < i → first_refused_pair sheet (layout_of_sheet sheet) (target i j ∷ []) ≡ None) → valid_layout (layout_of_sheet sheet) ≡ true
unfolding layout_of_sheet sorted_layout
shaped_valid sheet n p k blocks count covers gate =
    let y : Layout = layout_of_sheet sheet in
    valid_of (layout_of_sheet sheet) n p k (level_range sheet k.1 blocks count) (order_test sheet k.1) (covers ∙ sym (total sheet k.1 count))
    (λ d. eqb-true y.k 2 ((and-eq-true_iff (eqb y.k 2) (one_each sheet y 1 0)).0 (sym (diagonal_is sheet) ∙ d)).0)
    (λ s. let t = sparse_columns sheet s in (diagonal_is sheet ∙ both (eqb y.k 2) (one_each sheet y 1 0) (eq-eqb y.k 2 t.0) t.1, t.0))
    (λ i j h g. pair_valid sheet (layout_of_sheet sheet) (sparse_is sheet) (diagonal_is sheet) i j h g (gate i j h g))

-- the same of bytes that are read
pub sheet_valid : (s : List ℕ) (sheet : Sheet) (starts : Starts) → sheet_of s ≡ accepted sheet starts → fault_number sheet ≡ 0
    → first_refused_pair sheet (layout_of_sheet sheet) (pairs (layout_of_sheet sheet).k) ≡ None → valid_layout (layout_of_sheet sheet) ≡ true
unfolding layout_of_sheet sorted_layout
sheet_valid s sheet starts read fine gate =
    let shape = (read_whole s sheet starts (alone_read s sheet starts read).0).shape in
    let r = no_refusal_lem sheet fine in
    shaped_valid sheet shape.counts.n shape.counts.p (r.0, shape.counts.k) shape.blocks shape.blocks_length r.1
    (allowed_pairs sheet (layout_of_sheet sheet) sheet.counts.k gate)
