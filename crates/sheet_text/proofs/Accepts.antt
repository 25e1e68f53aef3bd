-- Load accepts every sheet that no listed condition refuses, and no other; and what it refuses, it refuses with a listed number.
use Prim.Native.Nat.{ℕ, zero, suc, ◌≤◌, ◌<◌}
use mathlib.Core.Path.{◌≡◌, refl, sym, ap, subst, ◌∙◌}
use mathlib.Core.Logic.{◌⊎◌, inl, inr}
use mathlib.Core.Bool.{Bool, true, false, not, cond, true≢false}
use mathlib.Core.List.{List, [], ◌∷◌, ◌++◌}
use Rattle.std.specs.Prelude.{Option, None, Some, Ok, Err}
use native.Mathlib.Omega.{arith}
use borrow.Author.Tests.{eqb-true, eqb-false, ne_eqb}
use lib.Dec.{eqb}
use lib.Ieee.{Float}
use Rattle.refusal.specs.declared.Refusal.{Refusal}
use Rattle.refusal.specs.Numbers.{refusal, refuse, numbers_of}
use Rattle.refusal.proofs.Meaning.{differ}
use Rattle.refusal.proofs.Sheet.{sheet_number, nine_line}
use Rattle.sheet.specs.declared.Starts.{Starts}
use Rattle.sheet.specs.Sheet.{Sheet, accepted, refused, sheet_of}
use Rattle.sheet.specs.Sheet as Sheets
use Rattle.sheet.specs.Fault.{Faulty, has_slope, covers_rows, any_faulty, covered_rows, fault_number, named_line, FirstFaulty}
use Rattle.sheet.specs.Answer.{checked}
use Rattle.sheet.specs.Whole.{Each}
use Rattle.sheet.proofs.Faults.{faulty_line_lem, none_faulty, lines_rise, nine_first}
use Rattle.sheet.proofs.Numbers.{alone_refusal, long_refused, few_faults}
use Rattle.layout.specs.declared.Layout.{Layout}
use Rattle.layout.specs.declared.GateRefusal.{GateRefusal}
use Rattle.layout.specs.declared.GateRefusal.TheVariants.{MultiblockFill, CrossGate}
use Rattle.layout.specs.Gate.{Verdict, gate_number}
use Rattle.layout.specs.Shapes.{Target, target, across, pairs}
use Rattle.workspace.specs.Answers.{untouched}
use Rattle.workspace.specs.Loaded.{pair_in, or_refused, first_refused_pair, sorted_layout, layout_of_sheet}
use Rattle.workspace.specs.Load.{has_room, after_gate, load_sheet, load_of}
use Rattle.sheet_text.specs.Listed.{
  Listed,
  too_long,
  at_line,
  not_intercept_only,
  empty_re,
  slopes,
  dim_mismatch,
  faulty,
  multiblock_fill,
  cross_gate,
  too_short,
}
use Rattle.sheet.proofs.Whole.{not_accepted, alone_read}
use Rattle.workspace.proofs.Valid.{allowed_pairs}
use Rattle.sheet_text.proofs.Long.{one_long}
use Rattle.std.specs.Prelude.{Result, Ok, Err}

-- ---- the pairs of k blocks: (i, j) with j < i < k
abbrev Below : ℕ → Target → Type 0
Below k t = (t.row < k) × (t.col < t.row)

both_below : (k : ℕ) (l r : List Target) → Each (Below k) l → Each (Below k) r → Each (Below k) (l ++ r)
both_below k [] r a b = b
both_below k (t ∷ l) r a b = (a.0, both_below k l r a.1 b)

across_below : (k i n : ℕ) → i < k → n ≤ i → Each (Below k) (across i n)
unfolding across
across_below k i zero h g = tt
across_below k i (suc n) h g = both_below k (across i n) (target i n ∷ []) (across_below k i n h (omega arith)) ((h, omega arith), tt)

pairs_below : (k n : ℕ) → n ≤ k → Each (Below k) (pairs n)
unfolding pairs
pairs_below k zero h = tt
pairs_below k (suc n) h = both_below k (pairs n) (across n n) (pairs_below k n (omega arith)) (across_below k n n (omega arith) (omega arith))

module _ (sheet : Sheet) (y : Layout) where
  -- the refusal found is that of one of the pairs
  abbrev Found : ℕ → Refusal → Type 0
  Found k r = (i : ℕ) × (j : ℕ) × (e : GateRefusal) × (i < k) × (j < i) × (pair_in sheet y i j ≡ Err e) × (refusal (gate_number e) i j ≡ r)

  found : (k : ℕ) (l : List Target) → Each (Below k) l → (r : Refusal) → first_refused_pair sheet y l ≡ Some r → Found k r
  unfolding first_refused_pair
  found k [] a r e = absurd (let z : ◌≡◌ {A = ℕ} 0 1 = cc in omega arith)
  found k (t ∷ l) a r e = go (found k l a.1 r) (pair_in sheet y t.row t.col) refl e
    where
      go : (first_refused_pair sheet y l ≡ Some r → Found k r) → (p : Verdict) → pair_in sheet y t.row t.col ≡ p → or_refused p t (first_refused_pair sheet y l) ≡ Some r → Found k r
      go f (Ok stored) q e = f e
      go f (Err x) q e = let z : refusal (gate_number x) t.row t.col ≡ r = cc in (t.row, t.col, x, a.0.0, a.0.1, q, z)

  -- the gate does not refuse the pair: so it is with each pair of k blocks, where none is found
  abbrev Allowed : ℕ → ℕ → Type 0
  Allowed i j = (r : GateRefusal) → pair_in sheet y i j ≡ Err r → ⊥

  alone_allowed : (i j : ℕ) → first_refused_pair sheet y (target i j ∷ []) ≡ None → Allowed i j
  unfolding first_refused_pair
  alone_allowed i j e r q =
      let z : Some (refusal (gate_number r) i j) ≡ None = sym (ap (λ (p : Verdict). or_refused p (target i j) None) q) ∙ e in
      let o : ◌≡◌ {A = ℕ} 0 1 = cc in
      omega arith

  -- and back, of one pair
  pub allowed_alone : (i j : ℕ) → Allowed i j → first_refused_pair sheet y (target i j ∷ []) ≡ None
  unfolding first_refused_pair
  allowed_alone i j h = go (pair_in sheet y i j) refl
    where
      go : (p : Verdict) → pair_in sheet y i j ≡ p → or_refused p (target i j) None ≡ None
      go (Ok stored) e = refl
      go (Err r) e = absurd (h r e)

  pairs_allowed : (k : ℕ) → first_refused_pair sheet y (pairs k) ≡ None → (i j : ℕ) → i < k → j < i → Allowed i j
  pairs_allowed k e i j h g = alone_allowed i j (allowed_pairs sheet y k e i j h g)

-- ---- 5 to 9 by their tests, in the order in which load looks
abbrev chain : Bool → Bool → Bool → Bool → Bool → ℕ
chain a b c d f = cond a 5 (cond b 6 (cond c 7 (cond (not d) 8 (cond f 9 0))))

-- 5 to 8 do not apply
record Clear (sheet : Sheet) : Type 0 where
  flag : eqb sheet.counts.flag 0 ≡ false
  k : eqb sheet.counts.k 0 ≡ false
  slope : has_slope sheet ≡ false
  covers : covers_rows sheet ≡ true

none_of : (sheet : Sheet) → fault_number sheet ≡ 0 → Clear sheet
unfolding fault_number
none_of sheet e = go (eqb sheet.counts.flag 0) (eqb sheet.counts.k 0) (has_slope sheet) (covers_rows sheet) (any_faulty sheet) refl refl refl refl e
  where
    go : (a b c d f : Bool) → eqb sheet.counts.flag 0 ≡ a → eqb sheet.counts.k 0 ≡ b → has_slope sheet ≡ c → covers_rows sheet ≡ d → chain a b c d f ≡ 0 → Clear sheet
    go true b c d f p q r s e = absurd (omega arith)
    go false true c d f p q r s e = absurd (omega arith)
    go false false true d f p q r s e = absurd (omega arith)
    go false false false false f p q r s e = absurd (omega arith)
    go false false false true f p q r s e = record { flag = p; k = q; slope = r; covers = s }

module _ (s h : List ℕ) (w : List Float) where
  -- the bytes hold a sheet that no test of load refuses
  record Fine (sheet : Sheet) (starts : Starts) : Type 0 where
    read : sheet_of s ≡ accepted sheet starts
    whole : fault_number sheet ≡ 0
    gate : first_refused_pair sheet (layout_of_sheet sheet) (pairs (layout_of_sheet sheet).k) ≡ None
    room : has_room (layout_of_sheet sheet) h w ≡ true

  -- ---- an answer: accepted, and all is fine; or refused with a number that is listed
  abbrev Says : Result Unit Refusal → Type 0
  Says a = ((a ≡ (Ok tt)) × (sheet : Sheet) × (starts : Starts) × Fine sheet starts) ⊎ ((r : Refusal) × (a ≡ Err r) × Listed s h w (numbers_of r).number)

  -- a refusal of the sheet has its number
  by_sheet : (number line : ℕ) → 1 ≤ number → number ≤ 9 → Listed s h w number → Listed s h w (numbers_of (refusal number line 0)).number
  by_sheet number line l u = subst (Listed s h w) (sym (sheet_number number line l u))

  few_numbers : (number line : ℕ) → sheet_of s ≡ refused number line → (1 ≤ number) × (number ≤ 9)
  few_numbers number line e = go (alone_refusal s number line e)
    where
      go : ((number ≡ 1) × (line ≡ 0)) ⊎ ((2 ≤ number) × (number ≤ 4) × (1 ≤ line)) → (1 ≤ number) × (number ≤ 9)
      go (inl (n, l)) = (omega arith, omega arith)
      go (inr r) = (omega (arith, r.0), omega (arith, r.1))

  -- 1 to 4
  pub bytes_listed : (number line : ℕ) → sheet_of s ≡ refused number line → Listed s h w number
  bytes_listed number line e = go (alone_refusal s number line e)
    where
      go : ((number ≡ 1) × (line ≡ 0)) ⊎ ((2 ≤ number) × (number ≤ 4) × (1 ≤ line)) → Listed s h w number
      go (inl (n, l)) = subst (Listed s h w) (sym n) (too_long (one_long s (e ∙ rw (n, l) refl)))
      go (inr r) = at_line number line e r.0

  module _ (sheet : Sheet) (starts : Starts) (read : sheet_of s ≡ accepted sheet starts) where
    -- 5 to 9
    sheet_listed : (number : ℕ) → 0 < number → fault_number sheet ≡ number → Listed s h w number
    unfolding fault_number
    sheet_listed number positive e =
        go (eqb sheet.counts.flag 0) (eqb sheet.counts.k 0) (has_slope sheet) (covers_rows sheet) (any_faulty sheet) refl refl refl refl refl e
      where
        go : (a b c d f : Bool) → eqb sheet.counts.flag 0 ≡ a → eqb sheet.counts.k 0 ≡ b → has_slope sheet ≡ c → covers_rows sheet ≡ d → any_faulty sheet ≡ f
            → chain a b c d f ≡ number → Listed s h w number
        go true b c d f pa pb pc pd pf e = subst (Listed s h w) e (not_intercept_only sheet starts read (eqb-true _ _ pa))
        go false true c d f pa pb pc pd pf e = subst (Listed s h w) e (empty_re sheet starts read (eqb-true _ _ pb))
        go false false true d f pa pb pc pd pf e = subst (Listed s h w) e (slopes sheet starts read pc)
        go false false false false f pa pb pc pd pf e = subst (Listed s h w) e (dim_mismatch sheet starts read (eqb-false _ _ pd))
        go false false false true true pa pb pc pd pf e = let l = faulty_line_lem sheet pf in subst (Listed s h w) e (faulty sheet starts read l.0 l.1)
        go false false false true false pa pb pc pd pf e = absurd (omega arith)

    -- 10 and 11
    pair_listed : (r : Refusal) → first_refused_pair sheet (layout_of_sheet sheet) (pairs (layout_of_sheet sheet).k) ≡ Some r → Listed s h w (numbers_of r).number
    unfolding layout_of_sheet sorted_layout
    pair_listed r e =
        let f = found sheet (layout_of_sheet sheet) sheet.counts.k (pairs sheet.counts.k) (pairs_below sheet.counts.k sheet.counts.k (omega arith)) r e in
        subst (λ (x : Refusal). Listed s h w (numbers_of x).number) f.6 (go f.0 f.1 f.2 f.3 f.4 f.5)
      where
        go : (i j : ℕ) (e : GateRefusal) → i < sheet.counts.k → j < i → pair_in sheet (layout_of_sheet sheet) i j ≡ Err e → Listed s h w (numbers_of (refusal (gate_number e) i j)).number
        go i j MultiblockFill a b q = multiblock_fill sheet starts read i j a b q
        go i j CrossGate a b q = cross_gate sheet starts read i j a b q

    -- a sheet that 1 to 9 do not refuse: 10 to 12, or all is fine
    sheet_says : fault_number sheet ≡ 0 → Says (load_sheet sheet h w).answer
    unfolding load_sheet
    sheet_says whole = let y : Layout = layout_of_sheet sheet in go (first_refused_pair sheet y (pairs y.k)) refl (has_room y h w) refl
      where
        go : (g : Option Refusal) → first_refused_pair sheet (layout_of_sheet sheet) (pairs (layout_of_sheet sheet).k) ≡ g → (b : Bool) → has_room (layout_of_sheet sheet) h w ≡ b
            → Says (after_gate g sheet (layout_of_sheet sheet) h w).answer
        go (Some r) e b q = inr (r, refl, pair_listed r e)
        go None e true q = inl (rw q refl, sheet, starts, record { read = read; whole = whole; gate = e; room = q })
        go None e false q = inr (refusal 12 0 0, rw q refl, too_short sheet starts read q)

    checked_says : (b : Bool) → eqb (fault_number sheet) 0 ≡ b → Says (cond b (load_sheet sheet h w) (untouched h w (fault_number sheet) (named_line sheet) 0)).answer
    checked_says true e = sheet_says (eqb-true (fault_number sheet) 0 e)
    checked_says false e =
        let n : 0 < fault_number sheet = some_number (eqb-false (fault_number sheet) 0 e) in
        inr (
          refusal (fault_number sheet) (named_line sheet) 0,
          refl,
          by_sheet (fault_number sheet) (named_line sheet) (omega arith) (few_faults sheet) (sheet_listed (fault_number sheet) n refl),
        )
      where
        some_number : (fault_number sheet ≡ 0 → ⊥) → 0 < fault_number sheet
        some_number f = omega arith

  parsed_says : (p : Sheets.Outcome) → sheet_of s ≡ p → Says (checked (λ number line. untouched h w number line 0) (λ sheet starts. load_sheet sheet h w) p).answer
  parsed_says (refused number line) e = let n = few_numbers number line e in inr (refusal number line 0, refl, by_sheet number line n.0 n.1 (bytes_listed number line e))
  parsed_says (accepted sheet starts) e = checked_says sheet starts e (eqb (fault_number sheet) 0) refl

  says : Says (load_of s h w).answer
  unfolding load_of
  says = parsed_says (sheet_of s) refl

  -- ---- where all is fine, nothing is listed
  module _ (sheet : Sheet) (starts : Starts) (f : Fine sheet starts) where
    -- the sheet of these bytes is this one
    this : (other : Sheet) (more : Starts) → sheet_of s ≡ accepted other more → other ≡ sheet
    this other more e = let q : accepted other more ≡ accepted sheet starts = sym e ∙ f.read in cc

    pair_free : (other : Sheet) → other ≡ sheet → (r : GateRefusal) (i j : ℕ) → i < other.counts.k → j < i → pair_in other (layout_of_sheet other) i j ≡ Err r → ⊥
    unfolding layout_of_sheet sorted_layout
    pair_free other q r i j a b g =
        pairs_allowed sheet (layout_of_sheet sheet) sheet.counts.k f.gate i j (subst (λ (x : Sheet). i < x.counts.k) q a) b r
        (subst (λ (x : Sheet). pair_in x (layout_of_sheet x) i j ≡ Err r) q g)

    none_listed : (n : ℕ) → Listed s h w n → ⊥
    none_listed n (too_long g) = not_accepted 1 0 sheet starts (sym (long_refused s g) ∙ f.read)
    none_listed n (at_line number line e g) = not_accepted number line sheet starts (sym e ∙ f.read)
    none_listed n (not_intercept_only other more e g) =
        eqb-false _ _ (none_of sheet f.whole).flag (subst (λ (x : Sheet). x.counts.flag ≡ 0) (this other more e) g)
    none_listed n (empty_re other more e g) = eqb-false _ _ (none_of sheet f.whole).k (subst (λ (x : Sheet). x.counts.k ≡ 0) (this other more e) g)
    none_listed n (slopes other more e g) =
        true≢false (sym (subst (λ (x : Sheet). has_slope x ≡ true) (this other more e) g) ∙ (none_of sheet f.whole).slope)
    none_listed n (dim_mismatch other more e g) =
        subst (λ (x : Sheet). x.counts.q ≡ covered_rows x.blocks → ⊥) (this other more e) g (eqb-true _ _ (none_of sheet f.whole).covers)
    none_listed n (faulty other more e line g) = none_faulty sheet f.whole line (subst (λ (x : Sheet). Faulty x line) (this other more e) g)
    none_listed n (multiblock_fill other more e i j a b g) = pair_free other (this other more e) MultiblockFill i j a b g
    none_listed n (cross_gate other more e i j a b g) = pair_free other (this other more e) CrossGate i j a b g
    none_listed n (too_short other more e g) =
        true≢false (sym f.room ∙ subst (λ (x : Sheet). has_room (layout_of_sheet x) h w ≡ false) (this other more e) g)

  -- THE CLAIM, both ways: accepted is what no row of the table refuses.
  pub accepted_iff : ((load_of s h w).answer ≡ (Ok tt) → (n : ℕ) → Listed s h w n → ⊥) × (((n : ℕ) → Listed s h w n → ⊥) → (load_of s h w).answer ≡ (Ok tt))
  accepted_iff = go says
    where
      go : Says (load_of s h w).answer
          → ((load_of s h w).answer ≡ (Ok tt) → (n : ℕ) → Listed s h w n → ⊥) × (((n : ℕ) → Listed s h w n → ⊥) → (load_of s h w).answer ≡ (Ok tt))
      go (inl (a, sheet, starts, f)) = (λ e. none_listed sheet starts f, λ free. a)
      go (inr (r, a, x)) = (λ e. absurd (differ (sym e ∙ a)), λ free. absurd (free (numbers_of r).number x))

  -- A refused answer names a row of the table whose condition holds.
  pub refused_listed : (r : Refusal) → (load_of s h w).answer ≡ Err r → Listed s h w (numbers_of r).number
  refused_listed r e = go says
    where
      go : Says (load_of s h w).answer → Listed s h w (numbers_of r).number
      go (inl f) = absurd (differ (sym f.0 ∙ e))
      go (inr (t, a, x)) =
          let q : ◌≡◌ {A = Result Unit Refusal} (Err t) (Err r) = sym a ∙ e in let z : t ≡ r = cc in subst (λ (u : Refusal). Listed s h w (numbers_of u).number) z x

  -- ---- 9 names the first faulty line (document 02, item 1)
  -- it comes only from row 9: of a sheet that is read, with a fault
  of_nine : (n : ℕ) → Listed s h w n → n ≡ 9 → (sheet : Sheet) × (starts : Starts) × (sheet_of s ≡ accepted sheet starts) × (fault_number sheet ≡ 0 → ⊥)
  of_nine n (too_long g) e = absurd (omega arith)
  of_nine n (at_line number line r g) e = absurd (no (alone_refusal s number line r))
    where
      no : ((number ≡ 1) × (line ≡ 0)) ⊎ ((2 ≤ number) × (number ≤ 4) × (1 ≤ line)) → ⊥
      no (inl x) = omega (arith, x.0)
      no (inr x) = omega (arith, x.1)
  of_nine n (not_intercept_only sheet starts r g) e = absurd (omega arith)
  of_nine n (empty_re sheet starts r g) e = absurd (omega arith)
  of_nine n (slopes sheet starts r g) e = absurd (omega arith)
  of_nine n (dim_mismatch sheet starts r g) e = absurd (omega arith)
  of_nine n (faulty sheet starts r line g) e = (sheet, starts, r, λ z. none_faulty sheet z line g)
  of_nine n (multiblock_fill sheet starts r i j a b g) e = absurd (omega arith)
  of_nine n (cross_gate sheet starts r i j a b g) e = absurd (omega arith)
  of_nine n (too_short sheet starts r g) e = absurd (omega arith)

  -- THE CLAIM: the line named is faulty, and no earlier one is.
  pub nine_names_first : (r : Refusal) → (load_of s h w).answer ≡ Err r → (numbers_of r).number ≡ 9
      → (sheet : Sheet) × (starts : Starts) × (sheet_of s ≡ accepted sheet starts) × FirstFaulty sheet (numbers_of r).first
  unfolding load_of
  nine_names_first r e nine =
      let f = of_nine (numbers_of r).number (refused_listed r e) nine in
      let sheet : Sheet = f.0 in
      let come : Result Unit Refusal = refuse (fault_number sheet) (named_line sheet) 0 in
      let same : come ≡ Err r =
      sym
      (ap (λ (p : Sheets.Outcome). (checked (λ number line. untouched h w number line 0) (λ sheet starts. load_sheet sheet h w) p).answer) f.2
      ∙ ap (λ (b : Bool). (cond b (load_sheet sheet h w) (untouched h w (fault_number sheet) (named_line sheet) 0)).answer) (ne_eqb (fault_number sheet) 0 f.3))
      ∙ e in
      let is : refusal (fault_number sheet) (named_line sheet) 0 ≡ r = cc in
      let number : fault_number sheet ≡ 9 =
      sym (sheet_number (fault_number sheet) (named_line sheet) (positive f.3) (few_faults sheet)) ∙ ap (λ (x : Refusal). (numbers_of x).number) is ∙ nine in
      let line : named_line sheet ≡ (numbers_of r).first =
      sym (nine_line (fault_number sheet) (named_line sheet) number) ∙ ap (λ (x : Refusal). (numbers_of x).first) is in (
        sheet,
        f.1,
        f.2,
        subst (FirstFaulty sheet) line (nine_first sheet (lines_rise s sheet f.1 (alone_read s sheet f.1 f.2).0) number),
      )
    where
      positive : {n : ℕ} → (n ≡ 0 → ⊥) → 1 ≤ n
      positive f = omega arith
