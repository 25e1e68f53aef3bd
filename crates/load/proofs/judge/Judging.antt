-- What is answered to bytes before any list is lent, and what load makes of it: the same refusal, or all that is left is 12.
use Prim.Native.Nat.{ℕ, ◌≤◌}
use mathlib.Core.Path.{◌≡◌, refl, sym, ap, ◌∙◌}
use mathlib.Core.Bool.{Bool, true, false, cond}
use mathlib.Core.List.{List}
use mathlib.Core.Logic.{◌⊎◌, inl, inr}
use Rattle.std.specs.Prelude.{Option, None, Some, Result, Ok, Err}
use native.Mathlib.Omega.{arith}
use borrow.Author.Tests.{eqb-true, eqb-false}
use lib.Dec.{eqb}
use lib.Ieee.{Float}
use Rattle.refusal.specs.declared.Refusal.{Refusal}
use Rattle.refusal.specs.Numbers.{refusal}
use Rattle.refusal.proofs.Meaning.{differ}
use Rattle.sheet.specs.declared.Starts.{Starts}
use Rattle.sheet.specs.Sheet as Sheets
use Rattle.sheet.specs.Sheet.{Sheet, accepted, read_sheet, sheet_of}
use Rattle.sheet.specs.Fault.{fault_number, named_line}
use Rattle.sheet.specs.Answer.{checked, judged, refused_with}
use Rattle.sheet.proofs.Answers.{same_refusal, judged_read, judged_refused, checked_fine}
use Rattle.sheet.proofs.Numbers.{alone_refusal, few_faults}
use Rattle.sheet.proofs.Whole.{alone_read}
use Rattle.layout.specs.declared.Layout.{Layout}
use Rattle.layout.specs.Shapes.{pairs}
use Rattle.workspace.specs.Answers.{Outcome, unchanged, untouched}
use Rattle.workspace.specs.Loaded.{first_refused_pair, layout_of_sheet}
use Rattle.workspace.specs.Load.{after_gate, load_sheet, load_of}
use Rattle.load_numbers.specs.sheet_words.Ready.{Ready}
use Rattle.load.specs.declared.judge.Passed.{Passed}
use Rattle.load.specs.judge.Judged.{passed, after_pairs, layout_judged, judged_sheet, judged_of}

-- ---- 10 and 11
pub layout_is : (sheet : Sheet) {y : Layout} {o : Option Refusal} → y ≡ layout_of_sheet sheet → o ≡ first_refused_pair sheet y (pairs y.k) → after_pairs o y ≡ layout_judged sheet
unfolding layout_judged
layout_is sheet {y} q e =
    ap (λ (x : Option Refusal). after_pairs x y) e ∙ ap (λ (z : Layout). after_pairs (first_refused_pair sheet z (pairs z.k)) z) q

-- what the gate answers says whether the sheet passes
pub gate_judged : (sheet : Sheet) (z : Starts) (y : Layout) (o : Option Refusal) → y ≡ layout_of_sheet sheet → o ≡ first_refused_pair sheet y (pairs y.k)
    → after_pairs o (passed z y) ≡ judged_sheet sheet z
unfolding judged_sheet
gate_judged sheet z y o q found =
    ap (λ (x : Option Refusal). after_pairs x (passed z y)) found
    ∙ ap (λ (x : Layout). after_pairs (first_refused_pair sheet x (pairs x.k)) (passed z x)) q

-- a sheet passes with its layout, or is refused as the layout is
module _ (sheet : Sheet) (z : Starts) where
  pub sheet_is : {y : Layout} → Ok y ≡ layout_judged sheet → Ok (passed z y) ≡ judged_sheet sheet z
  unfolding layout_judged judged_sheet
  sheet_is {y} e = go (first_refused_pair sheet (layout_of_sheet sheet) (pairs (layout_of_sheet sheet).k)) e
    where
      go : (o : Option Refusal) → ◌≡◌ {A = Result Layout Refusal} (Ok y) (after_pairs o (layout_of_sheet sheet)) → Ok (passed z y) ≡ after_pairs o (passed z (layout_of_sheet sheet))
      go None q = let same : y ≡ layout_of_sheet sheet = cc in ap (λ (x : Layout). Ok (passed z x)) same
      go (Some r) q = absurd (differ q)

  pub sheet_refused : {r : Refusal} → Err r ≡ layout_judged sheet → Err r ≡ judged_sheet sheet z
  unfolding layout_judged judged_sheet
  sheet_refused {r} e = go (first_refused_pair sheet (layout_of_sheet sheet) (pairs (layout_of_sheet sheet).k)) e
    where
      go : (o : Option Refusal) → ◌≡◌ {A = Result Layout Refusal} (Err r) (after_pairs o (layout_of_sheet sheet)) → Err r ≡ after_pairs o (passed z (layout_of_sheet sheet))
      go None q = absurd (differ (sym q))
      go (Some x) q = let same : r ≡ x = cc in ap Err same

  -- a layout that passes is that of the sheet, and no pair is refused
  pub layout_passed : {y : Layout} → Ok y ≡ layout_judged sheet → (y ≡ layout_of_sheet sheet) × (first_refused_pair sheet y (pairs y.k) ≡ None)
  unfolding layout_judged
  layout_passed {y} e = go (first_refused_pair sheet (layout_of_sheet sheet) (pairs (layout_of_sheet sheet).k)) refl e
    where
      go : (o : Option Refusal) → first_refused_pair sheet (layout_of_sheet sheet) (pairs (layout_of_sheet sheet).k) ≡ o → ◌≡◌ {A = Result Layout Refusal} (Ok y) (after_pairs o (layout_of_sheet sheet))
          → (y ≡ layout_of_sheet sheet) × (first_refused_pair sheet y (pairs y.k) ≡ None)
      go None f q = let same : y ≡ layout_of_sheet sheet = cc in (same, ap (λ (x : Layout). first_refused_pair sheet x (pairs x.k)) same ∙ f)
      go (Some r) f q = absurd (differ q)

-- ---- the reader's answer: a sheet that goes on, or a refusal
-- what the functions that read the sheet again ask
pub to_read : (s : List ℕ) (z : Starts) → judged (sheet_of s) ≡ Ok z → (sheet : Sheet) × (read_sheet s ≡ accepted sheet z) × (fault_number sheet ≡ 0)
to_read s z a = let g = judged_read (sheet_of s) z a in (g.0, (alone_read s g.0 z g.1).0, g.2)

pub read_judged : (s : List ℕ) (z : Starts) (j : Result Passed Refusal) → judged (sheet_of s) ≡ Ok z → ((sheet : Sheet) → read_sheet s ≡ accepted sheet z → j ≡ judged_sheet sheet z) → j ≡ judged_of s
unfolding judged_of
read_judged s z j a f =
    let g = judged_read (sheet_of s) z a in
    f g.0 (alone_read s g.0 z g.1).0 ∙ sym (checked_fine (λ number line. Err (refusal number line 0)) judged_sheet (sheet_of s) g.0 z g.1 g.2)

pub unread_judged : (s : List ℕ) (number line : ℕ) → judged (sheet_of s) ≡ refused_with number line → Err (refusal number line 0) ≡ judged_of s
unfolding judged_of
unread_judged s number line a = sym (judged_refused (λ number line. Err (refusal number line 0)) judged_sheet (sheet_of s) number line a)

-- a refusal of the reader is one of 1 to 9
pub unread_number : (s : List ℕ) (number line : ℕ) → judged (sheet_of s) ≡ refused_with number line → (1 ≤ number) × (number ≤ 9)
unread_number s number line = go (sheet_of s) refl
  where
    go : (o : Sheets.Outcome) → sheet_of s ≡ o → judged o ≡ refused_with number line → (1 ≤ number) × (number ≤ 9)
    go (Sheets.refused n l) e a = let same = (same_refusal n l number line a).0 in known same (alone_refusal s n l e)
      where
        known : n ≡ number → ((n ≡ 1) × (l ≡ 0)) ⊎ ((2 ≤ n) × (n ≤ 4) × (1 ≤ l)) → (1 ≤ number) × (number ≤ 9)
        known q (inl x) = (omega (arith, x.0), omega (arith, x.0))
        known q (inr x) = (omega (arith, x.0), omega (arith, x.1))
    go (accepted sheet starts) e a = fault (eqb (fault_number sheet) 0) refl a
      where
        fault : (t : Bool) → eqb (fault_number sheet) 0 ≡ t → cond t (Ok starts) (refused_with (fault_number sheet) (named_line sheet)) ≡ refused_with number line → (1 ≤ number) × (number ≤ 9)
        fault true u q = absurd (let x : ◌≡◌ {A = ℕ} 0 1 = cc in omega arith)
        fault false u q =
            let same = (same_refusal (fault_number sheet) (named_line sheet) number line q).0 in
            let some : fault_number sheet ≡ 0 → ⊥ = eqb-false (fault_number sheet) 0 u in
            (omega arith, omega (arith, few_faults sheet))

-- ---- what load makes of a sheet without a fault
-- 12 is left
pub passed_loads : (sheet : Sheet) (y : Layout) (h : List ℕ) (w : List Float) → y ≡ layout_of_sheet sheet → first_refused_pair sheet y (pairs y.k) ≡ None
    → load_sheet sheet h w ≡ after_gate None sheet y h w
unfolding load_sheet
passed_loads sheet y h w q e =
    ap (λ (x : Layout). after_gate (first_refused_pair sheet x (pairs x.k)) sheet x h w) (sym q)
    ∙ ap (λ (o : Option Refusal). after_gate o sheet y h w) e

passed_same : (z z' : Starts) (y y' : Layout) → ◌≡◌ {A = Result Passed Refusal} (Ok (passed z y)) (Ok (passed z' y')) → (z ≡ z') × (y ≡ y')
passed_same z z' y y' e = let q : passed z y ≡ passed z' y' = cc in (ap (λ (p : Passed). p.starts) q, ap (λ (p : Passed). p.layout) q)

module _ (sheet : Sheet) (z : Starts) where
  pub sheet_passed : (z' : Starts) (y : Layout) → judged_sheet sheet z ≡ Ok (passed z' y)
      → (z ≡ z') × (y ≡ layout_of_sheet sheet) × (first_refused_pair sheet y (pairs y.k) ≡ None)
  unfolding judged_sheet
  sheet_passed z' y e = go (first_refused_pair sheet (layout_of_sheet sheet) (pairs (layout_of_sheet sheet).k)) refl e
    where
      go : (o : Option Refusal) → first_refused_pair sheet (layout_of_sheet sheet) (pairs (layout_of_sheet sheet).k) ≡ o → after_pairs o (passed z (layout_of_sheet sheet)) ≡ Ok (passed z' y)
          → (z ≡ z') × (y ≡ layout_of_sheet sheet) × (first_refused_pair sheet y (pairs y.k) ≡ None)
      go (Some r) f q = absurd (let x : ◌≡◌ {A = ℕ} 0 1 = cc in omega arith)
      go None f q =
          let same = passed_same z z' (layout_of_sheet sheet) y q in
          (same.0, sym same.1, ap (λ (x : Layout). first_refused_pair sheet x (pairs x.k)) (sym same.1) ∙ f)

  pub refused_loads : (r : Refusal) (h : List ℕ) (w : List Float) → judged_sheet sheet z ≡ Err r → load_sheet sheet h w ≡ unchanged h w r
  unfolding judged_sheet load_sheet
  refused_loads r h w e = go (first_refused_pair sheet (layout_of_sheet sheet) (pairs (layout_of_sheet sheet).k)) e
    where
      go : (o : Option Refusal) → after_pairs o (passed z (layout_of_sheet sheet)) ≡ Err r → after_gate o sheet (layout_of_sheet sheet) h w ≡ unchanged h w r
      go (Some f) q = let same : f ≡ r = cc in ap (unchanged h w) same
      go None q = absurd (let x : ◌≡◌ {A = ℕ} 0 1 = cc in omega arith)

-- ---- and of any bytes
-- a sheet that passes, by what is read
abbrev judged_by : Sheets.Outcome → Result Passed Refusal
judged_by o = checked (λ number line. Err (refusal number line 0)) judged_sheet o

passed_fine : (o : Sheets.Outcome) (z : Starts) (y : Layout) → judged_by o ≡ Ok (passed z y)
    → (sheet : Sheet) × (o ≡ accepted sheet z) × (fault_number sheet ≡ 0) × (y ≡ layout_of_sheet sheet) × (first_refused_pair sheet y (pairs y.k) ≡ None)
passed_fine (Sheets.refused number line) z y e = absurd (let x : ◌≡◌ {A = ℕ} 0 1 = cc in omega arith)
passed_fine (accepted sheet starts) z y e = go (eqb (fault_number sheet) 0) refl e
  where
    go : (t : Bool) → eqb (fault_number sheet) 0 ≡ t → cond t (judged_sheet sheet starts) (Err (refusal (fault_number sheet) (named_line sheet) 0)) ≡ Ok (passed z y)
        → (found : Sheet) × (accepted sheet starts ≡ accepted found z) × (fault_number found ≡ 0) × (y ≡ layout_of_sheet found) × (first_refused_pair found y (pairs y.k) ≡ None)
    go true u q = let p = sheet_passed sheet starts z y q in (sheet, ap (accepted sheet) p.0, eqb-true (fault_number sheet) 0 u, p.1, p.2)
    go false u q = absurd (let x : ◌≡◌ {A = ℕ} 0 1 = cc in omega arith)

module _ (s : List ℕ) where
  module _ (z : Starts) (y : Layout) (e : judged_of s ≡ Ok (passed z y)) where
    fine : (sheet : Sheet) × (sheet_of s ≡ accepted sheet z) × (fault_number sheet ≡ 0) × (y ≡ layout_of_sheet sheet) × (first_refused_pair sheet y (pairs y.k) ≡ None)
    unfolding judged_of
    fine = passed_fine (sheet_of s) z y e

    pub judged_ready : Ready s z y
    judged_ready = (fine.0, (alone_read s fine.0 z fine.1).0, fine.2, fine.3, fine.4)

    pub judged_loads : (h : List ℕ) (w : List Float) → (sheet : Sheet) × (read_sheet s ≡ accepted sheet z) × (load_of s h w ≡ after_gate None sheet y h w)
    unfolding load_of
    judged_loads h w = (
      fine.0,
      (alone_read s fine.0 z fine.1).0,
      checked_fine (λ number line. untouched h w number line 0) (λ sheet starts. load_sheet sheet h w) (sheet_of s) fine.0 z fine.1 fine.2
          ∙ passed_loads fine.0 y h w fine.3 fine.4,
    )

    -- what is made of the sheet that is read is what load makes of the bytes
    pub loaded_out : (h : List ℕ) (w : List Float) (o : Outcome) → ((sheet : Sheet) → read_sheet s ≡ accepted sheet z → o ≡ after_gate None sheet y h w) → o ≡ load_of s h w
    loaded_out h w o f = let g = judged_loads h w in f g.0 g.1 ∙ sym g.2

  pub refused_out : (r : Refusal) (h : List ℕ) (w : List Float) → judged_of s ≡ Err r → load_of s h w ≡ unchanged h w r
  unfolding judged_of load_of
  refused_out r h w e = go (sheet_of s) e
    where
      go : (o : Sheets.Outcome) → judged_by o ≡ Err r → checked (λ number line. untouched h w number line 0) (λ sheet starts. load_sheet sheet h w) o ≡ unchanged h w r
      go (Sheets.refused number line) q = let same : refusal number line 0 ≡ r = cc in ap (unchanged h w) same
      go (accepted sheet starts) q = fault (eqb (fault_number sheet) 0) q
        where
          fault : (t : Bool) → cond t (judged_sheet sheet starts) (Err (refusal (fault_number sheet) (named_line sheet) 0)) ≡ Err r
              → cond t (load_sheet sheet h w) (untouched h w (fault_number sheet) (named_line sheet) 0) ≡ unchanged h w r
          fault true q = refused_loads sheet starts r h w q
          fault false q = let same : refusal (fault_number sheet) (named_line sheet) 0 ≡ r = cc in ap (unchanged h w) same
