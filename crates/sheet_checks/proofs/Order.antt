-- 5 to 9 in their order: each answer, from the tests that came before it.
use Rattle.std.specs.Prelude.{Option, Some, None, Result, Ok, Err}
use Prim.Native.Nat.{ℕ, zero, suc, ◌+◌, ◌<◌, ◌≤◌}
use mathlib.Core.Path.{◌≡◌, refl, sym, ◌∙◌, ap, subst}
use mathlib.Core.Bool.{Bool, true, false, not, ◌||◌, cond, false≢true}
use mathlib.Core.List.{List, [], ◌∷◌}
use native.Mathlib.Omega.{arith}
use borrow.Author.Tests.{eq-eqb, ne_eqb, eqb-true, eqb-false, lt-ltb, le-ltb}
use lib.Dec.{ltb, eqb}
use lib.ListN.{length, get_or}
use Rattle.sheet.specs.declared.Counts.{Counts}
use Rattle.sheet.specs.declared.SheetRefusal.{SheetRefusal}
use Rattle.sheet.specs.declared.Line.{Line}
use Rattle.sheet.specs.declared.Starts.{Starts}
use Rattle.sheet.specs.Line.{zz_tag, pair_line}
use Rattle.sheet.specs.Run.{Entry, entry_in, kept_from}
use Rattle.sheet.specs.Sheet.{Sheet, Outcome, accepted, refused, read_sheet, sheet_of}
use Rattle.sheet.specs.Whole.{Each, Shape}
use Rattle.sheet.specs.Fault.{any_of, covered_rows, has_slope, covers_rows, is_fault, any_faulty, first_line, faulty_line, fault_number}
use Rattle.sheet.specs.Answer.{reading_of, judged, refused_with}
use Rattle.sheet.proofs.Whole.{read_whole, alone_read}
use Rattle.layout.specs.Blocks.{padded, sum}
use Rattle.sheet_checks.specs.levels.Held.{Holds, level_list}
use Rattle.sheet_checks.specs.mirror_scan.Mirror.{line_of}
use Rattle.sheet_checks.proofs.levels.Sums.{levels_sum, levels_small}

-- what a test for a difference says
differ : (a b : ℕ) → not (eqb a b) ≡ true → a ≡ b → ⊥
differ a b h q = false≢true (rw (eq-eqb a b q) at h)

agree : (a b : ℕ) → not (eqb a b) ≡ false → a ≡ b
agree a b h = go (eqb a b) refl h
  where
    go : (t : Bool) → eqb a b ≡ t → not t ≡ false → a ≡ b
    go true q k = eqb-true a b q
    go false q k = absurd (false≢true (sym k))

-- Every line's number is above 0, so that the first faulty line is 0 exactly where none is faulty.
abbrev Numbered : List Entry → Type 0
Numbered = Each (λ (x : Entry). 0 < x.line)

kept_numbered : (read : ℕ → Line) (n line at : ℕ) → 0 < line → Numbered (kept_from read entry_in n line at)
unfolding kept_from
kept_numbered read zero line at h = tt
kept_numbered read (suc n) line at h = (h, kept_numbered read n (line + 1) (read at).next (omega arith))

any_first : (test : Entry → Bool) (l : List Entry) → Numbered l → any_of test l ≡ ltb 0 (first_line test l)
unfolding any_of first_line
any_first test [] h = refl
any_first test (x ∷ rest) h = go (test x) (any_first test rest h.1)
  where
    go : (t : Bool) → any_of test rest ≡ ltb 0 (first_line test rest) → t || any_of test rest ≡ ltb 0 (cond t x.line (first_line test rest))
    go true more = sym (lt-ltb 0 x.line h.0)
    go false more = more

-- which line there is, or none
some_line : (line n : ℕ) → Some line ≡ line_of n → (0 < n) × (line ≡ n)
some_line line n e = go (eqb n 0) refl e
  where
    go : (t : Bool) → eqb n 0 ≡ t → ◌≡◌ {A = Option ℕ} (Some line) (cond t None (Some n)) → (0 < n) × (line ≡ n)
    go true q h = let x : ◌≡◌ {A = ℕ} 0 1 = cc in absurd (omega arith)
    go false q h = let f : n ≡ 0 → ⊥ = eqb-false n 0 q in (omega arith, cc)

no_line : (n : ℕ) → None ≡ line_of n → n ≡ 0
no_line n e = go (eqb n 0) refl e
  where
    go : (t : Bool) → eqb n 0 ≡ t → ◌≡◌ {A = Option ℕ} None (cond t None (Some n)) → n ≡ 0
    go true q h = eqb-true n 0 q
    go false q h = let x : ◌≡◌ {A = ℕ} 0 1 = cc in absurd (omega arith)

module _ (s : List ℕ) {z : Starts} (e : (sheet : Sheet) × (read_sheet s ≡ accepted sheet z)) where
  -- the sheet as it is read, and its shape
  read : read_sheet s ≡ accepted e.0 z
  read = e.1

  pub holds : Holds s z
  holds = (e.0, read)

  shape : Shape e.0 z
  shape = (read_whole s e.0 z (read)).shape

  -- what is answered by the number of the first fault, and its line
  answers : (number : ℕ) → fault_number e.0 ≡ number
      → cond (eqb number 0) (Ok z) (refused_with number (cond (eqb number 9) (faulty_line e.0) 0)) ≡ judged (read_sheet s)
  answers number f = sym (ap judged e.1 ∙ ap (λ (n : ℕ). cond (eqb n 0) (Ok z) (refused_with n (cond (eqb n 9) (faulty_line e.0) 0))) f)

  -- the tests, over the places' counts
  flag_is : {b : Bool} → eqb z.counts.flag 0 ≡ b → eqb e.0.counts.flag 0 ≡ b
  flag_is q = ap (λ (c : Counts). eqb c.flag 0) (sym shape.same_counts) ∙ q

  blocks_is : {b : Bool} → eqb z.counts.k 0 ≡ b → eqb e.0.counts.k 0 ≡ b
  blocks_is q = ap (λ (c : Counts). eqb c.k 0) (sym shape.same_counts) ∙ q

  pub five : z.counts.flag ≡ 0 → refused_with 5 0 ≡ judged (read_sheet s)
  unfolding fault_number
  five f = answers 5 (simp (flag_is (eq-eqb _ 0 f)))

  pub six : (z.counts.flag ≡ 0 → ⊥) → z.counts.k ≡ 0 → refused_with 6 0 ≡ judged (read_sheet s)
  unfolding fault_number
  six f k = answers 6 (simp (flag_is (ne_eqb _ 0 f), blocks_is (eq-eqb _ 0 k)))

  -- what `levels` says
  module _ {m : List ℕ} (levels : (sheet : Sheet) → read_sheet s ≡ accepted sheet z → m ≡ padded 8 (level_list sheet.blocks)) where
    pub small : (i : ℕ) → i < 8 → get_or m i 0 ≤ 65535
    small i h = subst (λ (l : List ℕ). get_or l i 0 ≤ 65535) (sym (levels e.0 read)) (levels_small 8 e.0.blocks shape.blocks i)

    -- what `total` says
    rows : {t : ℕ} → t ≡ sum (λ i. get_or m i 0) 8 → covered_rows e.0.blocks ≡ t
    rows total =
        sym
        (total
        ∙ ap (λ (l : List ℕ). sum (λ i. get_or l i 0) 8) (levels e.0 read)
        ∙ levels_sum 8 e.0.blocks (omega (arith, shape.blocks_length, shape.counts.k)))

    columns : e.0.counts.q ≡ z.counts.q
    columns = ap (λ (c : Counts). c.q) (sym shape.same_counts)

    covered : {t : ℕ} → t ≡ sum (λ i. get_or m i 0) 8 → not (eqb t z.counts.q) ≡ false → covers_rows e.0 ≡ true
    covered total w = eq-eqb e.0.counts.q (covered_rows e.0.blocks) (columns ∙ sym (agree _ _ w) ∙ sym (rows total))

    pub covers : {t : ℕ} → t ≡ sum (λ i. get_or m i 0) 8 → not (eqb t z.counts.q) ≡ false
        → (sheet : Sheet) × (read_sheet s ≡ accepted sheet z) × (covers_rows sheet ≡ true) × (m ≡ padded 8 (level_list sheet.blocks))
    covers total w = (e.0, read, covered total w, levels e.0 read)

  -- where 5 and 6 do not apply; and what `has_slope` says
  module _ (f : z.counts.flag ≡ 0 → ⊥) (k : z.counts.k ≡ 0 → ⊥) {v : Bool} (told : (sheet : Sheet) → read_sheet s ≡ accepted sheet z → v ≡ has_slope sheet) where
    slope : has_slope e.0 ≡ v
    slope = sym (told e.0 read)

    pub seven : v ≡ true → refused_with 7 0 ≡ judged (read_sheet s)
    unfolding fault_number
    seven u = answers 7 (simp (flag_is (ne_eqb _ 0 f), blocks_is (ne_eqb _ 0 k), slope ∙ u))

    -- where 7 does not apply
    module _ (u : v ≡ false) {m : List ℕ} (levels : (sheet : Sheet) → read_sheet s ≡ accepted sheet z → m ≡ padded 8 (level_list sheet.blocks)) {t : ℕ} (total : t ≡ sum (λ i. get_or m i 0) 8) where
      pub eight : not (eqb t z.counts.q) ≡ true → refused_with 8 0 ≡ judged (read_sheet s)
      unfolding fault_number
      eight w =
          answers 8
          (simp
          (flag_is (ne_eqb _ 0 f), blocks_is (ne_eqb _ 0 k), slope ∙ u, ne_eqb e.0.counts.q (covered_rows e.0.blocks) (λ q. differ _ _ w (sym (rows levels total) ∙ sym q ∙ columns levels))))

      -- where 8 does not apply; and what `faulty_line` says
      module _ (w : not (eqb t z.counts.q) ≡ false) where
        from_nine : {b : Bool} → ltb 0 (faulty_line e.0) ≡ b → fault_number e.0 ≡ cond b 9 0
        unfolding fault_number any_faulty faulty_line
        from_nine q =
            let p = (read_whole s e.0 z read).placed in
            let n : Numbered e.0.zz = subst Numbered (sym p.zz) (kept_numbered (pair_line zz_tag s) (length e.0.zz) (e.0.counts.k + 2) z.zz (omega arith)) in
            let a : any_faulty e.0 ≡ ltb 0 (faulty_line e.0) = any_first (is_fault e.0) e.0.zz n in
            simp (flag_is (ne_eqb _ 0 f), blocks_is (ne_eqb _ 0 k), slope ∙ u, covered levels total w, a ∙ q)

        pub nine : {line : ℕ} → ((sheet : Sheet) → read_sheet s ≡ accepted sheet z → Some line ≡ line_of (faulty_line sheet)) → refused_with 9 line ≡ judged (read_sheet s)
        nine {line} found =
            let l = some_line line (faulty_line e.0) (found e.0 read) in
            ap (refused_with 9) l.1 ∙ answers 9 (from_nine (lt-ltb 0 (faulty_line e.0) (omega (arith, l.0))))

        pub none : ((sheet : Sheet) → read_sheet s ≡ accepted sheet z → None ≡ line_of (faulty_line sheet)) → Ok z ≡ judged (read_sheet s)
        none found = answers 0 (from_nine (le-ltb 0 (faulty_line e.0) (omega (arith, no_line (faulty_line e.0) (found e.0 read)))))

-- ---- from the reader's answer
pub reading_sheet : (o : Outcome) {z : Starts} → Ok z ≡ reading_of o → (sheet : Sheet) × (o ≡ accepted sheet z)
reading_sheet (accepted sheet starts) {z} e = let q : starts ≡ z = cc in (sheet, ap (accepted sheet) q)
reading_sheet (refused number line) e = let q : ◌≡◌ {A = ℕ} 0 1 = cc in absurd (omega arith)

pub reading_refused : (o : Outcome) {f : SheetRefusal} → Err f ≡ reading_of o → Err f ≡ judged o
reading_refused (accepted sheet starts) e = let q : ◌≡◌ {A = ℕ} 0 1 = cc in absurd (omega arith)
reading_refused (refused number line) e = e

-- what is said of the sheet read is said of the whole bytes where that is all of them
pub whole_answer : (s : List ℕ) {z : Starts} (r : Result Starts SheetRefusal) → (sheet : Sheet) × (sheet_of s ≡ accepted sheet z) → r ≡ judged (read_sheet s) → r ≡ judged (sheet_of s)
whole_answer s {z} r e a = a ∙ ap judged ((alone_read s e.0 z e.1).0 ∙ sym e.1)

pub whole_read : (s : List ℕ) {z : Starts} → (sheet : Sheet) × (sheet_of s ≡ accepted sheet z) → (sheet : Sheet) × (read_sheet s ≡ accepted sheet z)
whole_read s {z} e = (e.0, (alone_read s e.0 z e.1).0)
