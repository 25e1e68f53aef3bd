-- Number 9: the test finds a faulty line exactly where there is one, and what it names is the first of them (document 02, item 1).
use Prim.Native.Nat.{ℕ, zero, suc, ◌+◌, ◌<◌}
use mathlib.Core.Path.{◌≡◌, refl, sym, ◌∙◌, ap, subst}
use mathlib.Core.Logic.{◌⊎◌, inl, inr, by_cases}
use mathlib.Core.Bool.{Bool, true, false, not, ◌&&◌, ◌||◌, cond, false≢true, true≢false}
use mathlib.Core.List.Memᴰ
use mathlib.Core.List.{List, [], ◌∷◌, Memᴰ}
use native.Mathlib.Omega.{arith}
use native.Mathlib.Decide.{dec_lt}
use borrow.Author.Tests.{eqb-true, eqb-false, eq-eqb, ne_eqb}
use lib.Dec.{eqb}
use lib.ListN.{length, get_or}
use Rattle.sheet.specs.Field.{is_zero}
use Rattle.sheet.specs.declared.Line.{Line}
use Rattle.sheet.specs.declared.Starts.{Starts}
use Rattle.sheet.specs.Line.{zz_tag, pair_line}
use Rattle.sheet.specs.Run.{Entry, entry_in, kept_from}
use Rattle.sheet.specs.Sheet.{Sheet, accepted, read_sheet}
use Rattle.sheet.specs.Whole.{Each}
use Rattle.sheet.specs.Fault.{any_of, block_of_row, Mirror, Fault, word_is_zero, inside_block, no_mirror, Faulty, is_mirror, is_inside, is_fault, any_faulty, has_slope, covers_rows, fault_number, named_line, first_line, faulty_line, FirstFaulty}
use Rattle.sheet.proofs.Lines.{both}
use Rattle.sheet.proofs.Whole.{read_whole}

-- ---- a test over a list
any_found : {A : Type 0} (test : A → Bool) (l : List A) → any_of test l ≡ true → (x : A) × Memᴰ x l × (test x ≡ true)
unfolding any_of
any_found test [] e = absurd (false≢true e)
any_found {A} test (x ∷ rest) e = go (any_found test rest) (test x) refl e
  where
    go : (any_of test rest ≡ true → (y : A) × Memᴰ y rest × (test y ≡ true)) → (t : Bool) → test x ≡ t → t || any_of test rest ≡ true → (y : A) × Memᴰ y (x ∷ rest) × (test y ≡ true)
    go more true u g = (x, Memᴰ.head refl, u)
    go more false u g = let m = more g in (m.0, Memᴰ.tail m.1, m.2)

or_left : (a b : Bool) → a ≡ true → a || b ≡ true
or_left true b e = refl
or_left false b e = absurd (false≢true e)

or_right : (a b : Bool) → b ≡ true → a || b ≡ true
or_right true b e = refl
or_right false b e = e

found_any : {A : Type 0} (test : A → Bool) (x : A) (l : List A) → Memᴰ x l → test x ≡ true → any_of test l ≡ true
unfolding any_of
found_any test x [] m e = absurd (Memᴰ.not-nil m)
found_any {A} test x (y ∷ rest) m e = go (λ n. found_any test x rest n e) (Memᴰ.cases_cons m)
  where
    go : (Memᴰ x rest → any_of test rest ≡ true) → (x ≡ y) ⊎ Memᴰ x rest → test y || any_of test rest ≡ true
    go more (inl q) = rw (ap test (sym q) ∙ e)
    go more (inr n) = or_right (test y) (any_of test rest) (more n)

-- ---- a fault and its test
true_mirror : (e m : Entry) → Mirror e m → is_mirror e m ≡ true
true_mirror e m h = simp (eq-eqb _ _ h.col, eq-eqb _ _ h.row, eq-eqb _ _ h.word)

mirror_true : (e m : Entry) → is_mirror e m ≡ true → Mirror e m
mirror_true e m h =
    let w = both (eqb m.col e.row && eqb m.row e.col) (eqb m.word e.word) h in
    let x = both (eqb m.col e.row) (eqb m.row e.col) w.0 in
    record { col = eqb-true _ _ x.0; row = eqb-true _ _ x.1; word = eqb-true _ _ w.1 }

module _ (sheet : Sheet) (e : Entry) where
  pub fault_true : is_fault sheet e ≡ true → Fault sheet e
  fault_true h = go (is_zero e.word) (eqb (block_of_row sheet.blocks e.col) (block_of_row sheet.blocks e.row)) (eqb e.col e.row) (any_of (is_mirror e) sheet.zz) refl refl refl refl h
    where
      go : (z b d m : Bool) → is_zero e.word ≡ z → eqb (block_of_row sheet.blocks e.col) (block_of_row sheet.blocks e.row) ≡ b → eqb e.col e.row ≡ d
          → any_of (is_mirror e) sheet.zz ≡ m → (z || (b && not d) || not m) ≡ true → Fault sheet e
      go true b d m zz bb dd mm g = word_is_zero zz
      go false true false m zz bb dd mm g = inside_block (eqb-true _ _ bb) (eqb-false _ _ dd)
      go false true true false zz bb dd mm g = no_mirror (λ x n r. false≢true (sym mm ∙ found_any (is_mirror e) x sheet.zz n (true_mirror e x r)))
      go false true true true zz bb dd mm g = absurd (false≢true g)
      go false false d false zz bb dd mm g = no_mirror (λ x n r. false≢true (sym mm ∙ found_any (is_mirror e) x sheet.zz n (true_mirror e x r)))
      go false false d true zz bb dd mm g = absurd (false≢true g)

  pub true_fault : Fault sheet e → is_fault sheet e ≡ true
  true_fault (word_is_zero z) = or_left _ _ (or_left _ _ z)
  true_fault (inside_block b d) = or_left _ _ (or_right (is_zero e.word) _ (simp (eq-eqb _ _ b, ne_eqb _ _ d)))
  true_fault (no_mirror m) = or_right (is_zero e.word || is_inside sheet e) (not (any_of (is_mirror e) sheet.zz)) (go (any_of (is_mirror e) sheet.zz) refl)
    where
      go : (t : Bool) → any_of (is_mirror e) sheet.zz ≡ t → not t ≡ true
      go false u = refl
      go true u = let f = any_found (is_mirror e) sheet.zz u in absurd (m f.0 f.1 (mirror_true e f.0 f.2))

-- THE CLAIM, both ways: the test passes exactly where some line is faulty.
pub faulty_line_lem : (sheet : Sheet) → any_faulty sheet ≡ true → (line : ℕ) × Faulty sheet line
unfolding any_faulty
faulty_line_lem sheet h = let f = any_found (is_fault sheet) sheet.zz h in (f.0.line, (f.0, f.1, refl, fault_true sheet f.0 f.2))

pub line_faulty : (sheet : Sheet) (line : ℕ) → Faulty sheet line → any_faulty sheet ≡ true
unfolding any_faulty
line_faulty sheet line f = found_any (is_fault sheet) f.0 sheet.zz f.1 (true_fault sheet f.0 f.3)

-- ---- the first faulty line
-- the lines rise
abbrev pub LinesRise : List Entry → Type 0
LinesRise [] = Unit {0}
LinesRise (e ∷ rest) = Each (λ (x : Entry). e.line < x.line) rest × LinesRise rest

pub member_each : {A : Type 0} (P : A → Type 0) (x : A) (l : List A) → Memᴰ x l → Each P l → P x
member_each P x [] m e = absurd (Memᴰ.not-nil m)
member_each P x (y ∷ l) m e = go (λ n. member_each P x l n e.1) (Memᴰ.cases_cons m)
  where
    go : (Memᴰ x l → P x) → (x ≡ y) ⊎ Memᴰ x l → P x
    go more (inl q) = subst P (sym q) e.0
    go more (inr n) = more n

module _ (test : Entry → Bool) where
  -- the test passes on an entry of the line that is named
  first_passes : (l : List Entry) → any_of test l ≡ true → (e : Entry) × Memᴰ e l × (e.line ≡ first_line test l) × (test e ≡ true)
  unfolding any_of first_line
  first_passes [] h = absurd (false≢true h)
  first_passes (x ∷ rest) h = go (first_passes rest) (test x) refl h
    where
      go : (any_of test rest ≡ true → (e : Entry) × Memᴰ e rest × (e.line ≡ first_line test rest) × (test e ≡ true)) → (t : Bool) → test x ≡ t → t || any_of test rest ≡ true
          → (e : Entry) × Memᴰ e (x ∷ rest) × (e.line ≡ cond t x.line (first_line test rest)) × (test e ≡ true)
      go more true u g = (x, Memᴰ.head refl, refl, u)
      go more false u g = let m = more g in (m.0, Memᴰ.tail m.1, m.2, m.3)

  -- and on none of an earlier line
  first_least : (l : List Entry) → LinesRise l → (e : Entry) → Memᴰ e l → e.line < first_line test l → test e ≡ false
  unfolding first_line
  first_least [] r e m h = absurd (Memᴰ.not-nil m)
  first_least (x ∷ rest) r e m h = go (first_least rest r.1 e) (Memᴰ.cases_cons m) (test x) refl h
    where
      go : (Memᴰ e rest → e.line < first_line test rest → test e ≡ false) → (e ≡ x) ⊎ Memᴰ e rest → (t : Bool) → test x ≡ t
          → e.line < cond t x.line (first_line test rest) → test e ≡ false
      go more (inl q) true u g = absurd (let z : e.line ≡ x.line = ap (λ (y : Entry). y.line) q in omega arith)
      go more (inr n) true u g = absurd (let z = member_each (λ (y : Entry). x.line < y.line) e rest n r.0 in omega arith)
      go more (inl q) false u g = ap test q ∙ u
      go more (inr n) false u g = more n g

  -- by index: the entry on which the test passes first, or none
  pub first_at : (l : List Entry) (d : Entry) (t : ℕ) → t < length l → test (get_or l t d) ≡ true → ((u : ℕ) → u < t → test (get_or l u d) ≡ false) → first_line test l ≡ (get_or l t d).line
  unfolding first_line
  first_at [] d t h p none = absurd (omega arith)
  first_at (x ∷ rest) d zero h p none = rw p refl
  first_at (x ∷ rest) d (suc t) h p none = rw (none 0 (omega arith)) (first_at rest d t (omega arith) p (λ u k. none (suc u) (omega arith)))

  pub first_none : (l : List Entry) (d : Entry) → ((u : ℕ) → u < length l → test (get_or l u d) ≡ false) → first_line test l ≡ 0
  unfolding first_line
  first_none [] d none = refl
  first_none (x ∷ rest) d none = rw (none 0 (omega arith)) (first_none rest d (λ u k. none (suc u) (omega arith)))

-- the lines of a sheet that is read rise
kept_after : (read : ℕ → Line) (n line at low : ℕ) → low < line → Each (λ (x : Entry). low < x.line) (kept_from read entry_in n line at)
unfolding kept_from
kept_after read zero line at low h = tt
kept_after read (suc n) line at low h = (h, kept_after read n (line + 1) (read at).next low (omega arith))

kept_rise : (read : ℕ → Line) (n line at : ℕ) → LinesRise (kept_from read entry_in n line at)
unfolding kept_from
kept_rise read zero line at = tt
kept_rise read (suc n) line at = (kept_after read n (line + 1) (read at).next line (omega arith), kept_rise read n (line + 1) (read at).next)

pub lines_rise : (s : List ℕ) (sheet : Sheet) (starts : Starts) → read_sheet s ≡ accepted sheet starts → LinesRise sheet.zz
lines_rise s sheet starts e = let p = (read_whole s sheet starts e).placed in subst LinesRise (sym p.zz) (kept_rise (pair_line zz_tag s) (length sheet.zz) (sheet.counts.k + 2) starts.zz)

module _ (sheet : Sheet) (rise : LinesRise sheet.zz) where
  -- THE CLAIM, both halves: the line that 9 names is faulty, and no earlier one is; and there is only one such line
  pub names_first : any_faulty sheet ≡ true → FirstFaulty sheet (faulty_line sheet)
  unfolding any_faulty faulty_line
  names_first h =
      let f = first_passes (is_fault sheet) sheet.zz h in
      record {
        faulty = (f.0, f.1, f.2, fault_true sheet f.0 f.3);
        earlier = λ e m l x. true≢false (sym (true_fault sheet e x) ∙ first_least (is_fault sheet) sheet.zz rise e m l);
      }

  pub first_named : (line : ℕ) → FirstFaulty sheet line → line ≡ faulty_line sheet
  unfolding names_first
  first_named line f =
      let g = names_first (line_faulty sheet line f.faulty) in
      let a = f.faulty in
      let b = g.faulty in
      by_cases (dec_lt line (faulty_line sheet)) (λ l. absurd (g.earlier a.0 a.1 (omega (arith, a.2)) a.3))
      (λ l. by_cases (dec_lt (faulty_line sheet) line) (λ m. absurd (f.earlier b.0 b.1 (omega (arith, b.2)) b.3)) (λ m. omega arith))

-- ---- the order of 5 to 9
abbrev chain : Bool → Bool → Bool → Bool → Bool → ℕ
chain a b c d f = cond a 5 (cond b 6 (cond c 7 (cond (not d) 8 (cond f 9 0))))

chain_nine : (a b c d f : Bool) → chain a b c d f ≡ 9 → f ≡ true
chain_nine true b c d f e = absurd (omega arith)
chain_nine false true c d f e = absurd (omega arith)
chain_nine false false true d f e = absurd (omega arith)
chain_nine false false false false f e = absurd (omega arith)
chain_nine false false false true true e = refl
chain_nine false false false true false e = absurd (omega arith)

chain_none : (a b c d f : Bool) → chain a b c d f ≡ 0 → f ≡ false
chain_none true b c d f e = absurd (omega arith)
chain_none false true c d f e = absurd (omega arith)
chain_none false false true d f e = absurd (omega arith)
chain_none false false false false f e = absurd (omega arith)
chain_none false false false true true e = absurd (omega arith)
chain_none false false false true false e = refl

module _ (sheet : Sheet) where
  -- flag 0 comes before all others
  pub five_first : sheet.counts.flag ≡ 0 → fault_number sheet ≡ 5
  unfolding fault_number
  five_first e = simp (eq-eqb _ 0 e)

  -- and no line is where none of 5 to 9 applies
  pub none_faulty : fault_number sheet ≡ 0 → (line : ℕ) → Faulty sheet line → ⊥
  unfolding fault_number
  none_faulty e line f =
      true≢false
      (sym (line_faulty sheet line f)
      ∙ chain_none (eqb sheet.counts.flag 0) (eqb sheet.counts.k 0) (has_slope sheet) (covers_rows sheet) (any_faulty sheet) e)

  -- where 5 to 8 do not apply, 9 comes where some line is faulty, and names the first of them
  pub nine_first : LinesRise sheet.zz → fault_number sheet ≡ 9 → FirstFaulty sheet (named_line sheet)
  unfolding fault_number
  nine_first rise e =
      subst (FirstFaulty sheet) (sym (ap (λ (t : Bool). cond t (faulty_line sheet) 0) (eq-eqb (fault_number sheet) 9 e)))
      (names_first sheet rise (chain_nine (eqb sheet.counts.flag 0) (eqb sheet.counts.k 0) (has_slope sheet) (covers_rows sheet) (any_faulty sheet) e))
