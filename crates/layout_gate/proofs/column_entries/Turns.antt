-- One pass over rising entries finds out whether each column has exactly one.
use Prim.Native.Nat.{ℕ, suc, ◌+◌, ◌-◌, ◌≤◌, ◌<◌}
use mathlib.Core.Path.{◌≡◌, refl, sym, ap, ◌∙◌}
use mathlib.Core.Bool.{Bool, true, false, not, ◌&&◌, cond, and-eq-true_iff}
use mathlib.Core.List.{List, [], ◌∷◌}
use mathlib.Core.Logic.{inl, inr, by_cases}
use native.Mathlib.Decide.{dec_lt}
use native.Mathlib.Omega.{arith}
use borrow.Author.Tests.{eqb-true, eqb-false, leb-true, ltb-true, eq-eqb, ne_eqb, le-leb, lt-leb, lt-ltb}
use lib.Dec.{ltb, leb, eqb}
use Rattle.sheet.specs.Run.{Entry}
use Rattle.sheet.specs.Whole.{Each, Earlier, Rising}
use Rattle.heading_format.specs.Heading.{bit}
use Rattle.heading_format.proofs.Valid.{every_of, every_at, same_bools}
use Rattle.workspace.specs.Loaded.{count_of}
use Rattle.layout_gate.specs.column_entries.Columns.{in_run, in_column, each_one, in_pair, in_turn}

count_next : (test : Entry → Bool) (e : Entry) (l : List Entry) → count_of test (e ∷ l) ≡ bit (test e) + count_of test l
unfolding count_of
count_next test e l = go (test e)
  where
    go : (b : Bool) → cond b (suc (count_of test l)) (count_of test l) ≡ bit b + count_of test l
    go true = omega arith
    go false = omega arith

module _ (from cols at rows : ℕ) where
  -- of the columns below d none, of the others each one
  abbrev Counts : ℕ → List Entry → Type 0
  Counts d l = (c : ℕ) → c < cols → count_of (in_column from at rows c) l ≡ bit (leb d c)

  -- an entry of the pair: its column and row
  of_pair_lem : (e : Entry) → in_pair from cols at rows e ≡ true → (from ≤ e.col) × (e.col < from + cols) × (in_run at rows e.row ≡ true)
  of_pair_lem e u =
      let r = (and-eq-true_iff (in_run from cols e.col) (in_run at rows e.row)).0 u in
      let t = (and-eq-true_iff (leb from e.col) (ltb e.col (from + cols))).0 r.0 in
      (leb-true _ _ t.0, ltb-true _ _ t.1, r.1)

  -- an entry of the pair in column d counts for that column alone
  own_column : (e : Entry) (d c : ℕ) → in_pair from cols at rows e ≡ true → e.col ≡ from + d → bit (in_column from at rows c e) + bit (leb (suc d) c) ≡ bit (leb d c)
  own_column e d c u q =
      let r = (of_pair_lem e u).2 in
      by_cases (dec_lt c d)
      (λ h. rw (ne_eqb e.col (from + c) (λ z. omega arith), lt-leb (suc d) c (omega arith), lt-leb d c h) refl)
      (λ h.
      by_cases (dec_lt d c)
      (λ g. rw (ne_eqb e.col (from + c) (λ z. omega arith), le-leb (suc d) c g, le-leb d c (omega arith)) refl)
      (λ g. rw (eq-eqb e.col (from + c) (omega arith), r, lt-leb (suc d) c (omega arith), le-leb d c (omega arith)) refl))

  -- any other entry counts for none
  no_column : (e : Entry) (c : ℕ) → in_pair from cols at rows e ≡ false → c < cols → in_column from at rows c e ≡ false
  no_column e c u h = go (eqb e.col (from + c)) refl
    where
      go : (b : Bool) → eqb e.col (from + c) ≡ b → (b && in_run at rows e.row) ≡ false
      go false w = refl
      go true w =
          let q : e.col ≡ from + c = eqb-true _ _ w in
          rw (le-leb from e.col (omega arith), lt-ltb e.col (from + cols) (omega arith)) at u

  counts_more : (e : Entry) (l : List Entry) (d c : ℕ) → in_pair from cols at rows e ≡ true → e.col ≡ from + d → count_of (in_column from at rows c) (e ∷ l) + bit (leb (suc d) c) ≡ count_of (in_column from at rows c) l + bit (leb d c)
  counts_more e l d c u q = omega (arith, count_next (in_column from at rows c) e l, own_column e d c u q)

  counts_same : (e : Entry) (l : List Entry) (c : ℕ) → in_pair from cols at rows e ≡ false → c < cols → count_of (in_column from at rows c) (e ∷ l) ≡ count_of (in_column from at rows c) l
  counts_same e l c u h = omega (arith, count_next (in_column from at rows c) e l, ap bit (no_column e c u h))

  -- ---- a pass to the end has met each column once
  counted : (l : List Entry) (d : ℕ) → in_turn from cols at rows (from + d) l ≡ true → Counts d l
  unfolding in_turn count_of
  counted [] d p c h = let q : from + d ≡ from + cols = eqb-true _ _ p in sym (ap bit (lt-leb d c (omega arith)))
  counted (e ∷ l) d p c h = go (counted l) (in_pair from cols at rows e) (eqb e.col (from + d)) refl refl p
    where
      go : ((d : ℕ) → in_turn from cols at rows (from + d) l ≡ true → Counts d l) → (b t : Bool) → in_pair from cols at rows e ≡ b → eqb e.col (from + d) ≡ t → cond (b && not t) false (in_turn from cols at rows (from + d + bit b) l) ≡ true
          → count_of (in_column from at rows c) (e ∷ l) ≡ bit (leb d c)
      go f true false u w g = absurd (let z : ◌≡◌ {A = ℕ} 0 1 = cc in omega arith)
      go f true true u w g =
          let s : from + d + 1 ≡ from + suc d = omega arith in
          omega (arith, counts_more e l d c u (eqb-true _ _ w), f (suc d) (rw s at g) c h)
      go f false t u w g =
          let s : from + d + 0 ≡ from + d = omega arith in
          counts_same e l c u h ∙ f d (rw s at g) c h

  -- ---- where each column has one, the pass comes to the end
  none_before : (e : Entry) (l : List Entry) (c : ℕ) → Each (Earlier e) l → from + c < e.col → count_of (in_column from at rows c) l ≡ 0
  unfolding count_of
  none_before e [] c a h = refl
  none_before e (x ∷ l) c a h = rw (ne_eqb x.col (from + c) (later a.0)) (none_before e l c a.1 h)
    where
      later : Earlier e x → x.col ≡ from + c → ⊥
      later (inl g) z = omega arith
      later (inr g) z = let q = g.0 in omega arith

  in_turn_of_counts : (l : List Entry) (d : ℕ) → Rising l → d ≤ cols → Counts d l → in_turn from cols at rows (from + d) l ≡ true
  unfolding in_turn count_of
  in_turn_of_counts [] d a h k =
      by_cases (dec_lt d cols) (λ g. absurd (omega (arith, k d g, ap bit (le-leb d d (omega arith))))) (λ g. eq-eqb (from + d) (from + cols) (omega arith))
  in_turn_of_counts (e ∷ l) d a h k = go (λ d g k. in_turn_of_counts l d a.1 g k) (in_pair from cols at rows e) (eqb e.col (from + d)) refl refl
    where
      -- an entry in another column leaves column d empty, or makes two in one that had its own
      astray : in_pair from cols at rows e ≡ true → (e.col ≡ from + d → ⊥) → ⊥
      astray u n =
          let r = of_pair_lem e u in
          let r₀ = r.0 in
          let r₁ = r.1 in
          let c : ℕ = e.col - from in
          let q : e.col ≡ from + c = omega arith in
          let m = counts_more e l c c u q in
          let one : bit (leb c c) ≡ 1 = ap bit (le-leb c c (omega arith)) in
          let none : bit (leb (suc c) c) ≡ 0 = ap bit (lt-leb (suc c) c (omega arith)) in
          by_cases (dec_lt c d)
          (λ g. omega (arith, k c (omega arith), ap bit (lt-leb d c g)))
          (λ g.
          let z : c ≡ d → ⊥ = λ z. n (omega arith) in
          let b : d < c = by_cases (dec_lt d c) (λ x. x) (λ x. absurd (z (omega arith))) in
          omega (
            arith,
            k d (omega arith),
            ap bit (le-leb d d (omega arith)),
            count_next (in_column from at rows d) e l,
            ap (λ (x : Bool). bit (x && in_run at rows e.row)) (ne_eqb e.col (from + d) n),
            none_before e l d a.0 (omega arith),
          ))

      go : ((d : ℕ) → d ≤ cols → Counts d l → in_turn from cols at rows (from + d) l ≡ true) → (b t : Bool) → in_pair from cols at rows e ≡ b
          → eqb e.col (from + d) ≡ t → cond (b && not t) false (in_turn from cols at rows (from + d + bit b) l) ≡ true
      go f true false u w = absurd (astray u (eqb-false _ _ w))
      go f true true u w =
          let q : e.col ≡ from + d = eqb-true _ _ w in
          let r = (of_pair_lem e u).1 in
          let s : from + d + 1 ≡ from + suc d = omega arith in
          rw s (f (suc d) (omega arith) (λ c g. omega (arith, counts_more e l d c u q, k c g)))
      go f false t u w =
          let s : from + d + 0 ≡ from + d = omega arith in
          rw s (f d h (λ c g. sym (counts_same e l c u g) ∙ k c g))

  -- THE CLAIM: over rising entries, the pass says whether each column has exactly one.
  pub turn_is : (l : List Entry) → Rising l → in_turn from cols at rows from l ≡ each_one from cols at rows l
  turn_is l a =
      let z : from + 0 ≡ from = omega arith in
      let first : (c : ℕ) → bit (leb 0 c) ≡ 1 = λ c. ap bit (le-leb 0 c (omega arith)) in
      let t : (c : ℕ) → Bool = λ c. eqb (count_of (in_column from at rows c) l) 1 in
      same_bools (in_turn from cols at rows from l) (each_one from cols at rows l)
      (λ p. every_of t cols (λ c h. eq-eqb (count_of (in_column from at rows c) l) 1 (counted l 0 (rw z p) c h ∙ first c)))
      (λ p. rw z at (in_turn_of_counts l 0 a (omega arith) (λ c h. eqb-true _ _ (every_at t cols p c h) ∙ sym (first c))))
