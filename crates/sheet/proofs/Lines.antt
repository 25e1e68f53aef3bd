-- Runs of lines that are accepted: every line was, and what is kept of them is found by their positions.
use Prim.Native.Nat.{ℕ, zero, suc, ◌+◌, ◌*◌, ◌/◌, ◌≤◌}
use mathlib.Core.Path.{◌≡◌, refl, ◌∙◌, ap}
use mathlib.Core.Bool.{Bool, true, false, ◌&&◌, cond, false≢true}
use mathlib.Core.List.{List, [], ◌∷◌, ◌++◌}
use native.Mathlib.Omega.{arith}
use borrow.Author.Tests.{leb-true, eqb-true, eqb-false, ne_eqb}
use lib.Dec.{leb, eqb}
use lib.ListN.{length, length-append}
use Rattle.sheet.specs.declared.Line.{Line}
use Rattle.sheet.specs.Line.{Test, verdict_of}
use Rattle.sheet.specs.Run.{Cursor, pass_of, lines_of, row_from, rows_from, is_between, kept_from, past_from}
use Rattle.sheet.specs.Whole.{Each}

-- ---- tests
pub both : (a b : Bool) → a && b ≡ true → (a ≡ true) × (b ≡ true)
both true b e = (refl, e)
both false b e = absurd (false≢true e)

pub between : (low x high : ℕ) → is_between low x high ≡ true → (low ≤ x) × (x ≤ high)
between low x high e = let b = both (leb low x) (leb x high) e in (leb-true low x b.0, leb-true x high b.1)

-- the numbers of all tests are those of a line: 2 to 4
abbrev pub of_line : List Test → Bool
of_line [] = true
of_line (t ∷ rest) = is_between 2 t.1 4 && of_line rest

-- where nothing is refused, each test passed
pub in_order_lem : (tests : List Test) → of_line tests ≡ true → verdict_of tests ≡ 0 → Each (λ (t : Test). t.0 ≡ true) tests
in_order_lem [] o e = tt
in_order_lem ((true, n) ∷ rest) o e = (refl, in_order_lem rest (both (is_between 2 n 4) (of_line rest) o).1 e)
in_order_lem ((false, n) ∷ rest) o e = absurd (omega (arith, e, (between 2 n 4 (both (is_between 2 n 4) (of_line rest) o).0).0))

-- ---- one line
-- a line is passed from a cursor at which nothing was refused, with the verdict 0
pub record Passed (c : Cursor) (number next : ℕ) : Type 0 where
  pub open_before : c.number ≡ 0
  pub verdict : number ≡ 0
  pub after : pass_of c number next ≡ record { at = next; line = c.line + 1; number = 0 }

pub passed : (c : Cursor) (number next : ℕ) → (pass_of c number next).number ≡ 0 → Passed c number next
unfolding pass_of
passed c number next e = go (eqb c.number 0) (eqb number 0) refl refl e
  where
    go : (t u : Bool) → eqb c.number 0 ≡ t → eqb number 0 ≡ u
        → (cond t (cond u (record { at = next; line = c.line + 1; number = 0 }) (record { at = c.at; line = c.line; number = number })) c).number ≡ 0
        → Passed c number next
    go true true p q g = record { open_before = eqb-true _ 0 p; verdict = eqb-true number 0 q; after = rw (p, q) }
    go true false p q g = absurd (eqb-false number 0 q g)
    go false u p q g = absurd (eqb-false c.number 0 p g)

pub stays : (c : Cursor) (number next : ℕ) → (c.number ≡ 0 → ⊥) → pass_of c number next ≡ c
unfolding pass_of
stays c number next h = rw (ne_eqb c.number 0 h)

-- ---- a run
module _ {A : Type 0} (read : ℕ → Line) (verdict : ℕ × ℕ → Line → ℕ) (keep : ℕ → Line → A) where
  pub lines_length : (is : List (ℕ × ℕ)) (c : Cursor) → length (lines_of read verdict keep is c).items ≡ length is
  unfolding lines_of
  lines_length [] c = refl
  lines_length (i ∷ is) c = ap suc (lines_length is (pass_of c (verdict i (read c.at)) (read c.at).next))

  -- what an accepted run says
  pub record Ran (is : List (ℕ × ℕ)) (c : Cursor) : Type 0 where
    pub open_before : c.number ≡ 0
    pub line : (lines_of read verdict keep is c).past.line ≡ c.line + length is
    pub at : (lines_of read verdict keep is c).past.at ≡ past_from read (length is) c.at
    pub items : (lines_of read verdict keep is c).items ≡ kept_from read keep (length is) c.line c.at

  pub ran : (is : List (ℕ × ℕ)) (c : Cursor) → (lines_of read verdict keep is c).past.number ≡ 0 → Ran is c
  unfolding lines_of kept_from past_from
  ran [] c e = record { open_before = e; line = omega arith; at = refl; items = refl }
  ran (i ∷ is) c e =
      let l = read c.at in
      let d = pass_of c (verdict i l) l.next in
      let r : Ran is d = ran is d e in
      let p : Passed c (verdict i l) l.next = passed c (verdict i l) l.next r.open_before in
      record {
        open_before = p.open_before;
        line = omega (arith, r.line, ap (λ (x : Cursor). x.line) p.after);
        at = r.at ∙ ap (λ (x : Cursor). past_from read (length is) x.at) p.after;
        items = ap (λ (k : List A). keep c.line l ∷ k) (r.items ∙ ap (λ (x : Cursor). kept_from read keep (length is) x.line x.at) p.after);
      }

  -- what every line in order has, every item of an accepted run has
  pub each : (P : A → Type 0) → ((i : ℕ × ℕ) (line : ℕ) (l : Line) → verdict i l ≡ 0 → P (keep line l)) → (is : List (ℕ × ℕ)) (c : Cursor)
      → (lines_of read verdict keep is c).past.number ≡ 0 → Each P (lines_of read verdict keep is c).items
  unfolding lines_of
  each P h [] c e = tt
  each P h (i ∷ is) c e =
      let l = read c.at in
      let d = pass_of c (verdict i l) l.next in
      (h i c.line l (passed c (verdict i l) l.next (ran is d e).open_before).verdict, each P h is d e)

  -- a cursor at a refused line stays there
  pub lines_stay : (is : List (ℕ × ℕ)) (c : Cursor) → (c.number ≡ 0 → ⊥) → (lines_of read verdict keep is c).past ≡ c
  unfolding lines_of
  lines_stay [] c h = refl
  lines_stay (i ∷ is) c h =
      let p : pass_of c (verdict i (read c.at)) (read c.at).next ≡ c = stays c _ _ h in
      ap (λ (x : Cursor). (lines_of read verdict keep is x).past) p ∙ lines_stay is c h

  -- a run may be read in two parts
  pub lines_append : (is js : List (ℕ × ℕ)) (c : Cursor)
      → (lines_of read verdict keep (is ++ js) c).past ≡ (lines_of read verdict keep js (lines_of read verdict keep is c).past).past
  unfolding lines_of
  lines_append [] js c = refl
  lines_append (i ∷ is) js c = lines_append is js (pass_of c (verdict i (read c.at)) (read c.at).next)

  -- what each line leaves true of the cursor, the run does
  pub lines_keep : (P : Cursor → Type 0) → ((c : Cursor) (i : ℕ × ℕ) (l : Line) → P c → P (pass_of c (verdict i l) l.next))
      → (is : List (ℕ × ℕ)) (c : Cursor) → P c → P (lines_of read verdict keep is c).past
  unfolding lines_of
  lines_keep P h [] c e = e
  lines_keep P h (i ∷ is) c e =
      let l = read c.at in
      lines_keep P h is (pass_of c (verdict i l) l.next) (h c i l e)

-- ---- how many pairs of indexes there are
pub row_length : (r c n : ℕ) → length (row_from r c n) ≡ n
unfolding row_from
row_length r c zero = refl
row_length r c (suc n) = ap suc (row_length r (c + 1) n)

rows_length : (width : ℕ → ℕ) (r n : ℕ) → length (rows_from width r (suc n)) ≡ width r + length (rows_from width (r + 1) n)
unfolding rows_from
rows_length width r n = length-append (row_from r 0 (width r)) (rows_from width (r + 1) n) ∙ ap (λ (x : ℕ). x + length (rows_from width (r + 1) n)) (row_length r 0 (width r))

pub grid_length : (p r n : ℕ) → length (rows_from (λ i. p) r n) ≡ n * p
grid_length p r zero = unfold rows_from in omega arith
grid_length p r (suc n) = omega (arith, rows_length (λ i. p) r n, grid_length p (r + 1) n)

triangle_twice : (r n : ℕ) → 2 * length (rows_from (λ i. i + 1) r n) ≡ n * (2 * r + n + 1)
triangle_twice r zero = unfold rows_from in omega arith
triangle_twice r (suc n) = omega (arith, rows_length (λ i. i + 1) r n, triangle_twice (r + 1) n)

pub triangle_length : (n : ℕ) → length (rows_from (λ i. i + 1) 0 n) ≡ n * (n + 1) / 2
triangle_length n = omega (arith, triangle_twice 0 n)
