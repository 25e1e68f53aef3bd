-- The zz lines of a held sheet: where they stand, and the turns of the pass over them.
use Prim.Native.Nat.{ℕ, zero, suc, ◌+◌, ◌-◌, ◌^◌, ◌≤◌, ◌<◌}
use mathlib.Core.Path.{◌≡◌, refl, sym, ap, ◌∙◌}
use mathlib.Core.Bool.{Bool, true, false, not, ◌&&◌, cond, and-eq-true_iff}
use mathlib.Core.List.{List}
use mir.Val.{bool_byte}
use native.Mathlib.Omega.{arith}
use borrow.Author.Tests.{eqb-true, ltb-true, not-false}
use lib.Dec.{ltb, leb, eqb}
use lib.ListN.{length}
use Rattle.sheet.specs.declared.Line.{Line}
use Rattle.sheet.specs.declared.Starts.{Starts}
use Rattle.sheet.specs.Line.{zz_tag, pair_line}
use Rattle.sheet.specs.Run.{entry_in, kept_from}
use Rattle.sheet.specs.Sheet.{Sheet, accepted, read_sheet}
use Rattle.sheet.proofs.Whole.{read_whole}
use Rattle.heading_format.specs.Heading.{bit}
use Rattle.layout_gate.specs.column_entries.Columns.{in_run, in_pair, in_turn, entries_at}

-- ---- the pass: an entry's line number does not count
module _ (from cols at rows : ℕ) where
  any_number : (read : ℕ → Line) (n line p due : ℕ) → in_turn from cols at rows due (kept_from read entry_in n line p) ≡ in_turn from cols at rows due (kept_from read entry_in n 0 p)
  unfolding kept_from in_turn
  any_number read zero line p due = refl
  any_number read (suc n) line p due =
      let x = in_pair from cols at rows (entry_in 0 (read p)) in
      ap (λ (b : Bool). cond (x && not (eqb (read p).first due)) false b)
      (any_number read n (line + 1) (read p).next (due + bit x) ∙ sym (any_number read n (0 + 1) (read p).next (due + bit x)))

  -- one line, and those that follow it
  pair_at : Line → Bool
  pair_at l = in_run from cols l.first && in_run at rows l.second

  turn_next : (s : List ℕ) (n p due : ℕ) → in_turn from cols at rows due (entries_at s (suc n) p)
      ≡ cond (pair_at (pair_line zz_tag s p) && not (eqb (pair_line zz_tag s p).first due)) false
      (in_turn from cols at rows (due + bit (pair_at (pair_line zz_tag s p))) (entries_at s n (pair_line zz_tag s p).next))
  unfolding kept_from in_turn pair_at
  turn_next s n p due =
      let l = pair_line zz_tag s p in
      ap (λ (b : Bool). cond (pair_at l && not (eqb l.first due)) false b) (any_number (pair_line zz_tag s) n (0 + 1) l.next (due + bit (pair_at l)))

  -- the entries of the zz lines of a sheet
  pub held_turn : (s : List ℕ) (sheet : Sheet) (z : Starts) → read_sheet s ≡ accepted sheet z → (n : ℕ) → n ≡ length sheet.zz
      → in_turn from cols at rows from (entries_at s n z.zz) ≡ in_turn from cols at rows from sheet.zz
  held_turn s sheet z e n h =
      let w = read_whole s sheet z e in
      ap (λ (m : ℕ). in_turn from cols at rows from (entries_at s m z.zz)) h
      ∙ sym (any_number (pair_line zz_tag s) (length sheet.zz) (sheet.counts.k + 2) z.zz from)
      ∙ ap (in_turn from cols at rows from) (sym w.placed.zz)

-- the loop: with `due` the entries that are left after `turn` of n lines come to X
pub record Turn (X : Bool) (s : List ℕ) (from cols at rows p n turn due : ℕ) : Type 0 where
  pub same : in_turn from cols at rows due (entries_at s (n - turn) p) ≡ X
  pub within : due ≤ from + cols

pub turn_none : (s : List ℕ) (from cols at rows p n : ℕ) → Turn (in_turn from cols at rows from (entries_at s n p)) s from cols at rows p n 0 from
turn_none s from cols at rows p n =
    let e : n - 0 ≡ n = omega arith in
    record { same = ap (λ (m : ℕ). in_turn from cols at rows from (entries_at s m p)) e; within = omega arith }

pub turn_done : {X : Bool} {s : List ℕ} {from cols at rows p n turn due : ℕ} → Turn X s from cols at rows p n turn due → n ≤ turn → eqb due (from + cols) ≡ X
unfolding in_turn kept_from
turn_done {n} {turn} v h = let e : n - turn ≡ 0 = omega arith in rw e at v.same

-- the test of both
pub pair_tested : {x y a b : Bool} → x ≡ a → y ≡ b → (x && y) ≡ (a && b)
pair_tested p q = cc

-- `here` says that the line is of the pair
module _ {X : Bool} {s : List ℕ} {from cols at rows p n turn due : ℕ} {here : Bool} {l : Line} (v : Turn X s from cols at rows p n turn due) (h : turn < n)
    (q : l ≡ pair_line zz_tag s p) (g : here ≡ (in_run from cols l.first && in_run at rows l.second)) where
  -- what is left comes to X, by the line at hand
  read_next : cond (here && not (eqb l.first due)) false (in_turn from cols at rows (due + bit here) (entries_at s (n - (turn + 1)) l.next)) ≡ X
  unfolding pair_at
  read_next =
      let e : n - turn ≡ suc (n - (turn + 1)) = omega arith in
      rw (g, q) (sym (turn_next from cols at rows s (n - (turn + 1)) p due) ∙ ap (λ (m : ℕ). in_turn from cols at rows due (entries_at s m p)) (sym e) ∙ v.same)

  pub turn_other : (here && not (eqb l.first due)) ≡ true → false ≡ X
  turn_other t = rw t at read_next

  module _ (t : (here && not (eqb l.first due)) ≡ false) {f : ℕ} (k : f ≡ bool_byte here) where
    same_bit : f ≡ bit here
    same_bit = k ∙ go here
      where
        go : (b : Bool) → bool_byte b ≡ bit b
        go true = refl
        go false = refl

    -- the column that is due next is at most the one past the last
    still_within : due + f ≤ from + cols
    still_within = go (in_run from cols l.first && in_run at rows l.second) refl (same_bit ∙ ap bit g)
      where
        go : (b : Bool) → (in_run from cols l.first && in_run at rows l.second) ≡ b → f ≡ bit b → due + f ≤ from + cols
        go false u w = omega (arith, v.within)
        go true u w =
            let x : not (eqb l.first due) ≡ false = rw (g ∙ u) at t in
            let y : l.first ≡ due = eqb-true l.first due (not-false _ x) in
            let r = ((and-eq-true_iff (in_run from cols l.first) (in_run at rows l.second)).0 u).0 in
            omega (arith, ltb-true l.first (from + cols) ((and-eq-true_iff (leb from l.first) (ltb l.first (from + cols))).0 r).1)

    pub turn_more : Turn X s from cols at rows l.next n (turn + 1) (due + f)
    turn_more = record { same = rw same_bit (rw t at read_next); within = still_within }

    pub turn_fits : from + cols < 2 ^ 64 → due + f < 2 ^ 64
    turn_fits b = omega (arith, still_within)
