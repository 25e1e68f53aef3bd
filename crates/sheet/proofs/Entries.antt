-- The zz lines of an accepted run rise strictly by column then row, and lie within q columns and rows.
use Prim.Native.Nat.{ℕ, zero, suc, ◌+◌, ◌≤◌, ◌<◌}
use mathlib.Core.Path.{◌≡◌, refl, ◌∙◌, ap}
use mathlib.Core.Logic.{◌⊎◌, inl, inr}
use mathlib.Core.Bool.{Bool, true, false, ◌&&◌, ◌||◌, cond, false≢true}
use mathlib.Core.List.{List, [], ◌∷◌}
use native.Mathlib.Omega.{arith}
use borrow.Author.Tests.{ltb-true, leb-true, eqb-true}
use lib.Dec.{ltb, leb, eqb}
use lib.ListN.{length}
use Rattle.sheet.specs.Line.{zz_tag, tag_to, in_form, pair_line}
use Rattle.sheet.specs.Run.{Cursor, Run, Entry, ended, before, entry_in, not_before, entry_tests, entry_verdict, entries_from, pass_of, kept_from, past_from}
use Rattle.sheet.specs.Whole.{Each, Earlier, Rising, EntryInRange}
use Rattle.sheet.proofs.Lines.{both, in_order_lem, Passed, passed}

-- the entry is (col, row) or comes later
abbrev From : ℕ → ℕ → Entry → Type 0
From col row e = (col < e.col) ⊎ ((col ≡ e.col) × (row ≤ e.row))

from_not_before : (col row : ℕ) (e : Entry) → not_before col row e.col e.row ≡ true → From col row e
from_not_before col row e h = go (ltb col e.col) (eqb col e.col) (leb row e.row) refl refl refl h
  where
    go : (x y z : Bool) → ltb col e.col ≡ x → eqb col e.col ≡ y → leb row e.row ≡ z → (x || (y && z)) ≡ true → From col row e
    go true y z u v w g = inl (ltb-true col e.col u)
    go false true true u v w g = inr (eqb-true col e.col v, leb-true row e.row w)
    go false true false u v w g = absurd (false≢true g)
    go false false z u v w g = absurd (false≢true g)

from_earlier : (e m : Entry) → From e.col (e.row + 1) m → Earlier e m
from_earlier e m (inl h) = inl h
from_earlier e m (inr h) = inr (h.0, omega (arith, h.1))

from_trans : (col row : ℕ) (e m : Entry) → From col row e → From e.col (e.row + 1) m → From col row m
from_trans col row e m (inl x) (inl y) = inl (omega arith)
from_trans col row e m (inl x) (inr y) = inl (omega (arith, y.0))
from_trans col row e m (inr x) (inl y) = inl (omega (arith, x.0))
from_trans col row e m (inr x) (inr y) = inr (omega (arith, x.0, y.0), omega (arith, x.1, y.1))

pub each_map : {A : Type 0} {P Q : A → Type 0} (l : List A) → ((x : A) → P x → Q x) → Each P l → Each Q l
each_map [] h e = tt
each_map (x ∷ rest) h e = (h x e.0, each_map rest h e.1)

-- ---- an accepted run of entries from (col, row) on
pub record Listed (s : List ℕ) (q col row : ℕ) (c : Cursor) (run : Run Entry) : Type 0 where
  pub open_before : c.number ≡ 0
  pub line : run.past.line ≡ c.line + length run.items
  pub at : run.past.at ≡ past_from (pair_line zz_tag s) (length run.items) c.at
  pub items : run.items ≡ kept_from (pair_line zz_tag s) entry_in (length run.items) c.line c.at
  pub from : Each (From col row) run.items
  pub rising : Rising run.items
  pub within : Each (EntryInRange q) run.items

module _ (s : List ℕ) (q : ℕ) where
  none_listed : (col row : ℕ) (c : Cursor) → c.number ≡ 0 → Listed s q col row c (ended c)
  unfolding kept_from past_from
  none_listed col row c e = record { open_before = e; line = omega arith; at = refl; items = refl; from = tt; rising = tt; within = tt }

  one_listed : (col row : ℕ) (c : Cursor) (more : Run Entry) → let l = pair_line zz_tag s c.at in
      Listed s q l.first (l.second + 1) (pass_of c (entry_verdict q col row l) l.next) more → Listed s q col row c (before (entry_in c.line l) more)
  unfolding kept_from past_from
  one_listed col row c more m =
      let l = pair_line zz_tag s c.at in
      let e = entry_in c.line l in
      let n = length more.items in
      let p : Passed c (entry_verdict q col row l) l.next = passed c (entry_verdict q col row l) l.next m.open_before in
      let v = in_order_lem (entry_tests q col row l) refl p.verdict in
      let f : From col row e = from_not_before col row e (both (in_form l.next) (not_before col row l.first l.second) v.0).1 in
      let w = both (ltb l.first q) (ltb l.second q) v.1.1.0 in
      record {
        open_before = p.open_before;
        line = omega (arith, m.line, ap (λ (x : Cursor). x.line) p.after);
        at = m.at ∙ ap (λ (x : Cursor). past_from (pair_line zz_tag s) n x.at) p.after;
        items = ap (λ (k : List Entry). e ∷ k) (m.items ∙ ap (λ (x : Cursor). kept_from (pair_line zz_tag s) entry_in n x.line x.at) p.after);
        from = (f, each_map more.items (λ x h. from_trans col row e x f h) m.from);
        rising = (each_map more.items (from_earlier e) m.from, m.rising);
        within = (record { col = ltb-true l.first q w.0; row = ltb-true l.second q w.1; finite = v.1.0 }, m.within);
      }

  pub listed : (left col row : ℕ) (c : Cursor) → (entries_from left s q col row c).past.number ≡ 0 → Listed s q col row c (entries_from left s q col row c)
  unfolding entries_from
  listed zero col row c e = none_listed col row c e
  listed (suc left) col row c e =
      let l = pair_line zz_tag s c.at in
      let d = pass_of c (entry_verdict q col row l) l.next in
      go (listed left l.first (l.second + 1) d) (eqb c.number 0 && in_form (tag_to zz_tag s c.at).next) e
    where
      go : let l = pair_line zz_tag s c.at in
          let d = pass_of c (entry_verdict q col row l) l.next in
          let more = entries_from left s q l.first (l.second + 1) d in
          let run = before (entry_in c.line l) more in
          (more.past.number ≡ 0 → Listed s q l.first (l.second + 1) d more) → (t : Bool) → (cond t run (ended c)).past.number ≡ 0 → Listed s q col row c (cond t run (ended c))
      go rest true g = one_listed col row c _ (rest g)
      go rest false g = none_listed col row c g
