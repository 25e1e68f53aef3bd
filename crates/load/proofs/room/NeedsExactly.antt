-- What needs answers is what load wants, to the last double and number; and what an answer means says which answer it is.
use Prim.Native.Nat.{ℕ, ◌≤◌, ◌<◌}
use mathlib.Core.Path.{◌≡◌, refl, sym, ap, subst, ◌∙◌}
use mathlib.Core.Bool.{Bool, true, false, ◌&&◌}
use mathlib.Core.List.{List}
use mathlib.Core.Option.{Option, none, some}
use Rattle.std.specs.Prelude.{None}
use borrow.Author.Tests.{le-leb, lt-leb}
use lib.Dec.{leb}
use lib.ListN.{length}
use lib.Ieee.{Float}
use Rattle.refusal.specs.declared.Refusal.{Refusal}
use Rattle.refusal.specs.declared.Numbers.{Numbers}
use Rattle.refusal.proofs.Meaning.{differ, by_numbers, refusal_back}
use Rattle.storage.specs.Part.{store}
use Rattle.sheet.specs.declared.Starts.{Starts}
use Rattle.sheet.specs.Sheet.{Sheet}
use Rattle.layout.specs.declared.Layout.{Layout}
use Rattle.layout.specs.Shapes.{pick, doubles_needed}
use Rattle.heading_format.specs.Heading.{numbers_needed}
use Rattle.workspace.specs.Answers.{Outcome, accept, unchanged, untouched}
use Rattle.workspace.specs.Load.{heading_of, doubles_of, after_gate, load_of}
use Rattle.load.specs.declared.judge.Passed.{Passed}
use Rattle.load.specs.declared.room.Room.{Room}
use Rattle.load.specs.judge.Judged.{passed, judged_of}
use Rattle.load.specs.room.Needs.{room_of, after_judged, needs_of, NeedsMeaning, needs_meaning, NeedsExactly}
use Rattle.load.proofs.judge.Judging.{judged_loads, refused_out}
use Rattle.std.specs.Prelude.{Result, Ok, Err}

-- ---- needs by the judgement at hand
module _ (s : List ℕ) where
  pub needs_room : {p : Passed} {room : Room} → Ok p ≡ judged_of s → room ≡ room_of p.layout → Ok room ≡ needs_of s
  unfolding needs_of
  needs_room e q = ap Ok q ∙ ap after_judged e

  pub needs_refused : {r : Refusal} → Err r ≡ judged_of s → Err r ≡ needs_of s
  unfolding needs_of
  needs_refused e = ap after_judged e

-- ---- and back: a room is that of the layout of a sheet that passes
wanted : (j : Result Passed Refusal) (room : Room) → after_judged j ≡ Ok room → (z : Starts) × (y : Layout) × (j ≡ Ok (passed z y)) × (room ≡ room_of y)
wanted (Ok p) room e = let same : room_of p.layout ≡ room = cc in (p.starts, p.layout, refl, sym same)
wanted (Err r) room e = absurd (differ (sym e))

denied : (j : Result Passed Refusal) (r : Refusal) → after_judged j ≡ Err r → j ≡ Err r
denied (Ok p) r e = absurd (differ e)
denied (Err f) r e = let same : f ≡ r = cc in ap Err same

-- ---- what load answers past the gate, by the lengths
module _ (sheet : Sheet) (y : Layout) (h : List ℕ) (w : List Float) where
  roomy : doubles_needed y ≤ length w → numbers_needed y ≤ length h → (after_gate None sheet y h w).answer ≡ (Ok tt)
  roomy d n = rw (le-leb (numbers_needed y) (length h) n, le-leb (doubles_needed y) (length w) d) refl

  few_numbers : length h < numbers_needed y → after_gate None sheet y h w ≡ untouched h w 12 0 0
  few_numbers n = rw (lt-leb (numbers_needed y) (length h) n) refl

  few_doubles : length w < doubles_needed y → after_gate None sheet y h w ≡ untouched h w 12 0 0
  few_doubles d = rw (lt-leb (doubles_needed y) (length w) d) (go (leb (numbers_needed y) (length h)))
    where
      go : (b : Bool) → pick (b && false) (accept (store 0 (heading_of sheet y) h) (store 0 (doubles_of sheet y) w)) (untouched h w 12 0 0) ≡ untouched h w 12 0 0
      go true = refl
      go false = refl

-- NEEDS SAYS EXACTLY WHAT LOAD WANTS.
module _ (s h : List ℕ) (w : List Float) where
  -- load of a sheet that has a room, by the layout that the room is of
  by_layout : (room : Room) → needs_of s ≡ Ok room → (sheet : Sheet) × (y : Layout) × (room ≡ room_of y) × (load_of s h w ≡ after_gate None sheet y h w)
  unfolding needs_of
  by_layout room e =
      let p = wanted (judged_of s) room e in
      let g = judged_loads s p.0 p.1 p.2 h w in (g.0, p.1, p.3, g.2)

  by_refusal : (r : Refusal) → needs_of s ≡ Err r → load_of s h w ≡ unchanged h w r
  unfolding needs_of
  by_refusal r e = refused_out s r h w (denied (judged_of s) r e)

  pub needs_exactly : NeedsExactly s h w
  needs_exactly =
      record {
        enough = λ room e d n. let g = by_layout room e in
            ap (λ (o : Outcome). o.answer) g.3 ∙ roomy g.0 g.1 h w (subst (λ (x : Room). x.doubles ≤ length w) g.2 d) (subst (λ (x : Room). x.numbers ≤ length h) g.2 n);
        few_doubles = λ room e d. let g = by_layout room e in g.3 ∙ few_doubles g.0 g.1 h w (subst (λ (x : Room). length w < x.doubles) g.2 d);
        few_numbers = λ room e n. let g = by_layout room e in g.3 ∙ few_numbers g.0 g.1 h w (subst (λ (x : Room). length h < x.numbers) g.2 n);
        denied = by_refusal;
      }

-- ---- what an answer means says which answer it is
abbrev needs_by : Option ℕ → Option ℕ → Numbers → Result Room Refusal
needs_by (some d) (some n) f = Ok (record { doubles = d; numbers = n })
needs_by (some d) none f = Err (by_numbers f)
needs_by none n f = Err (by_numbers f)

needs_back : (a : Result Room Refusal) → needs_by (needs_meaning a).doubles (needs_meaning a).numbers (needs_meaning a).refusal ≡ a
needs_back (Ok room) = refl
needs_back (Err r) = ap Err (refusal_back r)

pub needs_meaning_injective : (a b : Result Room Refusal) → needs_meaning a ≡ needs_meaning b → a ≡ b
needs_meaning_injective a b e = sym (needs_back a) ∙ ap (λ (m : NeedsMeaning). needs_by m.doubles m.numbers m.refusal) e ∙ needs_back b
