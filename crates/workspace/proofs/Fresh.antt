-- What an accepted load leaves is a workspace: its heading is not refused with 20.
use Prim.Native.Nat.{ℕ, ◌≤◌}
use mathlib.Core.Path.{◌≡◌, refl, sym, ap}
use mathlib.Core.Bool.{Bool, true, false, cond, true≢false, and-eq-true_iff}
use mathlib.Core.List.{List}
use Rattle.std.specs.Prelude.{Option, None, Some}
use native.Mathlib.Omega.{arith}
use lib.Dec.{leb, eqb}
use lib.ListN.{length}
use lib.Ieee.{Float}
use borrow.Author.Tests.{leb-true, eqb-true}
use Rattle.refusal.specs.declared.Refusal.{Refusal}
use Rattle.storage.specs.Part.{store}
use Rattle.storage.proofs.Parts.{length_store}
use Rattle.sheet.specs.Sheet.{Sheet, accepted, refused, sheet_of}
use Rattle.sheet.specs.Sheet as Sheets
use Rattle.sheet.specs.Fault.{fault_number, named_line}
use Rattle.sheet.specs.Answer.{checked}
use Rattle.layout.specs.declared.Layout.{Layout}
use Rattle.layout.specs.Shapes.{pick, pairs, doubles_needed}
use Rattle.heading_format.specs.Heading.{valid_heading, numbers_needed}
use Rattle.workspace.specs.Answers.{Outcome, accept, untouched}
use Rattle.workspace.specs.Loaded.{first_refused_pair, layout_of_sheet}
use Rattle.workspace.specs.Load.{heading_of, doubles_of, has_room, after_gate, load_sheet, load_of}
use Rattle.workspace.proofs.Lengths.{length_doubles}
use Rattle.workspace.proofs.ValidHeading.{load_stored}
use Rattle.std.specs.Prelude.{Result, Ok, Err}

abbrev is_accepted : Result Unit Refusal → Bool
is_accepted (Ok tt) = true
is_accepted (Err r) = false

-- an accepted outcome is a workspace
abbrev Good : Outcome → Type 0
Good o = is_accepted o.answer ≡ true → valid_heading o.left.heading (length o.left.doubles) ≡ true

module _ (h : List ℕ) (w : List Float) where
  refused_good : (n a b : ℕ) → Good (untouched h w n a b)
  refused_good n a b e = absurd (true≢false (sym e))

  room_good : (sheet : Sheet) (y : Layout) (b : Bool) → (b ≡ true → Good (accept (store 0 (heading_of sheet y) h) (store 0 (doubles_of sheet y) w)))
      → Good (pick b (accept (store 0 (heading_of sheet y) h) (store 0 (doubles_of sheet y) w)) (untouched h w 12 0 0))
  room_good sheet y true f = f refl
  room_good sheet y false f = refused_good 12 0 0

  gate_good : (sheet : Sheet) (y : Layout) (g : Option Refusal)
      → (g ≡ None → has_room y h w ≡ true → Good (accept (store 0 (heading_of sheet y) h) (store 0 (doubles_of sheet y) w))) → Good (after_gate g sheet y h w)
  gate_good sheet y None f = room_good sheet y (has_room y h w) (f refl)
  gate_good sheet y (Some r) f = λ e. absurd (true≢false (sym e))

  module _ (s : List ℕ) where
    sheet_good : (sheet : Sheet) (starts : _) → sheet_of s ≡ accepted sheet starts → fault_number sheet ≡ 0 → Good (load_sheet sheet h w)
    unfolding load_sheet
    sheet_good sheet starts e fine =
        let y : Layout = layout_of_sheet sheet in
        gate_good sheet y (first_refused_pair sheet y (pairs y.k))
        (λ gate room ok.
        let fits : doubles_needed y ≤ length w = leb-true (doubles_needed y) (length w) ((and-eq-true_iff (leb (numbers_needed y) (length h)) (leb (doubles_needed y) (length w))).0 room).1 in
        load_stored s sheet starts e fine gate (length (store 0 (doubles_of sheet y) w))
        (omega (arith, fits, length_doubles sheet y, length_store 0 (doubles_of sheet y) w (omega (arith, fits, length_doubles sheet y)))) h)

    checked_good : (sheet : Sheet) (b : Bool) → (b ≡ true → Good (load_sheet sheet h w)) → Good (cond b (load_sheet sheet h w) (untouched h w (fault_number sheet) (named_line sheet) 0))
    checked_good sheet true f = f refl
    checked_good sheet false f = refused_good (fault_number sheet) (named_line sheet) 0

    parsed_good : (p : Sheets.Outcome) → sheet_of s ≡ p → Good (checked (λ number line. untouched h w number line 0) (λ sheet starts. load_sheet sheet h w) p)
    parsed_good (refused number line) e = refused_good number line 0
    parsed_good (accepted sheet starts) e = checked_good sheet (eqb (fault_number sheet) 0) (λ b. sheet_good sheet starts e (eqb-true (fault_number sheet) 0 b))

    -- "20 never comes", of a workspace just loaded
    pub loads_valid_heading : (load_of s h w).answer ≡ (Ok tt) → let v = (load_of s h w).left in valid_heading v.heading (length v.doubles) ≡ true
    unfolding load_of
    loads_valid_heading e = parsed_good (sheet_of s) refl (ap is_accepted e)
