-- What load wants of a sheet (document 01, 12 "workspace too short" and Record 2's formula): how many doubles and numbers, or the refusal, 1 to 11, that it
-- gives whatever it is lent.
use Rattle.std.specs.Prelude.{ℕ, ◌≤◌, ◌<◌, ◌≡◌, List, length, Float, Result, Ok, Err}
use Rattle.std.proofs.Math.Option.{Option, none, some}
use Rattle.refusal.specs.declared.Refusal.{Refusal}
use Rattle.refusal.specs.declared.Numbers.{Numbers}
use Rattle.refusal.specs.Numbers.{numbers_of, no_refusal}
use Rattle.layout.specs.declared.Layout.{Layout}
use Rattle.layout.specs.Shapes.{doubles_needed}
use Rattle.heading_format.specs.Heading.{numbers_needed}
use Rattle.workspace.specs.Answers.{unchanged, untouched}
use Rattle.workspace.specs.Load.{load_of}
use Rattle.load.specs.declared.room.Room.{Room}
use Rattle.load.specs.declared.judge.Passed.{Passed}
use Rattle.load.specs.judge.Judged.{judged_of}

-- the room of a layout: Record 2's q + k + D + 2X + 2F + 1 doubles, and 128 numbers with one more for each column of a sparse pair
abbrev pub room_of : Layout → Room
room_of y = record { doubles = doubles_needed y; numbers = numbers_needed y }

-- what is wanted of a sheet as it is judged
abbrev pub after_judged : Result Passed Refusal → Result Room Refusal
after_judged (Ok p) = Ok (room_of p.layout)
after_judged (Err r) = Err r

-- NEEDS of the bytes s
unfoldable pub needs_of : List ℕ → Result Room Refusal
unfolding judged_of
needs_of s = after_judged (judged_of s)

-- WHAT AN ANSWER MEANS: number and places of a refusal, 0 where there is none, and doubles and numbers where there is none
pub record NeedsMeaning : Type 0 where
  pub refusal : Numbers
  pub doubles : Option ℕ
  pub numbers : Option ℕ

abbrev pub needs_meaning : Result Room Refusal → NeedsMeaning
needs_meaning (Ok room) = record { refusal = no_refusal; doubles = some room.doubles; numbers = some room.numbers }
needs_meaning (Err r) = record { refusal = numbers_of r; doubles = none; numbers = none }

-- WHAT IT IS GOOD FOR: needs says before any list is there what load of the same bytes answers on h and w (theorem proofs/room/NeedsExactly.needs-exactly)
pub record NeedsExactly (s h : List ℕ) (w : List Float) : Type 0 where
  -- lists that have the room are loaded
  pub enough : (room : Room) → needs_of s ≡ Ok room → room.doubles ≤ length w → room.numbers ≤ length h → (load_of s h w).answer ≡ (Ok tt)
  -- where one list is shorter, by one double or number even: 12, and both stay as they are
  pub few_doubles : (room : Room) → needs_of s ≡ Ok room → length w < room.doubles → load_of s h w ≡ untouched h w 12 0 0
  pub few_numbers : (room : Room) → needs_of s ≡ Ok room → length h < room.numbers → load_of s h w ≡ untouched h w 12 0 0
  -- what needs refuses load refuses, by the same number and places, into lists of any length
  pub denied : (r : Refusal) → needs_of s ≡ Err r → load_of s h w ≡ unchanged h w r
