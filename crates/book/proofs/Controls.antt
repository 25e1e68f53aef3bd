-- The calls and the book side by side on document 01's worked sheet, refused calls included, by computation.
use Prim.Native.Nat.{ℕ}
use mathlib.Core.Path.{◌≡◌, refl}
use mathlib.Core.Bool.{true, false}
use mathlib.Core.List.{List, [], ◌∷◌}
use native.Mathlib.Decide.{ℕ_discrete}
use lib.ListN.{replicate, take, drop}
use lib.Ieee.{Float, inf}
use Rattle.step_order.specs.Steps.{S, C, T}
use Rattle.sheet.specs.Sheet.{Sheet}
use Rattle.refusal.specs.Numbers.{numbers}
use Rattle.heading_format.specs.declared.State.TheVariants.{Finished}
use Rattle.heading_format.specs.Heading.{progress_of}
use Rattle.workspace.specs.Memory.{Workspace}
use Rattle.workspace.specs.Load.{load_sheet}
use Rattle.workspace.specs.Response.{response, replace_of}
use Rattle.update.specs.Calls.{begin_of, step_of, run_of}
use Rattle.profile.specs.declared.Deviance.TheVariants.{Value}
use Rattle.profile.specs.Deviance.{profile_of}
use Rattle.workspace.specs.Compute.{word, words}
use Rattle.update.specs.Compute.{steps}
use Rattle.book.specs.Calls as Calls
use Rattle.book.specs.Calls.{Call, begin, step, replace_response, profile_deviance, Reply, deviance, refusal_of, replies, left_by}
use Rattle.book.specs.Book.{Book, entered, opened, book_replies, book_after, book_left, book_state}
use Rattle.heading_format.specs.Parts.{heading_length}
use Rattle.sheet.proofs.Made.{counts_with}
use Rattle.std.specs.Prelude.{Ok}

abbrev sheet : Sheet
sheet =
    record {
      counts = counts_with 3 1 1 1 1;
      blocks = record { m = 1; e = 1 } ∷ [];
      zz = record { line = 3; col = 0; row = 0; word = 0x4008000000000000 } ∷ [];
      zx = 0x4000000000000000 ∷ [];
      zy = 0x4010000000000000 ∷ [];
      xx = 0x4014000000000000 ∷ [];
      xy = 0x4018000000000000 ∷ [];
      yy = 0x4022000000000000;
    }

abbrev one : Float
one = word 0x3ff0000000000000

unfoldable reply_numbers : List Reply → List ℕ
reply_numbers [] = []
reply_numbers (r ∷ l) = (refusal_of r).number ∷ reply_numbers l

-- The new y'y is too small: the last pivot, block 1, row 1, is refused from there on. The last list of calls ends before it.
abbrev calls : List Call
calls =
    step (T 1 0)
    ∷ begin (one ∷ one ∷ [])
    ∷ begin (inf false ∷ [])
    ∷ begin (one ∷ [])
    ∷ step (C 9)
    ∷ step (T 1 0)
    ∷ step (C 0)
    ∷ step (C 0)
    ∷ step (T 1 0)
    ∷ replace_response (response (one ∷ []) (one ∷ []) (inf true ∷ []))
    ∷ replace_response (response (word 0x4010000000000000 ∷ []) (word 0x4018000000000000 ∷ []) (one ∷ []))
    ∷ step (S 1 1 0)
    ∷ profile_deviance (one ∷ []) true
    ∷ step (C 0)
    ∷ begin (one ∷ [])
    ∷ step (C 0)
    ∷ step (T 1 0)
    ∷ step (S 1 1 0)
    ∷ []

abbrev expected : List ℕ
expected = 22 ∷ 13 ∷ 14 ∷ 0 ∷ 21 ∷ 24 ∷ 0 ∷ 23 ∷ 0 ∷ 14 ∷ 0 ∷ 22 ∷ 26 ∷ 22 ∷ 0 ∷ 0 ∷ 0 ∷ 0 ∷ []

unfoldable loaded : Workspace
unfolding steps load_sheet
loaded = (load_sheet sheet (replicate heading_length 0) (replicate 16 (inf false))).left

unfoldable called : List ℕ
unfolding steps ℕ_discrete loaded reply_numbers replies begin_of step_of replace_of profile_of
called = reply_numbers (replies calls loaded)

unfoldable booked : List ℕ
unfolding steps ℕ_discrete reply_numbers book_replies load_sheet begin_of run_of replace_of profile_of
booked = reply_numbers (book_replies sheet calls (opened sheet))

unfoldable left : Workspace
unfolding called left_by
left = left_by calls loaded

unfoldable booked_after : Book
unfolding booked book_after
booked_after = book_after sheet calls (opened sheet)

calls_answer : called ≡ expected
unfolding called
calls_answer = refl

book_answers : booked ≡ expected
unfolding booked
book_answers = refl

-- one step is left, and with none all four
called_left : (progress_of left.heading).left ≡ 1
unfolding left
called_left = refl

booked_left : book_left sheet booked_after.done ≡ 1
unfolding booked_after
booked_left = refl

opened_left : book_left sheet (opened sheet).done ≡ (progress_of loaded.heading).left
unfolding loaded progress_of
opened_left = refl

-- the loaded reply_numbers are the book's: 3, 2 over 4, 5 6 and the new 1
abbrev numbers_now : List ℕ
numbers_now =
    0x4008000000000000 ∷ 0x4000000000000000 ∷ 0x4010000000000000 ∷ 0x4014000000000000 ∷ 0x4018000000000000 ∷ 0x3ff0000000000000 ∷ []

called_loaded : words (take 6 left.doubles) ≡ numbers_now
unfolding left words
called_loaded = refl

booked_loaded : words booked_after.loaded ≡ numbers_now
unfolding booked_after words
booked_loaded = refl

-- C(1) is ready, and refuses its pivot in both
last_refused : refusal_of (Calls.called (step (C 1)) left).reply ≡ numbers 26 1 1
unfolding left step_of
last_refused = refl

book_refused : refusal_of (entered sheet (step (C 1)) booked_after).reply ≡ numbers 26 1 1
unfolding booked_after
book_refused = refl

-- ---- a second list, to the end of an update by steps and by `profile_deviance`: 22 with all steps done, whatever the step
abbrev calls_to_end : List Call
calls_to_end =
    begin (one ∷ [])
    ∷ step (C 0)
    ∷ step (T 1 0)
    ∷ step (S 1 1 0)
    ∷ step (C 1)
    ∷ step (C 0)
    ∷ step (C 9)
    ∷ profile_deviance (one ∷ []) false
    ∷ step (C 0)
    ∷ []

abbrev expected_to_end : List ℕ
expected_to_end = 0 ∷ 0 ∷ 0 ∷ 0 ∷ 0 ∷ 22 ∷ 22 ∷ 0 ∷ 22 ∷ []

calls_end : reply_numbers (replies calls_to_end loaded) ≡ expected_to_end
unfolding called
calls_end = refl

book_ends : reply_numbers (book_replies sheet calls_to_end (opened sheet)) ≡ expected_to_end
unfolding booked
book_ends = refl

calls_finished : (progress_of (left_by calls_to_end loaded).heading).state ≡ Finished
unfolding left
calls_finished = refl

book_finished : book_state sheet (book_after sheet calls_to_end (opened sheet)).done ≡ Finished
unfolding booked_after
book_finished = refl

-- theta is kept, here 1
called_theta : words (take 1 (drop 6 (left_by calls_to_end loaded).doubles)) ≡ 0x3ff0000000000000 ∷ []
unfolding left words
called_theta = refl

booked_theta : words (book_after sheet calls_to_end (opened sheet)).theta ≡ 0x3ff0000000000000 ∷ []
unfolding booked_after words
booked_theta = refl

-- a deviance in the mode that is asked for: by ML 3 ln(2π/3) + 2 ln 2 + 3, by REML 2 ln(2π/2) + 2 ln 2 + 2 + 2 ln 2, in Python's doubles
modes_called : ((Calls.called (profile_deviance (one ∷ []) false) loaded).reply ≡ deviance (Ok (Value (word 0x401a6a963a085b3b))))
    × ((Calls.called (profile_deviance (one ∷ []) true) loaded).reply ≡ deviance (Ok (Value (word 0x401c3f89a3f0edd6))))
unfolding called
modes_called = (refl, refl)
