-- "a freshly loaded workspace with the same loaded numbers" (mission, demand 3) is one that load leaves: whatever was called before, with binary64 numbers in the
-- responses, some sheet has these numbers.
use Rattle.std.specs.Prelude.{ℕ, ◌^◌, ◌<◌, ◌≡◌, List, length, Float, Ok}
use Rattle.sheet.specs.declared.Starts.{Starts}
use Rattle.sheet.specs.Sheet.{Sheet, accepted, sheet_of}
use Rattle.sheet.specs.Whole.{Each}
use Rattle.layout.specs.Shapes.{doubles_needed}
use Rattle.heading_format.specs.Heading.{numbers_needed}
use Rattle.workspace.specs.Answers.{accept}
use Rattle.workspace.specs.Loaded.{double}
use Rattle.workspace.specs.Load.{load_of}
use Rattle.workspace.specs.Response.{lists_of}
use Rattle.book.specs.Calls.{Call, begin, step, replace_response, profile_deviance}
use Rattle.book.specs.Book.{layout, opened, fresh, book_after}

-- the binary64 number of a word
abbrev pub IsDouble : Float → Type 0
IsDouble x = (word : ℕ) × (word < 2 ^ 64) × (x ≡ double word)

-- a response that a call is given has such numbers in its lists
abbrev pub InDoubles : Call → Type 0
InDoubles (begin theta) = Unit {0}
InDoubles (step s) = Unit {0}
InDoubles (replace_response r) = Each (λ (l : List Float). Each IsDouble l) (lists_of r)
InDoubles (profile_deviance theta reml) = Unit {0}

-- load of some bytes, into lists of the formula's lengths whatever they hold, leaves the fresh workspace with these loaded numbers
pub record IsLoaded (sheet : Sheet) (loaded : List Float) : Type 0 where
  pub bytes : List ℕ
  pub loads :
      (h : List ℕ) (w : List Float) → length h ≡ numbers_needed (layout sheet) → length w ≡ doubles_needed (layout sheet)
      → load_of bytes h w ≡ accept (fresh sheet loaded).heading (fresh sheet loaded).doubles

-- for every list of calls, with such numbers in its responses, from every accepted load
unfoldable pub FreshIsLoaded : Type 0
FreshIsLoaded =
    (bytes : List ℕ) (sheet : Sheet) (starts : Starts) (h : List ℕ) (w : List Float)
    → sheet_of bytes ≡ accepted sheet starts → (load_of bytes h w).answer ≡ (Ok tt) → (calls : List Call) → Each InDoubles calls
    → IsLoaded sheet (book_after sheet calls (opened sheet)).loaded
