-- Load and `replace_response` by computation, on a sheet of two blocks whose sorted order is not the sheet's: block 0 has one level, block 1 two.
-- Its words are 1 to 14, so that each shows where it is put; the last diagonal entry, 5, is absent.
use Prim.Native.Nat.{ℕ}
use mathlib.Core.Path.{◌≡◌, refl}
use mathlib.Core.Bool.{true}
use mathlib.Core.List.{List, [], ◌∷◌, ◌++◌}
use mathlib.Core.Option.{some}
use lib.ListN.{replicate, set, take, drop}
use lib.Ieee.{nan, inf}
use Rattle.refusal.specs.Numbers.{numbers, refusal_of, refuse}
use Rattle.storage.specs.Runs.{tab}
use Rattle.sheet.specs.Text.{reading}
use Rattle.sheet.specs.Run.{Entry}
use Rattle.sheet.specs.Sheet.{Sheet}
use Rattle.layout.specs.Blocks.{sum}
use Rattle.heading_format.specs.Heading.{sheet_levels, layout_of}
use Rattle.workspace.specs.Compute.{leaves, word, words}
use Rattle.workspace.specs.Memory.{theta_of}
use Rattle.workspace.specs.Answers.{Outcome, untouched, first_infinite}
use Rattle.workspace.specs.Loaded.{layout_of_sheet, entry_row_in, row_of}
use Rattle.workspace.specs.Load.{load_sheet, load_of}
use Rattle.workspace.specs.Response.{Response, response, replace_of}
use Rattle.heading_format.specs.Parts.{progress_at, progress_end, heading_length}
use Rattle.sheet.proofs.Made.{counts_with}
use Rattle.std.specs.Prelude.{Ok}

abbrev at : ℕ → ℕ → ℕ → Entry
at col row w = record { line = 0; col = col; row = row; word = w }

abbrev sheet : Sheet
sheet =
    record {
      counts = counts_with 5 1 3 2 1;
      blocks = record { m = 1; e = 1 } ∷ record { m = 2; e = 1 } ∷ [];
      zz = at 0 0 1 ∷ at 0 1 2 ∷ at 0 2 3 ∷ at 1 0 2 ∷ at 1 1 4 ∷ at 2 0 3 ∷ [];
      zx = 6 ∷ 7 ∷ 8 ∷ [];
      zy = 9 ∷ 10 ∷ 11 ∷ [];
      xx = 12 ∷ [];
      xy = 13 ∷ [];
      yy = 14;
    }

-- a workspace with room for two doubles and one number more
unfoldable loaded : ℕ → Outcome
unfolding leaves load_sheet words
loaded room = load_sheet sheet (replicate 129 7) (replicate room (word 99))

-- no bytes: 2 at line 1, and no second place
no_bytes : load_of [] (replicate 3 7) [] ≡ untouched (replicate 3 7) [] 2 1 0
unfolding load_of reading
no_bytes = refl

-- diagonals 4, absent and 1; the pair by columns; Z'X over Z'y, column by column, of block 1 and then of block 0; the triangle; then +0.0; the rest stays
load_writes :
    words (loaded 33).left.doubles
    ≡ 4 ∷ 0 ∷ 1 ∷ 2 ∷ 3 ∷ 7 ∷ 10 ∷ 8 ∷ 11 ∷ 6 ∷ 9 ∷ 12 ∷ 13 ∷ 14 ∷ (replicate 17 0 ++ (99 ∷ 99 ∷ []))
unfolding loaded
load_writes = refl

-- n p q k, levels, sheet indexes, no sparse pair, block 1 a diagonal; progress none, ten steps left
heading_writes :
    take 24 (loaded 33).left.heading
    ≡ 5 ∷ 1 ∷ 3 ∷ 2 ∷ 2 ∷ 1 ∷ 0 ∷ 0 ∷ 0 ∷ 0 ∷ 0 ∷ 0 ∷ 1 ∷ 0 ∷ 0 ∷ 0 ∷ 0 ∷ 0 ∷ 0 ∷ 0 ∷ 0 ∷ 1 ∷ 0 ∷ 10 ∷ []
unfolding loaded
heading_writes = refl

heading_rest : drop 24 (loaded 33).left.heading ≡ replicate 104 0 ++ (7 ∷ [])
unfolding loaded
heading_rest = refl

-- 31 doubles are enough, 30 are 12 and stay as they are
just_enough : (loaded 31).answer ≡ (Ok tt)
unfolding loaded
just_enough = refl

too_short : loaded 30 ≡ record { answer = refuse 12 0 0; left = record { heading = replicate 129 7; doubles = replicate 30 (word 99) } }
unfolding loaded
too_short = refl

-- a heading of 127 numbers is too short as well
short_heading : load_sheet sheet (replicate 127 7) (replicate 31 (word 99)) ≡ untouched (replicate 127 7) (replicate 31 (word 99)) 12 0 0
unfolding loaded
short_heading = refl

-- ---- a response: Z'y by sheet rows, X'y, y'y, on a workspace whose working doubles are 99
unfoldable replaced : Response → Outcome
unfolding loaded replace_of
replaced r = let v = (loaded 33).left in replace_of v.heading (take 14 v.doubles ++ replicate 19 (word 99)) r

abbrev good : Response
good = response (word 20 ∷ word 21 ∷ word 22 ∷ []) (word 23 ∷ []) (word 24 ∷ [])

response_writes :
    words (replaced good).left.doubles
    ≡ 4 ∷ 0 ∷ 1 ∷ 2 ∷ 3 ∷ 7 ∷ 21 ∷ 8 ∷ 22 ∷ 6 ∷ 20 ∷ 12 ∷ 23 ∷ 24 ∷ replicate 19 99
unfolding replaced
response_writes = refl

-- every length before any word, and the place of a word
lengths_first : refusal_of (replaced (response (word 20 ∷ nan ∷ word 22 ∷ []) [] (nan ∷ []))).answer ≡ numbers 13 1 0
unfolding replaced
lengths_first = refl

last_length : refusal_of (replaced (response (word 20 ∷ nan ∷ word 22 ∷ []) (nan ∷ []) [])).answer ≡ numbers 13 2 0
unfolding replaced
last_length = refl

second_word : refusal_of (replaced (response (word 20 ∷ nan ∷ word 22 ∷ []) (nan ∷ []) (nan ∷ []))).answer ≡ numbers 14 0 1
unfolding replaced
second_word = refl

third_list : refusal_of (replaced (response (word 20 ∷ word 21 ∷ word 22 ∷ []) (word 23 ∷ []) (inf true ∷ []))).answer ≡ numbers 14 2 0
unfolding replaced
third_list = refl

-- 14 names the first of two; the largest doubles are finite
first_of_two : first_infinite 0 (word 0xffefffffffffffff ∷ word 0x7fefffffffffffff ∷ inf true ∷ nan ∷ []) ≡ some 2
unfolding leaves first_infinite
first_of_two = refl

-- An update that is under way ends, and so does a finished one: state 2, no step left, each target at its last stage.
ends_update :
    take progress_end (replace_of (set (loaded 33).left.heading progress_at 1) (loaded 33).left.doubles good).left.heading
    ≡ take progress_end (loaded 33).left.heading
unfolding loaded replace_of
ends_update = refl

abbrev finished : List ℕ
finished = take progress_at (loaded 33).left.heading ++ (2 ∷ 0 ∷ 1 ∷ 1 ∷ 2 ∷ 1 ∷ 2 ∷ 3 ∷ replicate 98 0)

ends_finished :
    (replace_of finished (loaded 33).left.doubles good).left.heading
    ≡ take heading_length (loaded 33).left.heading
unfolding loaded replace_of
ends_finished = refl

-- a heading against Record 5, here steps left one too many, is 20 before any list is looked at, and all stays
heading_first :
    replace_of (set (loaded 33).left.heading 23 11) (loaded 33).left.doubles (response [] [] [])
    ≡ untouched (set (loaded 33).left.heading 23 11) (loaded 33).left.doubles 20 0 0
unfolding loaded replace_of
heading_first = refl

-- ---- the gate: three blocks of 400, 400 and 1 levels are refused with 10, pair (1,0), though the workspace is too short as well
abbrev wide : Sheet
wide =
    record {
      counts = counts_with 5 1 801 3 1;
      blocks = record { m = 1; e = 1 } ∷ record { m = 400; e = 1 } ∷ record { m = 400; e = 1 } ∷ [];
      zz = [];
      zx = [];
      zy = [];
      xx = 12 ∷ [];
      xy = 13 ∷ [];
      yy = 14;
    }

pair_refused : load_sheet wide [] [] ≡ untouched [] [] 10 1 0
unfolding leaves load_sheet
pair_refused = refl

-- and two of 400 levels without an entry with 11
pair_full : load_sheet (record { counts = counts_with 5 1 800 2 1; blocks = record { m = 400; e = 1 } ∷ record { m = 400; e = 1 } ∷ []; zz = []; zx = []; zy = []; xx = 12 ∷ []; xy = 13 ∷ []; yy = 14 }) [] [] ≡ untouched [] [] 11 1 0
unfolding leaves load_sheet
pair_full = refl

-- the row, in block 1, of the entry of each column: here block 1 starts at row 2 of the sheet
abbrev swapped : Sheet
swapped =
    record {
      counts = counts_with 5 1 4 2 1;
      blocks = record { m = 2; e = 1 } ∷ record { m = 2; e = 1 } ∷ [];
      zz = at 0 3 1 ∷ at 1 2 1 ∷ at 2 1 1 ∷ at 3 0 1 ∷ [];
      zx = [];
      zy = [];
      xx = 12 ∷ [];
      xy = 13 ∷ [];
      yy = 14;
    }

entry_rows : tab 2 (entry_row_in swapped (layout_of_sheet swapped)) ≡ 1 ∷ 0 ∷ []
unfolding leaves layout_of_sheet row_of sum sheet_levels
entry_rows = refl

-- kept theta is in sheet order: of 20, 21, sorted block 0 has 21
kept_theta : words (tab 2 (theta_of (loaded 33).left.heading (replicate 14 (word 1) ++ (word 20 ∷ word 21 ∷ replicate 15 (word 1))))) ≡ 21 ∷ 20 ∷ []
unfolding loaded words layout_of
kept_theta = refl
