-- Document 01's worked sheet and others, by computation.
use Prim.Native.Nat.{ℕ}
use Prim.Native.String.{String}
use mathlib.Core.Path.{◌≡◌, refl}
use mathlib.Core.Bool.{true, false}
use mathlib.Core.List.{List, [], ◌∷◌, ◌++◌}
use lib.ListN.{take}
use Rattle.sheet.specs.declared.Counts.{Counts}
use Rattle.std.specs.Prelude.{Ok}
use Rattle.sheet.specs.declared.Starts.{Starts}
use Rattle.sheet.specs.Line.{size_line, block_line}
use Rattle.sheet.specs.Run.{block_verdict}
use Rattle.sheet.specs.Sheet.{Sheet, accepted, counts_within, size_verdict}
use Rattle.sheet.specs.Answer.{refused_with}
use Rattle.sheet.specs.Text.{ended, with_line, reading}
use Rattle.sheet.proofs.Notation.{without, read, load, refusal, faulty}
use Rattle.sheet.proofs.Made.{counts_with}

-- ---- the worked sheet
abbrev worked : List String
worked =
    "size 3 1 1 1 1"
    ∷ "block 1 1"
    ∷ "zz 0 0 4008000000000000"
    ∷ "zx 0 0 4000000000000000"
    ∷ "zy 0 4010000000000000"
    ∷ "xx 0 0 4014000000000000"
    ∷ "xy 0 4018000000000000"
    ∷ "yy 4022000000000000"
    ∷ []

abbrev counts : Counts
counts = counts_with 3 1 1 1 1

abbrev words : Sheet
words =
    record {
      counts = counts;
      blocks = record { m = 1; e = 1 } ∷ [];
      zz = record { line = 3; col = 0; row = 0; word = 0x4008000000000000 } ∷ [];
      zx = 0x4000000000000000 ∷ [];
      zy = 0x4010000000000000 ∷ [];
      xx = 0x4014000000000000 ∷ [];
      xy = 0x4018000000000000 ∷ [];
      yy = 0x4022000000000000;
    }

abbrev places : Starts
places = record { counts = counts; block = 15; zz = 25; zx = 49; zy = 73; xx = 95; xy = 119; yy = 141; end = 161; line = 9 }

worked_bytes : ended worked
    ≡ 115 ∷ 105 ∷ 122 ∷ 101 ∷ 9 ∷ 51 ∷ 9 ∷ 49 ∷ 9 ∷ 49 ∷ 9 ∷ 49 ∷ 9 ∷ 49 ∷ 10
    ∷ 98 ∷ 108 ∷ 111 ∷ 99 ∷ 107 ∷ 9 ∷ 49 ∷ 9 ∷ 49 ∷ 10
    ∷ 122 ∷ 122 ∷ 9 ∷ 48 ∷ 9 ∷ 48 ∷ 9 ∷ 52 ∷ 48 ∷ 48 ∷ 56 ∷ 48 ∷ 48 ∷ 48 ∷ 48 ∷ 48 ∷ 48 ∷ 48 ∷ 48 ∷ 48 ∷ 48 ∷ 48 ∷ 48 ∷ 10
    ∷ 122 ∷ 120 ∷ 9 ∷ 48 ∷ 9 ∷ 48 ∷ 9 ∷ 52 ∷ 48 ∷ 48 ∷ 48 ∷ 48 ∷ 48 ∷ 48 ∷ 48 ∷ 48 ∷ 48 ∷ 48 ∷ 48 ∷ 48 ∷ 48 ∷ 48 ∷ 48 ∷ 10
    ∷ 122 ∷ 121 ∷ 9 ∷ 48 ∷ 9 ∷ 52 ∷ 48 ∷ 49 ∷ 48 ∷ 48 ∷ 48 ∷ 48 ∷ 48 ∷ 48 ∷ 48 ∷ 48 ∷ 48 ∷ 48 ∷ 48 ∷ 48 ∷ 48 ∷ 10
    ∷ 120 ∷ 120 ∷ 9 ∷ 48 ∷ 9 ∷ 48 ∷ 9 ∷ 52 ∷ 48 ∷ 49 ∷ 52 ∷ 48 ∷ 48 ∷ 48 ∷ 48 ∷ 48 ∷ 48 ∷ 48 ∷ 48 ∷ 48 ∷ 48 ∷ 48 ∷ 48 ∷ 10
    ∷ 120 ∷ 121 ∷ 9 ∷ 48 ∷ 9 ∷ 52 ∷ 48 ∷ 49 ∷ 56 ∷ 48 ∷ 48 ∷ 48 ∷ 48 ∷ 48 ∷ 48 ∷ 48 ∷ 48 ∷ 48 ∷ 48 ∷ 48 ∷ 48 ∷ 10
    ∷ 121 ∷ 121 ∷ 9 ∷ 52 ∷ 48 ∷ 50 ∷ 50 ∷ 48 ∷ 48 ∷ 48 ∷ 48 ∷ 48 ∷ 48 ∷ 48 ∷ 48 ∷ 48 ∷ 48 ∷ 48 ∷ 48 ∷ 10
    ∷ []
unfolding ended
worked_bytes = refl

worked_is : read (ended worked) ≡ accepted words places
unfolding ended read
worked_is = refl

worked_loads : (load (ended worked) ≡ Ok places) × (refusal (ended worked) ≡ 0)
unfolding ended load refusal
worked_loads = (refl, refl)

-- the theta part stands behind the yy line: it is left for the program `factor`, and is too much for load
with_theta_lem : read (ended (worked ++ ("theta 0 3ff0000000000000" ∷ []))) ≡ accepted words places
unfolding ended read
with_theta_lem = refl

theta_left_over : load (ended (worked ++ ("theta 0 3ff0000000000000" ∷ []))) ≡ refused_with 2 9
unfolding ended load
theta_left_over = refl

-- ---- a sheet with no rows, and two fixed effects
no_rows : List String
no_rows =
    "size 3 2 0 0 1"
    ∷ "xx 0 0 4014000000000000"
    ∷ "xx 1 0 4014000000000000"
    ∷ "xx 1 1 4014000000000000"
    ∷ "xy 0 4018000000000000"
    ∷ "xy 1 4018000000000000"
    ∷ "yy 4022000000000000"
    ∷ []

no_rows_is : read (ended no_rows)
    ≡ accepted
    (record {
      counts = counts_with 3 2 0 0 1;
      blocks = [];
      zz = [];
      zx = [];
      zy = [];
      xx = 0x4014000000000000 ∷ 0x4014000000000000 ∷ 0x4014000000000000 ∷ [];
      xy = 0x4018000000000000 ∷ 0x4018000000000000 ∷ [];
      yy = 0x4022000000000000;
    })
    (record {
      counts = counts_with 3 2 0 0 1;
      block = 15;
      zz = 15;
      zx = 15;
      zy = 15;
      xx = 15;
      xy = 87;
      yy = 131;
      end = 151;
      line = 8;
    })
unfolding ended read no_rows
no_rows_is = refl

-- ---- 2: lines that are ill-formed, missing or out of sequence
-- the worked sheet with another line in the place of line n
abbrev but : ℕ → String → List ℕ
but n l = ended (with_line n l worked)

ill_formed : (load [] ≡ refused_with 2 1)
    × (load (take 160 (ended worked)) ≡ refused_with 2 8)
    × (load (ended (worked ++ ("" ∷ []))) ≡ refused_with 2 9)
    × (load (but 1 "size 3 01 1 1 1") ≡ refused_with 2 1)
    × (load (but 1 "size 3 -1 1 1 1") ≡ refused_with 2 1)
    × (load (but 1 "size 3 +1 1 1 1") ≡ refused_with 2 1)
    × (load (but 1 "size 3  1 1 1") ≡ refused_with 2 1)
    × (load (but 1 "size 3  1 1 1 1") ≡ refused_with 2 1)
    × (load (but 2 "block 1 1 ") ≡ refused_with 2 2)
    × (load (but 2 "block 1_1") ≡ refused_with 2 2)
    × (load (but 2 "block 1 1\r") ≡ refused_with 2 2)
    × (load (but 2 "") ≡ refused_with 2 2)
    × (load (but 3 "zz 00 0 4008000000000000") ≡ refused_with 2 3)
    × (load (but 3 "zz 0 0 400800000000000F") ≡ refused_with 2 3)
    × (load (but 3 "zz 0 0 400800000000000") ≡ refused_with 2 3)
    × (load (but 3 "zz 0 0 40080000000000000") ≡ refused_with 2 3)
unfolding ended load
ill_formed = (refl, refl, refl, refl, refl, refl, refl, refl, refl, refl, refl, refl, refl, refl, refl, refl)

-- a line that is missing has the number of what stands in its place; an index that is prescribed is never out of range
missing : (load (ended (without 2 worked)) ≡ refused_with 2 2)
    × (load (ended (without 5 worked)) ≡ refused_with 2 5)
    × (load (ended (without 8 worked)) ≡ refused_with 2 8)
    × (load (but 4 "zx 9 0 4000000000000000") ≡ refused_with 2 4)
    × (load (but 5 "zx 0 0 4000000000000000") ≡ refused_with 2 5)
unfolding ended load
missing = (refl, refl, refl, refl, refl)

-- ---- 3 and 4, and their order on a line
not_finite : (load (but 3 "zz 0 0 7ff0000000000000") ≡ refused_with 3 3)
    × (load (but 5 "zy 0 fff0000000000000") ≡ refused_with 3 5)
    × (load (but 8 "yy 7ff8000000000000") ≡ refused_with 3 8)
    × (load (but 3 "zz 0 7 7ff0000000000000") ≡ refused_with 3 3)
unfolding ended load
not_finite = (refl, refl, refl, refl)

out_of_range : (load (but 1 "size 0 1 1 1 1") ≡ refused_with 4 1)
    × (load (but 1 "size 1000000001 1 1 1 1") ≡ refused_with 4 1)
    × (load (but 1 "size 3 0 1 1 1") ≡ refused_with 4 1)
    × (load (but 1 "size 3 33 1 1 1") ≡ refused_with 4 1)
    × (load (but 1 "size 3 1 524281 1 1") ≡ refused_with 4 1)
    × (load (but 1 "size 3 1 1 9 1") ≡ refused_with 4 1)
    × (load (but 1 "size 3 1 1 1 2") ≡ refused_with 4 1)
    × (load (but 1 "size 18446744073709551617 1 1 1 1") ≡ refused_with 4 1)
    × (load (but 3 "zz 0 1 4008000000000000") ≡ refused_with 4 3)
    × (load (but 3 "zz 1 0 4008000000000000") ≡ refused_with 4 3)
unfolding ended load
out_of_range = (refl, refl, refl, refl, refl, refl, refl, refl, refl, refl)

-- ---- the ends of the ranges: both ends are within, and what is one past an end is not
counts_at_ends : (counts_within (counts_with 1 1 0 0 0) ≡ true) × (counts_within (counts_with 1000000000 32 524280 8 1) ≡ true)
counts_at_ends = (refl, refl)

counts_past_ends : (counts_within (counts_with 0 1 0 0 0) ≡ false)
    × (counts_within (counts_with 1000000001 32 524280 8 1) ≡ false)
    × (counts_within (counts_with 1 0 0 0 0) ≡ false)
    × (counts_within (counts_with 1000000000 33 524280 8 1) ≡ false)
    × (counts_within (counts_with 1000000000 32 524281 8 1) ≡ false)
    × (counts_within (counts_with 1000000000 32 524280 9 1) ≡ false)
    × (counts_within (counts_with 1000000000 32 524280 8 2) ≡ false)
counts_past_ends = (refl, refl, refl, refl, refl, refl, refl)

-- the same as lines: what the verdict on a size line and on a block line is, alone in the bytes
abbrev size_verdict_lem : String → ℕ
size_verdict_lem l = size_verdict (size_line (ended (l ∷ [])) 0)

abbrev block_verdict_lem : String → ℕ
block_verdict_lem l = block_verdict (0, 0) (block_line (ended (l ∷ [])) 0)

size_lines : (size_verdict_lem "size 1 1 0 0 0" ≡ 0)
    × (size_verdict_lem "size 1000000000 32 524280 8 1" ≡ 0)
    × (size_verdict_lem "size 0 1 0 0 0" ≡ 4)
    × (size_verdict_lem "size 1000000001 32 524280 8 1" ≡ 4)
    × (size_verdict_lem "size 1 0 0 0 0" ≡ 4)
    × (size_verdict_lem "size 1000000000 33 524280 8 1" ≡ 4)
    × (size_verdict_lem "size 1000000000 32 524281 8 1" ≡ 4)
    × (size_verdict_lem "size 1000000000 32 524280 9 1" ≡ 4)
    × (size_verdict_lem "size 1000000000 32 524280 8 2" ≡ 4)
unfolding ended reading
size_lines = (refl, refl, refl, refl, refl, refl, refl, refl, refl)

block_lines_lem : (block_verdict_lem "block 1 1" ≡ 0)
    × (block_verdict_lem "block 65535 1" ≡ 0)
    × (block_verdict_lem "block 1 16" ≡ 0)
    × (block_verdict_lem "block 65535 16" ≡ 0)
    × (block_verdict_lem "block 0 1" ≡ 4)
    × (block_verdict_lem "block 65536 1" ≡ 4)
    × (block_verdict_lem "block 1 0" ≡ 4)
    × (block_verdict_lem "block 1 17" ≡ 4)
unfolding ended reading
block_lines_lem = (refl, refl, refl, refl, refl, refl, refl, refl)

-- in a sheet: what is within the ranges comes to 5 to 9, what is not is refused on its line
blocks_in_sheet : (refusal (but 2 "block 65535 1") ≡ 8)
    × (refusal (but 2 "block 1 16") ≡ 7)
    × (load (but 2 "block 0 1") ≡ refused_with 4 2)
    × (load (but 2 "block 65536 1") ≡ refused_with 4 2)
    × (load (but 2 "block 1 0") ≡ refused_with 4 2)
    × (load (but 2 "block 1 17") ≡ refused_with 4 2)
unfolding ended load refusal
blocks_in_sheet = (refl, refl, refl, refl, refl, refl)

-- ---- two blocks: rows 0 and 1, and row 2. Entry (0, 2) and its mirror, and three entries on the diagonal, which are their own mirrors.
crossed : List String
crossed =
    "size 5 1 3 2 1"
    ∷ "block 2 1"
    ∷ "block 1 1"
    ∷ "zz 0 0 3ff0000000000000"
    ∷ "zz 0 2 4000000000000000"
    ∷ "zz 1 1 3ff0000000000000"
    ∷ "zz 2 0 4000000000000000"
    ∷ "zz 2 2 3ff0000000000000"
    ∷ "zx 0 0 4000000000000000"
    ∷ "zx 1 0 4000000000000000"
    ∷ "zx 2 0 4000000000000000"
    ∷ "zy 0 4010000000000000"
    ∷ "zy 1 4010000000000000"
    ∷ "zy 2 4010000000000000"
    ∷ "xx 0 0 4014000000000000"
    ∷ "xy 0 4018000000000000"
    ∷ "yy 4022000000000000"
    ∷ []

abbrev crossed_but : ℕ → String → List ℕ
crossed_but n l = ended (with_line n l crossed)

crossed_is : (refusal (ended crossed) ≡ 0) × (faulty (ended crossed) ≡ [])
unfolding ended refusal faulty crossed
crossed_is = (refl, refl)

-- zz lines rise, and none comes twice: 2, before 3 and 4
rising : (load (crossed_but 6 "zz 0 1 3ff0000000000000") ≡ refused_with 2 6)
    × (load (crossed_but 6 "zz 0 2 3ff0000000000000") ≡ refused_with 2 6)
    × (load (crossed_but 7 "zz 0 9 7ff0000000000000") ≡ refused_with 2 7)
unfolding ended load crossed
rising = (refl, refl, refl)

-- ---- 5 to 8, in their order
whole_sheet : (refusal (crossed_but 1 "size 5 1 3 2 0") ≡ 5)
    × (refusal (ended (with_line 1 "size 3 2 0 0 0" no_rows)) ≡ 5)
    × (refusal (ended no_rows) ≡ 6)
    × (refusal (crossed_but 2 "block 2 2") ≡ 7)
    × (refusal (crossed_but 2 "block 4 2") ≡ 7)
    × (refusal (crossed_but 2 "block 4 1") ≡ 8)
unfolding ended refusal crossed no_rows
whole_sheet = (refl, refl, refl, refl, refl, refl)

-- they name no line, though one is faulty
whole_sheet_names : (load (ended (with_line 1 "size 5 1 3 2 0" (without 7 crossed))) ≡ refused_with 5 0)
    × (load (ended (with_line 2 "block 2 2" (without 7 crossed))) ≡ refused_with 7 0)
    × (load (ended (with_line 2 "block 4 1" (without 7 crossed))) ≡ refused_with 8 0)
unfolding ended load crossed
whole_sheet_names = (refl, refl, refl)

-- ---- 9 names the first faulty line
-- a word that is +0 or -0
zero_words : (load (crossed_but 6 "zz 1 1 8000000000000000") ≡ refused_with 9 6)
    × (faulty (crossed_but 6 "zz 1 1 8000000000000000") ≡ 6 ∷ [])
    × (faulty (crossed_but 6 "zz 1 1 0000000000000000") ≡ 6 ∷ [])
unfolding ended load faulty crossed
zero_words = (refl, refl, refl)

-- a zero whose mirror is another zero, or not zero: two faulty lines
zero_mirrors : (faulty (ended (with_line 5 "zz 0 2 0000000000000000" (with_line 7 "zz 2 0 8000000000000000" crossed))) ≡ 5 ∷ 7 ∷ [])
    × (load (crossed_but 7 "zz 2 0 0000000000000000") ≡ refused_with 9 5)
    × (faulty (crossed_but 7 "zz 2 0 0000000000000000") ≡ 5 ∷ 7 ∷ [])
unfolding ended load faulty crossed
zero_mirrors = (refl, refl, refl)

-- entries off the diagonal, inside a block, though each is the other's mirror
abbrev inside : List ℕ
inside = ended (with_line 5 "zz 0 1 4000000000000000" (with_line 6 "zz 1 0 4000000000000000" (with_line 7 "zz 1 1 3ff0000000000000" crossed)))

inside_block : (load inside ≡ refused_with 9 5) × (faulty inside ≡ 5 ∷ 6 ∷ [])
unfolding ended load faulty crossed
inside_block = (refl, refl)

-- mirrors that differ are two faulty lines, of which the one below the diagonal is named; one that is absent leaves one, on either side
no_mirror : (load (ended (without 7 crossed)) ≡ refused_with 9 5)
    × (faulty (ended (without 7 crossed)) ≡ 5 ∷ [])
    × (load (ended (without 5 crossed)) ≡ refused_with 9 6)
    × (load (crossed_but 7 "zz 2 0 4000000000000001") ≡ refused_with 9 5)
    × (faulty (crossed_but 7 "zz 2 0 4000000000000001") ≡ 5 ∷ 7 ∷ [])
unfolding ended load faulty crossed
no_mirror = (refl, refl, refl, refl, refl)

-- of several faults the first line, whatever its fault is
several : (load (ended (with_line 4 "zz 0 0 8000000000000000" (without 7 crossed))) ≡ refused_with 9 4)
    × (load (ended (with_line 8 "zz 2 2 8000000000000000" (with_line 7 "zz 2 0 4000000000000001" crossed))) ≡ refused_with 9 5)
    × (faulty (ended (with_line 8 "zz 2 2 8000000000000000" (with_line 7 "zz 2 0 4000000000000001" crossed))) ≡ 5 ∷ 7 ∷ 8 ∷ [])
unfolding ended load faulty crossed
several = (refl, refl, refl)
