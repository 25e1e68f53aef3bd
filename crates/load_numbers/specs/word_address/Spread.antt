-- Where the word of each line of a sheet goes among the doubles (document 01, Record 3), and what a run of lines leaves there.
use Rattle.std.specs.Prelude.{ℕ, zero, suc, ◌+◌, ◌-◌, ◌*◌, ◌/◌, ◌%◌, ◌≡◌, true, cond, List, ltb, eqb, set, Float}
use Rattle.sheet.specs.declared.Line.{Line}
use Rattle.sheet.specs.Field.{nowhere, is_finite}
use Rattle.sheet.specs.Line.{zz_tag, zx_tag, zy_tag, xx_tag, xy_tag, yy_tag, pair_line, single_line, bare_line}
use Rattle.layout.specs.declared.Layout.{Layout}
use Rattle.layout.specs.Shapes.{block_rows, loaded_at, last_rows, response_row}
use Rattle.layout.specs.Blocks.{sum}
use Rattle.heading_format.specs.Heading.{sheet_levels}
use Rattle.workspace.specs.Loaded.{row_start, double}
use Rattle.block_places.specs.sheet_rows.Blocks.{block_of_row}
use Rattle.load_numbers.specs.declared.word_address.Run.{Run}
use Rattle.load_numbers.specs.declared.word_address.Run.TheVariants.{Zz, Zx, Zy, Xx, Xy, Yy}

-- ---- lines
-- the line of a run at a position of the bytes
abbrev pub line_of : Run → List ℕ → ℕ → Line
line_of Zz s = pair_line zz_tag s
line_of Zx s = pair_line zx_tag s
line_of Zy s = single_line zy_tag s
line_of Xx s = pair_line xx_tag s
line_of Xy s = single_line xy_tag s
line_of Yy s = bare_line yy_tag s

-- what holds of each of n lines from `at` on
abbrev pub EachLine : (Line → Type 0) → (ℕ → Line) → ℕ → ℕ → Type 0
EachLine P read zero at = Unit {0}
EachLine P read (suc n) at = P (read at) × EachLine P read n (read at).next

-- n lines from `at` on are put into w, one after the other; `i` counts them
unfoldable pub spread : {A : Type 0} → (ℕ → Line → List A → List A) → (ℕ → Line) → ℕ → ℕ → ℕ → List A → List A
spread put read zero i at w = w
spread put read (suc n) i at w = spread put read n (suc i) (read at).next (put i (read at) w)

-- ---- places
-- Z'Z at a column and row: a level's own in its factor's diagonal; where the column's block comes before the row's, in their pair, which is dense by columns
-- or has one entry in each; the mirrored entries are loaded nowhere
unfoldable pub entry_place : Layout → ℕ → ℕ → ℕ
unfolding block_of_row loaded_at sum sheet_levels
entry_place y col row =
    let i = block_of_row y y.k row in
    let j = block_of_row y y.k col in
    cond (ltb i y.k)
    (cond (eqb col row) (loaded_at y i i + (row - row_start y i))
    (cond (ltb j i) (loaded_at y i j + cond y.sparse (col - row_start y j) ((col - row_start y j) * block_rows y i + (row - row_start y i))) nowhere)) nowhere

-- fixed row r at row x of the sheet
unfoldable pub fixed_place : Layout → ℕ → ℕ → ℕ
unfolding block_of_row loaded_at sum sheet_levels
fixed_place y x r =
    let j = block_of_row y y.k x in
    cond (ltb j y.k) (loaded_at y y.k j + ((x - row_start y j) * last_rows y + r)) nowhere

-- the word of line i of a run; those of xx, xy and yy are counted as one run
abbrev pub place_of : Run → Layout → ℕ → Line → ℕ
place_of Zz y i l = entry_place y l.first l.second
place_of Zx y i l = fixed_place y (i / y.p) (i % y.p)
place_of Zy y i l = fixed_place y i (response_row y)
place_of Xx y i l = loaded_at y y.k y.k + i
place_of Xy y i l = loaded_at y y.k y.k + i
place_of Yy y i l = loaded_at y y.k y.k + i

-- the word of a line as a double in its place; past the end nothing is put
abbrev pub put_word : Run → Layout → ℕ → Line → List Float → List Float
put_word run y i l w = set w (place_of run y i l) (double l.word)

abbrev pub FiniteWord : Line → Type 0
FiniteWord l = is_finite l.word ≡ true
