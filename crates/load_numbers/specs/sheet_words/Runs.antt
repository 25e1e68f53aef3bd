-- All words of a sheet, run by run of its lines.
use Rattle.std.specs.Prelude.{ℕ, ◌+◌, List, length, Float}
use Rattle.sheet.specs.declared.Starts.{Starts}
use Rattle.sheet.specs.Sheet.{Sheet}
use Rattle.layout.specs.declared.Layout.{Layout}
use Rattle.load_numbers.specs.declared.word_address.Run.{Run}
use Rattle.load_numbers.specs.declared.word_address.Run.TheVariants.{Zz, Zx, Zy, Xx, Xy, Yy}
use Rattle.load_numbers.specs.word_address.Spread.{line_of, spread, put_word}

-- n lines of a run from `at` on; the first counts as line i
abbrev pub run_of : Run → List ℕ → Layout → (n i at : ℕ) → List Float → List Float
run_of run s y n i at w = spread (put_word run y) (line_of run s) n i at w

-- Z'Z, Z'X and Z'y
unfoldable pub first_runs : List ℕ → Sheet → Starts → Layout → List Float → List Float
first_runs s sheet z y w =
    run_of Zy s y (length sheet.zy) 0 z.zy (run_of Zx s y (length sheet.zx) 0 z.zx (run_of Zz s y (length sheet.zz) 0 z.zz w))

-- X'X, X'y and y'y, counted as one run
unfoldable pub last_runs : List ℕ → Sheet → Starts → Layout → List Float → List Float
last_runs s sheet z y w =
    run_of Yy s y 1 (length sheet.xx + length sheet.xy) z.yy
    (run_of Xy s y (length sheet.xy) (length sheet.xx) z.xy (run_of Xx s y (length sheet.xx) 0 z.xx w))
