-- Document 01, "Worked sheets": the input and the output, a blank standing for a tab.
use Prim.Native.String.{String}
use Rattle.std.specs.Prelude.{List, [], ◌∷◌}

-- the sheet
abbrev pub sheet_lines : List String
sheet_lines =
    "size 3 1 1 1 1"
    ∷ "block 1 1"
    ∷ "zz 0 0 4008000000000000"
    ∷ "zx 0 0 4000000000000000"
    ∷ "zy 0 4010000000000000"
    ∷ "xx 0 0 4014000000000000"
    ∷ "xy 0 4018000000000000"
    ∷ "yy 4022000000000000"
    ∷ []

-- the theta part
abbrev pub theta_lines : List String
theta_lines = "theta 0 3ff0000000000000" ∷ []

-- the output
abbrev pub output_lines : List String
output_lines = "pivot 0 0 4000000000000000" ∷ "pivot 1 0 4000000000000000" ∷ "pivot 1 1 3ff0000000000000" ∷ []
