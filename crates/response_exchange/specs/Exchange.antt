-- A sheet with another response (document 01, Record 3 and `replace_response`).
use Rattle.std.specs.Prelude.{ℕ, List, [], ◌∷◌, Float}
use Rattle.sheet.specs.Sheet.{Sheet}
use Rattle.workspace.specs.Loaded.{double}
use Rattle.workspace.specs.Response.{Response, response}

-- the sheet with the words zy, xy and yy for those of its Z'y, X'y and y'y
abbrev pub with_response : Sheet → List ℕ → List ℕ → ℕ → Sheet
with_response sheet zy xy yy =
    record {
      counts = sheet.counts;
      blocks = sheet.blocks;
      zz = sheet.zz;
      zx = sheet.zx;
      zy = zy;
      xx = sheet.xx;
      xy = xy;
      yy = yy;
    }

-- the doubles that words are
abbrev pub doubles : List ℕ → List Float
doubles [] = []
doubles (x ∷ l) = double x ∷ doubles l

-- a sheet's response
abbrev pub response_of : Sheet → Response
response_of sheet = response (doubles sheet.zy) (doubles sheet.xy) (double sheet.yy ∷ [])
