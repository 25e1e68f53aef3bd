-- The lines of a sheet (document 01, Record 1): a tag and its fields, with one tab between two of them and one LF at the end.
use Rattle.std.specs.Prelude.{ℕ, zero, suc, Bool, not, cond, List, [], ◌∷◌, drop, eqb}
use Rattle.sheet.specs.declared.Field.{Field}
use Rattle.sheet.specs.declared.Line.{Line}
use Rattle.sheet.specs.declared.Size.{Size}
use Rattle.sheet.specs.Field.{nowhere, number_at, word_at, tag_at}

abbrev pub tab : ℕ
tab = 9

abbrev pub lf : ℕ
lf = 10

-- the tags, each with its tab
abbrev pub size_tag : List ℕ
size_tag = 115 ∷ 105 ∷ 122 ∷ 101 ∷ tab ∷ []

abbrev pub block_tag : List ℕ
block_tag = 98 ∷ 108 ∷ 111 ∷ 99 ∷ 107 ∷ tab ∷ []

abbrev pub zz_tag : List ℕ
zz_tag = 122 ∷ 122 ∷ tab ∷ []

abbrev pub zx_tag : List ℕ
zx_tag = 122 ∷ 120 ∷ tab ∷ []

abbrev pub zy_tag : List ℕ
zy_tag = 122 ∷ 121 ∷ tab ∷ []

abbrev pub xx_tag : List ℕ
xx_tag = 120 ∷ 120 ∷ tab ∷ []

abbrev pub xy_tag : List ℕ
xy_tag = 120 ∷ 121 ∷ tab ∷ []

abbrev pub yy_tag : List ℕ
yy_tag = 121 ∷ 121 ∷ tab ∷ []

-- a tag, a number that `end` ends, and a word that LF ends, at a position of the bytes s
abbrev pub tag_to : List ℕ → List ℕ → ℕ → Field
tag_to t s at = tag_at t at (drop at s)

abbrev pub number_to : ℕ → List ℕ → ℕ → Field
number_to end s at = number_at end at (drop at s)

abbrev pub word_to : List ℕ → ℕ → Field
word_to s at = word_at lf 16 0 at (drop at s)

-- a field or a line that ends somewhere is in form
abbrev pub in_form : ℕ → Bool
in_form next = not (eqb next nowhere)

-- `size` n p q k flag
unfoldable pub size_line : List ℕ → ℕ → Size
size_line s at =
    let t = tag_to size_tag s at in
    let n = number_to tab s t.next in
    let p = number_to tab s n.next in
    let q = number_to tab s p.next in
    let k = number_to tab s q.next in
    let f = number_to lf s k.next in
    record { counts = record { n = n.value; p = p.value; q = q.value; k = k.value; flag = f.value }; next = f.next }

-- `block` m e
unfoldable pub block_line : List ℕ → ℕ → Line
block_line s at =
    let t = tag_to block_tag s at in
    let m = number_to tab s t.next in
    let e = number_to lf s m.next in
    record { first = m.value; second = e.value; word = 0; next = e.next }

-- a tag, two numbers and a word: `zz` col row word, `zx` row c word, `xx` r c word
unfoldable pub pair_line : List ℕ → List ℕ → ℕ → Line
pair_line t s at =
    let t = tag_to t s at in
    let a = number_to tab s t.next in
    let b = number_to tab s a.next in
    let w = word_to s b.next in
    record { first = a.value; second = b.value; word = w.value; next = w.next }

-- a tag, a number and a word: `zy` row word, `xy` r word
unfoldable pub single_line : List ℕ → List ℕ → ℕ → Line
single_line t s at =
    let t = tag_to t s at in
    let a = number_to tab s t.next in
    let w = word_to s a.next in
    record { first = a.value; second = 0; word = w.value; next = w.next }

-- a tag and a word: `yy` word
unfoldable pub bare_line : List ℕ → List ℕ → ℕ → Line
bare_line t s at =
    let t = tag_to t s at in
    let w = word_to s t.next in
    record { first = 0; second = 0; word = w.value; next = w.next }

-- a line with a word, by how many numbers stand between its tag and the word: two, one or none
abbrev pub word_line : ℕ → List ℕ → List ℕ → ℕ → Line
word_line zero t s = bare_line t s
word_line (suc zero) t s = single_line t s
word_line (suc (suc n)) t s = pair_line t s

-- ---- verdicts
-- a test of a line: whether it passes, and the number that the line is refused with where it does not
abbrev pub Test : Type 0
Test = Bool × ℕ

-- what a line is refused with: the number of the first of its tests that fails, 0 where none does
abbrev pub verdict_of : List Test → ℕ
verdict_of [] = 0
verdict_of (t ∷ rest) = cond t.0 (verdict_of rest) t.1
