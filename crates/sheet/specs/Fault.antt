-- The refusals 5 to 9 of a sheet as read (document 01, "Refused because of the input"), each over the whole sheet.
use Rattle.std.specs.Prelude.{ℕ, suc, ◌+◌, ◌-◌, ◌<◌, ◌≡◌, Bool, true, false, not, ◌&&◌, ◌||◌, cond, ltb, eqb}
use mathlib.Core.List.{List, [], ◌∷◌, Memᴰ}
use Rattle.sheet.specs.Field.{is_zero}
use Rattle.sheet.specs.Run.{Block, Entry}
use Rattle.sheet.specs.Sheet.{Sheet}

-- the test passes somewhere in the list
unfoldable pub any_of : {A : Type 0} → (A → Bool) → List A → Bool
any_of test [] = false
any_of test (x ∷ rest) = test x || any_of test rest

-- the rows of a block, one for each level, and those that the blocks cover
abbrev pub rows_in : Block → ℕ
rows_in b = b.m

unfoldable pub covered_rows : List Block → ℕ
covered_rows [] = 0
covered_rows (b ∷ rest) = rows_in b + covered_rows rest

-- the block that holds row i: in sheet order the first covers the first rows, the next goes on from there
unfoldable pub block_of_row : List Block → ℕ → ℕ
block_of_row [] i = 0
block_of_row (b ∷ rest) i =
    let later = suc (block_of_row rest (i - rows_in b)) in
    cond (ltb i (rows_in b)) 0 later

-- ---- number 9
-- m is a mirror of e: column and row exchanged, equal bits. An entry on the diagonal is its own.
pub record Mirror (e m : Entry) : Type 0 where
  pub col : m.col ≡ e.row
  pub row : m.row ≡ e.col
  pub word : m.word ≡ e.word

-- the three faults of an entry: its word is +0 or -0; it is off the diagonal, inside a block; it has no mirror
pub data Fault (sheet : Sheet) (e : Entry) : Type 0 where
  word_is_zero : is_zero e.word ≡ true → Fault sheet e
  inside_block : block_of_row sheet.blocks e.col ≡ block_of_row sheet.blocks e.row → (e.col ≡ e.row → ⊥) → Fault sheet e
  no_mirror : ((m : Entry) → Memᴰ m sheet.zz → Mirror e m → ⊥) → Fault sheet e

-- the line of this number holds an entry with a fault
abbrev pub Faulty : Sheet → ℕ → Type 0
Faulty sheet line = (e : Entry) × Memᴰ e sheet.zz × (e.line ≡ line) × Fault sheet e

-- the same as tests
abbrev pub is_mirror : Entry → Entry → Bool
is_mirror e m = eqb m.col e.row && eqb m.row e.col && eqb m.word e.word

abbrev pub is_inside : Sheet → Entry → Bool
is_inside sheet e = eqb (block_of_row sheet.blocks e.col) (block_of_row sheet.blocks e.row) && not (eqb e.col e.row)

abbrev pub is_fault : Sheet → Entry → Bool
is_fault sheet e = is_zero e.word || is_inside sheet e || not (any_of (is_mirror e) sheet.zz)

unfoldable pub any_faulty : Sheet → Bool
any_faulty sheet = any_of (is_fault sheet) sheet.zz

-- the line of the first entry that the test passes on, or 0
unfoldable pub first_line : (Entry → Bool) → List Entry → ℕ
first_line test [] = 0
first_line test (e ∷ rest) = cond (test e) e.line (first_line test rest)

-- THE LINE THAT 9 NAMES (document 02, item 1): "the first faulty line of the sheet, with every earlier `zz` line free of fault". A faulty entry and its
-- faulty mirror are two lines.
unfoldable pub faulty_line : Sheet → ℕ
unfolding first_line
faulty_line sheet = first_line (is_fault sheet) sheet.zz

-- what this says of a line, both halves (proofs/Faults.antt: `names_first`, `first_named`)
pub record FirstFaulty (sheet : Sheet) (line : ℕ) : Type 0 where
  pub faulty : Faulty sheet line
  pub earlier : (e : Entry) → Memᴰ e sheet.zz → e.line < line → Fault sheet e → ⊥

-- ---- 5 to 9
-- an e is not 1
abbrev pub has_slope : Sheet → Bool
has_slope sheet = any_of (λ (b : Block). not (eqb b.e 1)) sheet.blocks

-- q is the sum of m
abbrev pub covers_rows : Sheet → Bool
covers_rows sheet = eqb sheet.counts.q (covered_rows sheet.blocks)

-- the first that applies, or 0
unfoldable pub fault_number : Sheet → ℕ
fault_number sheet =
    cond (eqb sheet.counts.flag 0) 5
    (cond (eqb sheet.counts.k 0) 6 (cond (has_slope sheet) 7 (cond (not (covers_rows sheet)) 8 (cond (any_faulty sheet) 9 0))))

-- the line that a refusal from 5 to 9 names: 9 the first faulty line, the others none
abbrev pub named_line : Sheet → ℕ
named_line sheet = cond (eqb (fault_number sheet) 9) (faulty_line sheet) 0
