-- A sheet as the text that document 01's Record 1 describes, and when a sheet is in form. Nothing here reads: proofs/written/Read.antt shows that the reader
-- of sheets accepts each such text, and reads the sheet out of it again.
use Rattle.std.specs.Prelude.{ℕ, zero, suc, ◌+◌, ◌^◌, ◌<◌, ◌≡◌, List, [], ◌∷◌, ◌++◌, length}
use Rattle.sheet.specs.declared.Counts.{Counts}
use Rattle.sheet.specs.Line.{tab, lf, size_tag, block_tag, zz_tag}
use Rattle.sheet.specs.Run.{Block, Entry, Kind, rows_from}
use Rattle.sheet.specs.Sheet.{Sheet, word_kinds, word_lists}
use Rattle.sheet.specs.Whole.{Each, Both, InRange, BlockInRange, Finite, EntryInRange, Rising}
use Rattle.factor_output.specs.Print.{number, hexadecimal}

-- ---- lines, each with what follows it
-- a number and the byte that ends it
abbrev pub number_text : ℕ → ℕ → List ℕ → List ℕ
number_text x end rest = number x ++ (end ∷ rest)

-- a word, which ends its line
abbrev pub word_text : ℕ → List ℕ → List ℕ
word_text w rest = hexadecimal 16 w ++ (lf ∷ rest)

-- `size` n p q k flag
abbrev pub size_text : Counts → List ℕ → List ℕ
size_text z rest =
    size_tag
    ++ number_text z.n tab (number_text z.p tab (number_text z.q tab (number_text z.k tab (number_text z.flag lf rest))))

-- `block` m e
abbrev pub block_text : ℕ × ℕ → Block → List ℕ → List ℕ
block_text i b rest = block_tag ++ number_text b.m tab (number_text b.e lf rest)

-- a tag, two indexes and a word; one index and a word; a word alone
abbrev pub pair_text : List ℕ → ℕ × ℕ → ℕ → List ℕ → List ℕ
pair_text t i w rest = t ++ number_text i.0 tab (number_text i.1 tab (word_text w rest))

abbrev pub single_text : List ℕ → ℕ × ℕ → ℕ → List ℕ → List ℕ
single_text t i w rest = t ++ number_text i.0 tab (word_text w rest)

abbrev pub bare_text : List ℕ → ℕ × ℕ → ℕ → List ℕ → List ℕ
bare_text t i w rest = t ++ word_text w rest

-- a line of a kind, by how many numbers stand before the word
abbrev pub kind_text : ℕ → List ℕ → ℕ × ℕ → ℕ → List ℕ → List ℕ
kind_text zero t = bare_text t
kind_text (suc zero) t = single_text t
kind_text (suc (suc n)) t = pair_text t

-- a line for each pair of indexes and what stands in it
unfoldable pub lines_text : {A : Type 0} → (ℕ × ℕ → A → List ℕ → List ℕ) → List (ℕ × ℕ) → List A → List ℕ → List ℕ
lines_text line [] xs rest = rest
lines_text line (i ∷ is) [] rest = rest
lines_text line (i ∷ is) (x ∷ xs) rest = line i x (lines_text line is xs rest)

-- the `zz` lines
unfoldable pub entries_text : List Entry → List ℕ → List ℕ
entries_text [] rest = rest
entries_text (e ∷ es) rest = pair_text zz_tag (e.col, e.row) e.word (entries_text es rest)

-- the lines of each kind, with its words
abbrev pub kinds_text : List Kind → List (List ℕ) → List ℕ → List ℕ
kinds_text [] words rest = rest
kinds_text (kind ∷ kinds) [] rest = rest
kinds_text (kind ∷ kinds) (ws ∷ words) rest = lines_text (kind_text kind.numbers kind.tag) kind.indexes ws (kinds_text kinds words rest)

-- ---- the sheet: one record a line, in their sequence, and what follows it
abbrev pub words_text : Sheet → List ℕ → List ℕ
words_text s rest = kinds_text (word_kinds s.counts) (word_lists s) rest

abbrev pub lines_after_size : Sheet → List ℕ → List ℕ
lines_after_size s rest = lines_text block_text (rows_from (λ r. 1) 0 s.counts.k) s.blocks (entries_text s.zz (words_text s rest))

abbrev pub sheet_text : Sheet → List ℕ → List ℕ
sheet_text s rest = size_text s.counts (lines_after_size s rest)

-- the sheet that load is given: all of the bytes
abbrev pub text_of : Sheet → List ℕ
text_of s = sheet_text s []

-- ---- when a sheet is in form
-- a word's 64 bits, neither infinite nor NaN
abbrev pub Word : ℕ → Type 0
Word w = (w < 2 ^ 64) × Finite w

-- a word for each line of a kind
abbrev pub WordEach : Kind → List ℕ → Type 0
WordEach kind ws = (length ws ≡ length kind.indexes) × Each Word ws

-- the entries stand in lines `line`, `line` + 1, ..
abbrev pub Numbered : ℕ → List Entry → Type 0
Numbered line [] = Unit {0}
Numbered line (e ∷ es) = (e.line ≡ line) × Numbered (line + 1) es

-- the ranges and counts of Record 1; `zz` rising by col then row, no pair twice; lines counted from 1
pub record InForm (s : Sheet) : Type 0 where
  pub counts : InRange s.counts
  pub blocks : Each BlockInRange s.blocks
  pub blocks_length : length s.blocks ≡ s.counts.k
  pub zz : Each (EntryInRange s.counts.q) s.zz
  pub zz_words : Each (λ (e : Entry). Word e.word) s.zz
  pub zz_rising : Rising s.zz
  pub zz_lines : Numbered (s.counts.k + 2) s.zz
  pub words : Both WordEach (word_kinds s.counts) (word_lists s)
