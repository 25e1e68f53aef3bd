-- What every accepted sheet has (document 01, Record 1); proofs/Whole.antt shows it.
use Rattle.std.specs.Prelude.{ℕ, ◌+◌, ◌≤◌, ◌<◌, ◌≡◌, ◌⊎◌, true, List, [], ◌∷◌, length, get_or}
use Rattle.sheet.specs.declared.Counts.{Counts}
use Rattle.sheet.specs.declared.Starts.{Starts}
use Rattle.sheet.specs.Field.{is_finite}
use Rattle.sheet.specs.Line.{zz_tag, block_line, pair_line}
use Rattle.sheet.specs.Run.{Block, Entry, Kind, block_in, entry_in, word_in, kind_line, kept_from, past_from}
use Rattle.sheet.specs.Sheet.{Sheet, word_kinds, word_lists, word_places}

-- every element of a list
abbrev pub Each : {A : Type 0} → (A → Type 0) → List A → Type 0
Each P [] = Unit {0}
Each P (x ∷ rest) = P x × Each P rest

-- two lists of the same length, and P of each pair
abbrev pub Both : {A B : Type 0} → (A → B → Type 0) → List A → List B → Type 0
Both P [] [] = Unit {0}
Both P [] (y ∷ ys) = ⊥
Both P (x ∷ xs) [] = ⊥
Both P (x ∷ xs) (y ∷ ys) = P x y × Both P xs ys

-- ---- ranges
pub record InRange (z : Counts) : Type 0 where
  pub n : (1 ≤ z.n) × (z.n ≤ 1000000000)
  pub p : (1 ≤ z.p) × (z.p ≤ 32)
  pub q : z.q ≤ 524280
  pub k : z.k ≤ 8
  pub flag : z.flag ≤ 1

pub record BlockInRange (b : Block) : Type 0 where
  pub m : (1 ≤ b.m) × (b.m ≤ 65535)
  pub e : (1 ≤ b.e) × (b.e ≤ 16)

abbrev pub Finite : ℕ → Type 0
Finite w = is_finite w ≡ true

pub record EntryInRange (q : ℕ) (e : Entry) : Type 0 where
  pub col : e.col < q
  pub row : e.row < q
  pub finite : Finite e.word

-- ---- the order of entries: by column, then row
abbrev pub Earlier : Entry → Entry → Type 0
Earlier a b = (a.col < b.col) ⊎ ((a.col ≡ b.col) × (a.row < b.row))

-- each entry comes before every later one, so that they rise and none comes twice
abbrev pub Rising : List Entry → Type 0
Rising [] = Unit {0}
Rising (e ∷ rest) = Each (Earlier e) rest × Rising rest

-- ---- ranges, order and the number of lines
-- how many lines the kinds have together
abbrev pub lines_in : List Kind → ℕ
lines_in [] = 0
lines_in (kind ∷ kinds) = length kind.indexes + lines_in kinds

pub record Shape (sheet : Sheet) (starts : Starts) : Type 0 where
  pub same_counts : starts.counts ≡ sheet.counts
  pub counts : InRange sheet.counts
  pub blocks : Each BlockInRange sheet.blocks
  pub blocks_length : length sheet.blocks ≡ sheet.counts.k
  pub zz : Each (EntryInRange sheet.counts.q) sheet.zz
  pub zz_rising : Rising sheet.zz
  -- the line past the last: the size line, and one line for each block, entry and word
  pub lines : starts.line ≡ 2 + sheet.counts.k + length sheet.zz + lines_in (word_kinds sheet.counts)

-- ---- the lists by the places of their lines: what stands in each run of lines, and that the next run starts at its end
-- a kind of lines from one place to another, and its words: one for each line, and finite
pub record RunPlaced (s : List ℕ) (kind : Kind) (from to : ℕ) (words : List ℕ) : Type 0 where
  pub count : length words ≡ length kind.indexes
  pub finite : Each Finite words
  pub kept : words ≡ kept_from (kind_line kind s) word_in (length words) 0 from
  pub end : to ≡ past_from (kind_line kind s) (length words) from

abbrev pub RunsPlaced : List ℕ → List Kind → List ℕ → List (List ℕ) → Type 0
RunsPlaced s [] places words = Unit {0}
RunsPlaced s (kind ∷ kinds) (from ∷ places) (ws ∷ words) = RunPlaced s kind from (get_or places 0 0) ws × RunsPlaced s kinds places words
RunsPlaced s (kind ∷ kinds) [] words = ⊥
RunsPlaced s (kind ∷ kinds) (from ∷ places) [] = ⊥

pub record Placed (s : List ℕ) (sheet : Sheet) (starts : Starts) : Type 0 where
  pub blocks : sheet.blocks ≡ kept_from (block_line s) block_in sheet.counts.k 2 starts.block
  pub blocks_end : starts.zz ≡ past_from (block_line s) sheet.counts.k starts.block
  pub zz : sheet.zz ≡ kept_from (pair_line zz_tag s) entry_in (length sheet.zz) (sheet.counts.k + 2) starts.zz
  pub zz_end : starts.zx ≡ past_from (pair_line zz_tag s) (length sheet.zz) starts.zz
  pub words : RunsPlaced s (word_kinds sheet.counts) (word_places starts) (word_lists sheet)

pub record Whole (s : List ℕ) (sheet : Sheet) (starts : Starts) : Type 0 where
  pub short : length s ≤ 16777216
  pub shape : Shape sheet starts
  pub placed : Placed s sheet starts
