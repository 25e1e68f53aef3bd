-- One entry in each column of a block, and its mirror: n rows from `from` on are each joined with the row `at` of another block.
use Prim.Native.Nat.{ℕ, ◌+◌, ◌-◌, ◌≤◌, ◌<◌}
use mathlib.Core.Path.{◌≡◌, refl, sym, subst}
use mathlib.Core.Logic.{◌⊎◌, inl, inr, by_cases}
use mathlib.Core.Bool.{Bool, true, false, not, ◌&&◌, cond, false≢true}
use mathlib.Core.List.{List, Memᴰ}
use native.Mathlib.Decide.{dec_lt}
use native.Mathlib.Omega.{arith}
use borrow.Author.Tests.{lt-ltb, le-ltb, le-leb, eq-eqb, ne_eqb}
use lib.Dec.{ltb, leb, eqb, lit<}
use Rattle.storage.specs.Runs.{tab}
use Rattle.sheet.specs.Field.{is_finite, is_zero}
use Rattle.sheet.specs.Run.{Entry}
use Rattle.sheet.specs.Sheet.{Sheet}
use Rattle.sheet.specs.Fault.{block_of_row, Mirror, Fault, word_is_zero, inside_block, no_mirror}
use Rattle.sheet.specs.Whole.{Each, EntryInRange, Earlier, Rising}
use Rattle.sheet_text.specs.written.Written.{Word, Numbered}
use Rattle.workspace.specs.Loaded.{count_of}
use Rattle.workspace.proofs.Valid.{in_column}
use Rattle.valid_heading.proofs.Tabulated.{each_tab, member_tab, rising_tab, numbered_tab, count_one}

module _ (line from n at : ℕ) where
  -- entry i joins row x with row `at`: x is its column, or its row; its word is 1.0
  abbrev join : Bool → ℕ → ℕ → Entry
  join column i x = record { line = line + i; col = cond column x at; row = cond column at x; word = 0x3ff0000000000000 }

  -- First come the n entries whose column is the smaller of the two, then their mirrors: so they rise.
  abbrev is_column : ℕ → Bool
  is_column i = cond (ltb i n) (ltb from at) (not (ltb from at))

  abbrev level : ℕ → ℕ
  level i = cond (ltb i n) i (i - n)

  abbrev joined : ℕ → Entry
  joined i = join (is_column i) i (from + level i)

  abbrev pub joined_entries : List Entry
  joined_entries = tab (n + n) joined

  level_below : (i : ℕ) → i < n + n → level i < n
  level_below i h = by_cases (dec_lt i n) (λ l. rw (lt-ltb i n l) l) (λ l. rw (le-ltb i n (omega arith)) (omega arith))

  -- ---- each entry by itself

  join_range : (q i x : ℕ) (b : Bool) → x < q → at < q → EntryInRange q (join b i x)
  unfolding is_finite
  join_range q i x true h g = record { col = h; row = g; finite = refl }
  join_range q i x false h g = record { col = g; row = h; finite = refl }

  pub joined_range : (q : ℕ) → from + n ≤ q → at < q → Each (EntryInRange q) joined_entries
  joined_range q h g =
      each_tab (EntryInRange q) (n + n) joined (λ i l. join_range q i (from + level i) (is_column i) (omega (arith, level_below i l)) g)

  pub joined_words : Each (λ (e : Entry). Word e.word) joined_entries
  unfolding is_finite
  joined_words = each_tab (λ (e : Entry). Word e.word) (n + n) joined (λ i l. (lit< tt, refl))

  pub joined_lines : Numbered line joined_entries
  joined_lines = numbered_tab line (n + n) joined (λ i l. refl)

  -- ---- mirrors

  mirror_sym : (e m : Entry) → Mirror e m → Mirror m e
  mirror_sym e m h = record { col = sym h.row; row = sym h.col; word = sym h.word }

  join_mirror : (b : Bool) (i j x : ℕ) → Mirror (join b i x) (join (not b) j x)
  join_mirror true i j x = record { col = refl; row = refl; word = refl }
  join_mirror false i j x = record { col = refl; row = refl; word = refl }

  -- entries i and i + n
  halves : (i : ℕ) → i < n → Mirror (joined i) (joined (i + n))
  halves i h =
      let e : i + n - n ≡ i = omega arith in
      rw (lt-ltb i n h, le-ltb (i + n) n (omega arith), e) (join_mirror (ltb from at) i (i + n) (from + i))

  has_mirror : (i : ℕ) → i < n + n → (j : ℕ) × (j < n + n) × Mirror (joined i) (joined j)
  has_mirror i h =
      by_cases (dec_lt i n) (λ l. (i + n, omega arith, halves i l))
      (λ l.
      let e : i - n + n ≡ i = omega arith in
      (i - n, omega arith, mirror_sym (joined (i - n)) (joined i) (subst (λ (x : ℕ). Mirror (joined (i - n)) (joined x)) e (halves (i - n) (omega arith)))))

  -- ---- no fault: the rows are in another block than `at`

  module _ (sheet : Sheet) (zz : sheet.zz ≡ joined_entries) (apart : (c : ℕ) → c < n → block_of_row sheet.blocks (from + c) ≡ block_of_row sheet.blocks at → ⊥) where
    join_apart : (b : Bool) (i c : ℕ) → c < n → block_of_row sheet.blocks (join b i (from + c)).col ≡ block_of_row sheet.blocks (join b i (from + c)).row → ⊥
    join_apart true i c h e = apart c h e
    join_apart false i c h e = apart c h (sym e)

    no_fault : (i : ℕ) → i < n + n → Fault sheet (joined i) → ⊥
    unfolding is_zero
    no_fault i h (word_is_zero z) = false≢true z
    no_fault i h (inside_block e d) = join_apart (is_column i) i (level i) (level_below i h) e
    no_fault i h (no_mirror f) =
        let m = has_mirror i h in
        f (joined m.0) (subst (Memᴰ (joined m.0)) (sym zz) (member_tab (n + n) joined m.0 m.1)) m.2

    pub joined_sound : Each (λ (e : Entry). Fault sheet e → ⊥) joined_entries
    joined_sound = each_tab (λ (e : Entry). Fault sheet e → ⊥) (n + n) joined no_fault

  -- ---- all of them, where the rows end before `at` or begin after it

  module _ (apart : (from + n ≤ at) ⊎ (at < from)) where
    earlier : (i j : ℕ) → i < j → j < n + n → Earlier (joined i) (joined j)
    earlier i j h g = go apart
      where
        go : (from + n ≤ at) ⊎ (at < from) → Earlier (joined i) (joined j)
        go (inl a) =
            by_cases (dec_lt j n)
            (λ l. rw (lt-ltb i n (omega arith), lt-ltb j n l, lt-ltb from at (omega arith)) (inl (omega arith)))
            (λ l. by_cases (dec_lt i n)
            (λ r. rw (lt-ltb i n r, le-ltb j n (omega arith), lt-ltb from at (omega arith)) (inl (omega arith)))
            (λ r. rw (le-ltb i n (omega arith), le-ltb j n (omega arith), lt-ltb from at (omega arith)) (inr (refl, omega arith))))
        go (inr a) =
            by_cases (dec_lt j n)
            (λ l. rw (lt-ltb i n (omega arith), lt-ltb j n l, le-ltb from at (omega arith)) (inr (refl, omega arith)))
            (λ l. by_cases (dec_lt i n)
            (λ r. rw (lt-ltb i n r, le-ltb j n (omega arith), le-ltb from at (omega arith)) (inl (omega arith)))
            (λ r. rw (le-ltb i n (omega arith), le-ltb j n (omega arith), le-ltb from at (omega arith)) (inl (omega arith))))

    pub joined_rising : Rising joined_entries
    joined_rising = rising_tab (n + n) joined earlier

    -- column c of the block has one entry in the m rows from `at` on
    pub joined_one : (c m : ℕ) → c < n → 1 ≤ m → count_of (in_column from c at m) joined_entries ≡ 1
    joined_one c m h g = go apart
      where
        inside : (leb at at && ltb at (at + m)) ≡ true
        inside = rw (le-leb at at (omega arith), lt-ltb at (at + m) (omega arith)) refl

        here : eqb (from + c) (from + c) ≡ true
        here = eq-eqb (from + c) (from + c) refl

        go : (from + n ≤ at) ⊎ (at < from) → count_of (in_column from c at m) joined_entries ≡ 1
        go (inl a) =
            count_one (in_column from c at m) (n + n) joined c (omega arith)
            (rw (lt-ltb c n h, lt-ltb from at (omega arith), here) inside)
            (λ i l o.
            by_cases (dec_lt i n)
            (λ r. rw (lt-ltb i n r, lt-ltb from at (omega arith), ne_eqb (from + i) (from + c) (λ e. o (omega arith))) refl)
            (λ r. rw (le-ltb i n (omega arith), lt-ltb from at (omega arith), ne_eqb at (from + c) (λ e. omega arith)) refl))
        go (inr a) =
            let e : c + n - n ≡ c = omega arith in
            count_one (in_column from c at m) (n + n) joined (c + n) (omega arith)
            (rw (le-ltb (c + n) n (omega arith), le-ltb from at (omega arith), e, here) inside)
            (λ i l o.
            by_cases (dec_lt i n)
            (λ r. rw (lt-ltb i n r, le-ltb from at (omega arith), ne_eqb at (from + c) (λ e. omega arith)) refl)
            (λ r. rw (le-ltb i n (omega arith), le-ltb from at (omega arith), ne_eqb (from + (i - n)) (from + c) (λ e. o (omega arith))) refl))
