-- The lines after the size line, run by run: where a sheet is accepted, no line was refused, and sheet and starts are made of the runs.
use Prim.Native.Nat.{ℕ}
use mathlib.Core.Path.{◌≡◌, refl}
use mathlib.Core.Bool.{Bool, true, false, cond}
use mathlib.Core.List.{List}
use native.Mathlib.Omega.{arith}
use borrow.Author.Tests.{eqb-true}
use lib.Dec.{eqb}
use lib.ListN.{length}
use Rattle.sheet.specs.declared.Counts.{Counts}
use Rattle.sheet.specs.declared.Starts.{Starts}
use Rattle.sheet.specs.Run.{Cursor, Block, Entry, Run, WordRuns, blocks_of, entries_from, runs_of}
use Rattle.sheet.specs.Sheet.{Sheet, sheet_with, starts_from, accepted, refused, word_kinds, outcome_at, read_lines}

outcome_open : (c : Cursor) (a sheet : Sheet) (b starts : Starts) → outcome_at c a b ≡ accepted sheet starts → (c.number ≡ 0) × (a ≡ sheet) × (b ≡ starts)
outcome_open c a sheet b starts e = go (eqb c.number 0) refl e
  where
    go : (t : Bool) → eqb c.number 0 ≡ t → cond t (accepted a b) (refused c.number c.line) ≡ accepted sheet starts → (c.number ≡ 0) × (a ≡ sheet) × (b ≡ starts)
    go true u g = (eqb-true _ 0 u, cc, cc)
    go false u g = let z : ◌≡◌ {A = ℕ} 0 1 = cc in absurd (omega arith)

module _ (s : List ℕ) (z : Counts) (at : ℕ) where
  abbrev pub blocks_run : Run Block
  blocks_run = blocks_of s z.k (record { at = at; line = 2; number = 0 })

  abbrev pub zz_run : Run Entry
  zz_run = entries_from (length s) s z.q 0 0 blocks_run.past

  abbrev pub word_runs : WordRuns
  word_runs = runs_of s (word_kinds z) zz_run.past

  abbrev pub sheet_read : Sheet
  sheet_read = sheet_with z blocks_run.items zz_run.items word_runs.words

  abbrev pub starts_read : Starts
  starts_read = starts_from z at blocks_run.past.at word_runs

  pub opened : (sheet : Sheet) (starts : Starts) → read_lines s z (record { at = at; line = 2; number = 0 }) ≡ accepted sheet starts
      → (word_runs.past.number ≡ 0) × (sheet_read ≡ sheet) × (starts_read ≡ starts)
  unfolding read_lines
  opened sheet starts e = outcome_open word_runs.past sheet_read sheet starts_read starts e
