-- A loop that writes the runs of a block, one behind the other: rows of a triangle, columns of a dense block.
use Prim.Native.Nat.{ℕ, ◌+◌, ◌≤◌, ◌<◌}
use mathlib.Core.Path.{◌≡◌, refl, ◌∙◌}
use mathlib.Core.List.{List}
use mathlib.Core.Logic.{◌⊎◌}
use native.Mathlib.Omega.{arith}
use native.Mathlib.Numerals.{add-one}
use lib.ListN.{length, get_or}
use lib.Ieee.{Float, nan}
use Rattle.storage.specs.Runs.{start, tab, cells}
use Rattle.storage.specs.Shape.{Shape, size_of, run_length, runs, row_at, column_at}
use Rattle.storage.specs.Part.{store}
use Rattle.storage.proofs.Starts.{start_below}
use Rattle.storage.proofs.Cells.{length_tab}
use Rattle.storage.proofs.Places.{holds}
use Rattle.storage.proofs.Parts.{length_store}
use Rattle.block_runs.specs.blocks.Blocks.{block}
use Rattle.block_runs.specs.blocks.Done.{Done}
use Rattle.block_runs.proofs.blocks.Laws.{begun, ended, own, same_block, run_written, read_block}

-- of the n runs that lie from `off` to `end`, j are written by the rule b, and the next one starts at `to` within the block
pub record Writing (off end : ℕ) (len : ℕ → ℕ) (n : ℕ) (b : ℕ → ℕ → Float) (w₀ : List Float) (j to : ℕ) (w : List Float) : Type 0 where
  pub within : j ≤ n
  pub ends : end ≡ off + start len n
  pub fits : end ≤ length w₀
  pub place : to ≡ start len j
  pub long : length w ≡ length w₀
  pub so : Done off len b w₀ j 0 w

pub writing_none : (off end : ℕ) (len : ℕ → ℕ) (n : ℕ) (b : ℕ → ℕ → Float) (w₀ : List Float) → end ≡ off + start len n → end ≤ length w₀ → Writing off end len n b w₀ 0 0 w₀
unfolding start
writing_none off end len n b w₀ e h =
    record { within = omega arith; ends = e; fits = h; place = refl; long = refl; so = begun off len b w₀ n (omega arith) }

module _ {off end : ℕ} {len : ℕ → ℕ} {n : ℕ} {b : ℕ → ℕ → Float} {w₀ : List Float} {j to : ℕ} {w : List Float} (e : Writing off end len n b w₀ j to w) where
  pub writing_all : n ≤ j → w ≡ store off (cells len n b) w₀
  writing_all h = let q : j ≡ n = omega arith in ended off len b w₀ n (omega arith) w (rw q at e.so)

  module _ (more : j < n) where
    -- there is room for the next run
    pub writing_room : off + (to + len j) ≤ end
    writing_room = omega (arith, start_below len j n more)

    -- a double that is not written yet is read as it was
    pub writing_own : (k : ℕ) → off + to ≤ k → get_or w k nan ≡ get_or w₀ k nan
    writing_own k h = own off len b w₀ n (omega arith) j more 0 (omega arith) w e.so k nan (omega arith)

    -- and so is a block that lies apart
    pub writing_same : (a : ℕ) (s : Shape) → (off + start len n ≤ a) ⊎ (a + size_of s ≤ off) → block a s w ≡ block a s w₀
    writing_same a s apart = same_block off len b w₀ n (omega arith) j more 0 (omega arith) w e.so a s apart

    -- one run more
    pub writing_more : {w' : List Float} {to' : ℕ} (p k : ℕ) (g : ℕ → Float) → p ≡ off + to → k ≡ len j → to' ≡ to + k
        → ((i : ℕ) → i < len j → g i ≡ b j i) → w' ≡ store p (tab k g) w → Writing off end len n b w₀ (j + 1) to' w'
    unfolding start
    writing_more {w'} {to'} p k g d q then same next =
        record {
          within = omega arith;
          ends = e.ends;
          fits = e.fits;
          place = rw add-one (omega arith);
          long =
              let room : p + length (tab k g) ≤ length w = omega (arith, writing_room, length_tab k g) in
              rw next (omega (arith, length_store p (tab k g) w room));
          so = rw add-one (run_written off len b w₀ n (omega arith) j more w w' e.so p k g (omega arith) q same next);
        }

-- a cell of the next run is the block's, as it was
pub writing_cell : {off end : ℕ} {w₀ : List Float} {j to : ℕ} {w : List Float} {b : ℕ → ℕ → Float} (s : Shape) → Writing off end (run_length s) (runs s) b w₀ j to w
    → j < runs s → (i : ℕ) → i < run_length s j → get_or w (off + to + i) nan ≡ block off s w₀ (row_at s j i) (column_at s j i)
writing_cell {off} {end} {w₀} {j} {to} {w} s e more i h =
    let k = holds s j i more h in
    writing_own e more (off + to + i) (omega arith)
    ∙ read_block s off w₀ (row_at s j i) (column_at s j i) (off + to + i) k.has (omega arith) (rw k.run (omega arith))
