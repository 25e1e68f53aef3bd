-- The turns of the loops that begin a block and divide by a diagonal.
use Prim.Native.Nat.{ℕ, suc, ◌+◌, ◌≤◌, ◌<◌}
use mathlib.Core.Path.{◌≡◌, refl, sym, ap, ap₂, ◌∙◌}
use mathlib.Core.Bool.{true}
use mathlib.Core.List.{List, append-nil}
use native.Mathlib.Omega.{arith}
use borrow.Author.Tests.{eq-eqb, ne_eqb}
use lib.ListN.{length, get_or, set}
use lib.Ieee.{Float, nan, div, binary64}
use Rattle.storage.specs.Runs.{start, tab, cells}
use Rattle.storage.specs.Shape.{diagonal, runs, run_length, run_of, in_run, row_at, column_at, has_cell, place_of, fill}
use Rattle.storage.specs.Part.{store}
use Rattle.storage.specs.declared.Block.{Block}
use Rattle.storage.specs.Placed.{Placed, as_diagonal, Lies, Apart, read}
use Rattle.storage.proofs.Starts.{start_below, start_single}
use Rattle.storage.proofs.Cells.{length_cells, tab_ext, any_default}
use Rattle.storage.proofs.Places.{lies}
use Rattle.storage.proofs.Parts.{get_or_part, store_more}
use Rattle.storage.proofs.Filling.{Filling, filling_next}
use Rattle.rules.specs.Arithmetic.{ieee}
use Rattle.rules.specs.Begin.{diagonal_cell}
use Rattle.block_runs.specs.blocks.Blocks.{entry}
use Rattle.block_runs.specs.blocks.Done.{Done}
use Rattle.block_runs.proofs.blocks.Laws.{read_block, has_diagonal, begun, ended, next_run, done_length, same_block, next}
use Rattle.re_factor.specs.Factor.{pivot_at, scaled_cell, scaled}

-- a pivot that is read at its place
pub read_pivot : (d : Block) (w : List Float) (r : ℕ) → r < d.rows → Lies (length w) (as_diagonal d) → get_or w (d.at + r) nan ≡ pivot_at (as_diagonal d) w r
read_pivot d w r h fits = read_block (diagonal d.rows) d.at w r r (d.at + r) (has_diagonal d.rows r h) fits (omega (arith, start_single r))

-- ---- begin
-- cell i of run j of a block that is begun
abbrev pub scaled_run : (p d : Placed) → Float → List Float → ℕ → ℕ → Float
scaled_run p d t w j i = scaled_cell d t w (row_at p.shape j i) (column_at p.shape j i)

-- the runs before j and the first i cells of run j are begun, all else is as in w₀
abbrev pub Begun : (p d : Placed) → Float → List Float → (j i : ℕ) → List Float → Type 0
Begun p d t w₀ j i w = Done p.at (run_length p.shape) (scaled_run p d t w₀) w₀ j i w

module _ (p d : Placed) (t : Float) (w₀ : List Float) (fits : Lies (length w₀) p) where
  pub begun_none : Begun p d t w₀ 0 0 w₀
  begun_none = begun p.at (run_length p.shape) (scaled_run p d t w₀) w₀ (runs p.shape) fits

  pub begun_all : (r : ℕ) → r ≡ runs p.shape → (w : List Float) → Begun p d t w₀ r 0 w → w ≡ scaled p d t w₀
  unfolding fill
  begun_all r e w so = ended p.at (run_length p.shape) (scaled_run p d t w₀) w₀ (runs p.shape) fits w (rw e at so)

  -- a list of the first i cells of run j, stored at once
  pub begun_cells : (j i : ℕ) → j < runs p.shape → i ≤ run_length p.shape j → (w : List Float) → Begun p d t w₀ j 0 w
      → (at : ℕ) → at ≡ p.at + start (run_length p.shape) j → (l : List Float) → l ≡ tab i (scaled_run p d t w₀ j) → (w' : List Float) → w' ≡ store at l w
      → Begun p d t w₀ j i w'
  unfolding tab
  begun_cells j i run here w so at e l f w' q =
      let len : ℕ → ℕ = run_length p.shape in
      let L : List Float = cells len j (scaled_run p d t w₀) in
      let k : length L ≡ start len j = length_cells len j (scaled_run p d t w₀) in
      let m : at ≡ p.at + length L = omega arith in
      let b : w ≡ store p.at L w₀ = so ∙ ap (λ (x : List Float). store p.at x w₀) (append-nil L) in
      q ∙ ap₂ (λ (x : List Float) (h : ℕ). store h x w) f m ∙ ap (store (p.at + length L) (tab i (scaled_run p d t w₀ j))) b
      ∙ store_more p.at L w₀ (omega (arith, start_below len j (runs p.shape) run)) (tab i (scaled_run p d t w₀ j))

-- pivot r, which ends its run, of the loaded one
pub begun_pivot : (p : Placed) (d : Block) (t : Float) (w₀ : List Float) → Lies (length w₀) p → Lies (length w₀) (as_diagonal d) → Apart p (as_diagonal d)
    → (r : ℕ) → r < d.rows → has_cell p.shape r r ≡ true → suc (in_run p.shape r r) ≡ run_length p.shape (run_of p.shape r r)
    → (w : List Float) → Begun p (as_diagonal d) t w₀ (run_of p.shape r r) (in_run p.shape r r) w → (k : ℕ) → k ≡ p.at + place_of p.shape r r
    → Begun p (as_diagonal d) t w₀ (suc (run_of p.shape r r)) 0 (set w k (diagonal_cell ieee t (get_or w (d.at + r) nan)))
begun_pivot p d t w₀ fits from apart r h has last w so k e =
    let y = lies p.shape r r has in
    let len : ℕ → ℕ = run_length p.shape in
    let b : ℕ → ℕ → Float = scaled_run p (as_diagonal d) t w₀ in
    let j : ℕ = run_of p.shape r r in
    let i : ℕ = in_run p.shape r r in
    let here : i ≤ len j = omega arith in
    let q : length w ≡ length w₀ = done_length p.at len b w₀ (runs p.shape) fits j y.run i here w so in
    let a : read (as_diagonal d) w ≡ read (as_diagonal d) w₀ = same_block p.at len b w₀ (runs p.shape) fits j y.run i here w so d.at (diagonal d.rows) apart in
    let v : Float = diagonal_cell ieee t (get_or w (d.at + r) nan) in
    let g : v ≡ scaled_cell (as_diagonal d) t w₀ r r =
    ap (diagonal_cell ieee t) (read_pivot d w r h (omega arith) ∙ ap (λ (x : ℕ → ℕ → Float). x r r) a) ∙ rw (eq-eqb r r refl) in
    next_run p.at len b w₀ (runs p.shape) fits j y.run (set w k v)
    (rw (← last) (next p.at len b w₀ (runs p.shape) fits j y.run i here w so y.within k e v (g ∙ sym (ap₂ (scaled_cell (as_diagonal d) t w₀) y.row y.column))))

-- beside the pivot of row r all is 0
pub off_diagonal_zero : (d : Placed) (t : Float) (w : List Float) (r : ℕ) → tab r (λ i. ieee.zero) ≡ tab r (scaled_cell d t w r)
off_diagonal_zero d t w r = tab_ext r (λ i. ieee.zero) (scaled_cell d t w r) (λ i h. rw (ne_eqb r i (λ e. omega arith)))

-- ---- each entry over its pivot
abbrev pub quotient : ℕ → Block → (w v : List Float) → ℕ → Float
quotient z b w v i = ieee.over (entry z b.rows v i) (pivot_at (as_diagonal b) w i)

pub divide_turn : {z : ℕ} {v₀ v : List Float} {i : ℕ} (b : Block) (w : List Float) → Lies (length w) (as_diagonal b) → Filling (quotient z b w v₀) z b.rows v₀ v i → i < b.rows
    → Filling (quotient z b w v₀) z b.rows v₀ (set v (z + i) (div binary64 (get_or v (z + i) nan) (get_or w (b.at + i) nan))) (i + 1)
divide_turn {z} {v₀} {v} {i} b w from so more =
    filling_next so (λ (x : Float). div binary64 x (get_or w (b.at + i) nan)) nan refl more
    (ap₂ ieee.over (any_default v₀ (z + i) nan ieee.zero (omega arith) ∙ sym (get_or_part z b.rows v₀ i ieee.zero more)) (read_pivot b w i more from))
