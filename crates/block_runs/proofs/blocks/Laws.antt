-- Blocks read while a loop writes another, and the loop's turn: one cell more, one run more.
use Prim.Native.Nat.{ℕ, suc, ◌+◌, ◌≤◌, ◌<◌}
use mathlib.Core.Path.{◌≡◌, refl, sym, ap, ap₂, ◌∙◌}
use mathlib.Core.Bool.{true}
use mathlib.Core.List.{List, [], ◌∷◌, ◌++◌, append_assoc, append-nil}
use mathlib.Core.Logic.{◌⊎◌, inl, inr, ⊎_elim}
use native.Mathlib.Omega.{arith}
use borrow.Author.Tests.{lt-ltb, le-leb, eq-eqb}
use lib.ListN.{length, get_or, set, length-append}
use lib.Ieee.{Float, nan}
use Rattle.storage.specs.Runs.{start, tab, cells}
use Rattle.storage.specs.Shape.{Shape, packed, diagonal, columns, has_cell, size_of, place_of, cell}
use Rattle.storage.specs.Part.{part, store}
use Rattle.storage.proofs.Starts.{start_below, start_le}
use Rattle.storage.proofs.Cells.{length_tab, length_cells, get_or_cells, tab_ext, any_default}
use Rattle.storage.proofs.Places.{place_below}
use Rattle.storage.proofs.Parts.{length_store, part_else, store_else, store_one, store_nil, store_more, store_in}
use Rattle.storage.proofs.Blocks.{cell_part}
use Rattle.rules.specs.Arithmetic.{ieee}
use Rattle.block_runs.specs.blocks.Blocks.{block}
use Rattle.block_runs.specs.blocks.Done.{Done}

-- a double read at its place is the block's cell
pub read_block : (s : Shape) (off : ℕ) (w : List Float) (r c k : ℕ) → has_cell s r c ≡ true → off + size_of s ≤ length w → k ≡ off + place_of s r c
    → get_or w k nan ≡ block off s w r c
read_block s off w r c k h fits e =
    ap (λ (i : ℕ). get_or w i nan) e
    ∙ any_default w (off + place_of s r c) nan ieee.zero (omega (arith, place_below s r c h))
    ∙ sym (cell_part ieee.zero s off w r c h)

-- the cells that a dense block and a triangle have
pub has_dense : (rows cols r c : ℕ) → r < rows → c < cols → has_cell (columns rows cols) r c ≡ true
has_dense rows cols r c h k = rw (lt-ltb, lt-ltb r rows h)

pub has_packed : (n r c : ℕ) → r < n → c ≤ r → has_cell (packed n) r c ≡ true
has_packed n r c h k = rw (lt-ltb, le-leb)

pub has_diagonal : (n r : ℕ) → r < n → has_cell (diagonal n) r r ≡ true
has_diagonal n r h = rw (lt-ltb, eq-eqb r r refl)

module _ (off : ℕ) (len : ℕ → ℕ) (b : ℕ → ℕ → Float) (w₀ : List Float) (n : ℕ) (fits : off + start len n ≤ length w₀) where
  pub done_cells : (j i : ℕ) → length (cells len j b ++ tab i (b j)) ≡ start len j + i
  done_cells j i = length-append (cells len j b) (tab i (b j)) ∙ ap₂ (λ (x y : ℕ). x + y) (length_cells len j b) (length_tab i (b j))

  pub begun : Done off len b w₀ 0 0 w₀
  unfolding cells tab
  begun = sym (store_nil off w₀)

  pub ended : (w : List Float) → Done off len b w₀ n 0 w → w ≡ store off (cells len n b) w₀
  unfolding tab
  ended w h = h ∙ ap (λ (l : List Float). store off l w₀) (append-nil (cells len n b))

  module _ (j : ℕ) (run : j < n) where
    pub next_run : (w : List Float) → Done off len b w₀ j (len j) w → Done off len b w₀ (suc j) 0 w
    unfolding cells tab
    next_run w h = h ∙ ap (λ (l : List Float). store off l w₀) (sym (append-nil (cells len j b ++ tab (len j) (b j))))

    module _ (i : ℕ) (here : i ≤ len j) (w : List Float) (so : Done off len b w₀ j i w) where
      pub inside : off + length (cells len j b ++ tab i (b j)) ≤ length w₀
      inside = omega (arith, done_cells j i, start_below len j n run)

      pub done_length : length w ≡ length w₀
      done_length = ap length so ∙ length_store off (cells len j b ++ tab i (b j)) w₀ inside

      -- a block that lies apart is read as it was
      pub same_block : (a : ℕ) (s : Shape) → (off + start len n ≤ a) ⊎ (a + size_of s ≤ off) → block a s w ≡ block a s w₀
      same_block a s apart =
          ap (λ (l : List Float). cell ieee.zero s l)
          (ap (part a (size_of s)) so
          ∙ part_else off (cells len j b ++ tab i (b j)) w₀ inside a (size_of s)
          (⊎_elim (λ h. inr (omega (arith, done_cells j i, start_below len j n run))) (λ h. inl h) apart))

      -- a cell that is not written yet is read as it was
      pub own : (k : ℕ) (d : Float) → off + (start len j + i) ≤ k → get_or w k d ≡ get_or w₀ k d
      own k d h =
          ap (λ (l : List Float). get_or l k d) so
          ∙ store_else off (cells len j b ++ tab i (b j)) w₀ inside d k (inr (omega (arith, done_cells j i)))

      pub next : i < len j → (k : ℕ) → k ≡ off + (start len j + i) → (v : Float) → v ≡ b j i → Done off len b w₀ j (suc i) (set w k v)
      unfolding tab
      next more k e v f =
          let L : List Float = cells len j b ++ tab i (b j) in
          let q : k ≡ off + length L = omega (arith, done_cells j i) in
          ap₂ (λ (l : List Float) (x : ℕ). set l x v) so q
          ∙ store_one off L w₀ inside v (omega (arith, done_cells j i, start_below len j n run))
          ∙ ap (λ (l : List Float). store off l w₀)
          (append_assoc (cells len j b) (tab i (b j)) (v ∷ []) ∙ ap (λ (x : Float). cells len j b ++ (tab i (b j) ++ (x ∷ []))) f)

    -- the next run written whole, each cell as the rule says
    pub run_written : (w w' : List Float) → Done off len b w₀ j 0 w → (to k : ℕ) (g : ℕ → Float) → to ≡ off + start len j → k ≡ len j
        → ((i : ℕ) → i < len j → g i ≡ b j i) → w' ≡ store to (tab k g) w → Done off len b w₀ (suc j) 0 w'
    unfolding cells tab
    run_written w w' so to k g e d same then =
        let L : List Float = cells len j b in
        let q : length L ≡ start len j = length_cells len j b in
        then
        ∙ ap₂ (λ (x y : ℕ). store x (tab y g) w) (omega arith) d
        ∙ ap₂ (λ (l : List Float) (x : List Float). store (off + length L) l x) (tab_ext (len j) g (b j) same)
        (so ∙ ap (λ (l : List Float). store off l w₀) (append-nil L))
        ∙ store_more off L w₀ (omega (arith, start_below len j n run)) (tab (len j) (b j))
        ∙ ap (λ (l : List Float). store off l w₀) (sym (append-nil (L ++ tab (len j) (b j))))

  -- a cell that is written is the rule's
  pub written : (j : ℕ) → j ≤ n → (w : List Float) → Done off len b w₀ j 0 w → (y i k : ℕ) → y < j → i < len y → k ≡ off + (start len y + i) → get_or w k nan ≡ b y i
  unfolding tab
  written j top w so y i k l h e =
      let L : List Float = cells len j b in
      let q : length L ≡ start len j = length_cells len j b in
      ap₂ (λ (x : List Float) (z : ℕ). get_or x z nan) (so ∙ ap (λ (x : List Float). store off x w₀) (append-nil L)) e
      ∙ store_in off L w₀ (omega (arith, start_le len j n top)) nan (start len y + i) (omega (arith, start_below len y j l))
      ∙ get_or_cells len j b y i nan l h
