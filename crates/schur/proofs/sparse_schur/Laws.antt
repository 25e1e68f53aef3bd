-- S with a sparse block: each of its columns changes one column of the target.
use Prim.Native.Nat.{ℕ, suc, ◌+◌, ◌*◌, ◌≤◌, ◌<◌}
use mathlib.Core.Path.{◌≡◌, refl, sym, ap, ap₂, subst, ◌∙◌}
use mathlib.Core.Bool.{Bool, cond, and-eq-true_iff}
use mathlib.Core.List.{List}
use mathlib.Core.Logic.{inl, inr, ⊎_elim, by_cases}
use native.Mathlib.Decide.{dec_lt}
use native.Mathlib.Numerals.{add-one}
use native.Mathlib.Omega.{arith}
use borrow.Author.Tests.{ltb-true, eq-eqb, ne_eqb}
use lib.Dec.{ltb}
use lib.ListN.{length, get_or}
use lib.Ieee.{Float, nan}
use Rattle.storage.specs.Runs.{start, dense, tab}
use Rattle.storage.specs.Shape.{Shape, columns, size_of, fill, cell}
use Rattle.storage.specs.Part.{part, store}
use Rattle.storage.specs.declared.Block.{Block}
use Rattle.storage.specs.Placed.{Placed, Product, Apart, as_columns, as_entries, read, put}
use Rattle.storage.proofs.Starts.{start_below, start_dense, start_single}
use Rattle.storage.proofs.Cells.{length_tab, get_or_tab, tab_ext, any_default}
use Rattle.storage.proofs.Parts.{length_part, length_store, get_or_part, part_else, store_in, store_else, store_part, store_inside}
use Rattle.storage.proofs.Blocks.{length_fill, cell_fill, is_fill, fill_cell, cell_stored}
use Rattle.rules.specs.Arithmetic.{ieee}
use Rattle.rules.specs.Sums.{subtract_from}
use Rattle.block_runs.specs.blocks.Blocks.{entry}
use Rattle.block_runs.proofs.blocks.Laws.{read_block, has_dense}
use Rattle.block_runs.specs.axpy.Axpy.{at, run}
use Rattle.block_runs.proofs.axpy.Sums.{read_run}
use Rattle.schur.specs.Schur.{subtract_entries, subtract_column}

-- one column of a dense block written
pub column_stored : (rows cols c : ℕ) (f f' : ℕ → ℕ → Float) (g : ℕ → Float) → c < cols → ((r : ℕ) → r < rows → g r ≡ f' r c)
    → ((r x : ℕ) → (x ≡ c → ⊥) → f r x ≡ f' r x)
    → store (start (dense rows) c) (tab rows g) (fill (columns rows cols) f) ≡ fill (columns rows cols) f'
column_stored rows cols c f f' g here new old =
    let s : Shape = columns rows cols in
    let L : List Float = fill s f in
    let l : List Float = tab rows g in
    let p : length L ≡ start (dense rows) cols = length_fill s f in
    let q : length l ≡ rows = length_tab rows g in
    let b : start (dense rows) c + rows ≤ start (dense rows) cols = start_below (dense rows) c cols here in
    let fits : start (dense rows) c + length l ≤ length L = omega arith in
    is_fill nan s f' (store (start (dense rows) c) l L) (length_store (start (dense rows) c) l L fits ∙ p)
    (λ r x h.
    let k = (and-eq-true_iff (ltb x cols) (ltb r rows)).0 h in
    let m : r < rows = ltb-true r rows k.1 in
    by_cases (dec_lt x c)
    (λ y. store_else (start (dense rows) c) l L fits nan (start (dense rows) x + r) (inl (omega (arith, start_below (dense rows) x c y)))
    ∙ cell_fill nan s f r x h ∙ old r x (λ e. absurd (omega arith)))
    (λ y. by_cases (dec_lt c x)
    (λ z. store_else (start (dense rows) c) l L fits nan (start (dense rows) x + r) (inr (omega (arith, start_below (dense rows) c x z)))
    ∙ cell_fill nan s f r x h ∙ old r x (λ e. absurd (omega arith)))
    (λ z. let e : x ≡ c = omega arith in
    subst (λ (i : ℕ). get_or (store (start (dense rows) c) l L) (start (dense rows) i + r) nan ≡ f' r i) (sym e)
    (store_in (start (dense rows) c) l L fits nan r (omega arith) ∙ get_or_tab rows g r nan m ∙ new r m))))

-- ---- the loop over the sparse block's columns: x of them are subtracted, and column x of block a starts at ax
pub record Subtracting (row : ℕ → ℕ) (t a v : Block) (w₀ : List Float) (x ax : ℕ) (w : List Float) : Type 0 where
  pub within : x ≤ a.cols
  pub place : ax ≡ a.at + start (dense a.rows) x
  pub long : length w ≡ length w₀
  pub so : w ≡ put (as_columns t) (subtract_entries row t a v w₀ x) w₀

module _ {row : ℕ → ℕ} {t a v : Block} {w₀ : List Float} (P : Product (length w₀) as_columns (as_entries row) t a v) where
  pub sparse_none : Subtracting row t a v w₀ 0 a.at w₀
  unfolding start subtract_from
  sparse_none =
      record {
        within = omega arith;
        place = omega arith;
        long = refl;
        so =
            sym
            (let s = (as_columns t).shape in
            ap (λ (l : List Float). store t.at l w₀) (fill_cell ieee.zero s (part t.at (size_of s) w₀) (length_part t.at (size_of s) w₀ P.target)) ∙ store_part t.at (size_of s) w₀ P.target);
      }

  module _ {x ax : ℕ} {w : List Float} (e : Subtracting row t a v w₀ x ax w) where
    abbrev s : Shape
    s = (as_columns t).shape

    abbrev rule : ℕ → ℕ → ℕ → Float
    rule = subtract_entries row t a v w₀

    long : (n : ℕ) → length (fill s (rule n)) ≡ size_of s
    long n = length_fill s (rule n)

    pub sparse_all : a.cols ≤ x → w ≡ put (as_columns t) (rule a.cols) w₀
    sparse_all h = let within = e.within in subst (λ (n : ℕ). w ≡ put (as_columns t) (rule n) w₀) (omega arith) e.so

    module _ (more : x < a.cols) where
      -- entry x, and column x of block a
      pub source_room : (v.at + x < length w₀) × (ax + t.rows ≤ length w₀)
      source_room =
          (omega (arith, P.right, P.inner, start_single v.cols), omega (arith, P.left, P.rows, e.place, start_below (dense a.rows) x a.cols more))

      other : (q : Placed) → Apart (as_columns t) q → part q.at (size_of q.shape) w ≡ part q.at (size_of q.shape) w₀
      other q h =
          ap (part q.at (size_of q.shape)) e.so
          ∙ part_else t.at (fill s (rule x)) w₀ (omega (arith, P.target, long x)) q.at (size_of q.shape) (⊎_elim (λ k. inr (omega (arith, long x))) (λ k. inl k) h)

      factor_read : at w (v.at + x) ≡ entry v.at v.cols w₀ x
      factor_read =
          any_default w (v.at + x) nan ieee.zero (omega (arith, e.long, source_room))
          ∙ sym (get_or_part v.at (size_of (as_entries row v).shape) w x ieee.zero (omega (arith, P.inner, start_single v.cols)))
          ∙ ap (λ (l : List Float). get_or l x ieee.zero) (other (as_entries row v) P.off_right) ∙ ap (λ (n : ℕ). entry v.at n w₀ x) (start_single v.cols)

      module _ (c : ℕ) (d : c ≡ row x) (below : (y : ℕ) → y < v.cols → row y < t.cols) where
        here : c < t.cols
        here = subst (λ (k : ℕ). k < t.cols) (sym d) (below x (omega (arith, P.inner)))

        -- column c of the target
        pub target_room : t.at + c * t.rows + t.rows ≤ length w₀
        target_room = omega (arith, P.target, start_dense t.rows c, start_below (dense t.rows) c t.cols here)

        abbrev made : ℕ → Float
        made r = ieee.minus (at w (t.at + c * t.rows + r)) (ieee.times (at w (ax + r)) (at w (v.at + x)))

        new : (r : ℕ) → r < t.rows → made r ≡ rule (suc x) r c
        unfolding subtract_from
        new r h =
            ap₂ ieee.minus
            (ap₂ (λ (l : List Float) (i : ℕ). get_or l i nan) e.so (omega (arith, start_dense t.rows c)) ∙ cell_stored nan s (rule x) t.at w₀ P.target r c (has_dense t.rows t.cols r c h here))
            (ap₂ ieee.times
            (read_block (columns a.rows a.cols) a.at w r x (ax + r) (has_dense a.rows a.cols r x (omega (arith, P.rows)) more) (omega (arith, e.long, P.left)) (omega (arith, e.place))
            ∙ ap (λ (l : List Float). cell ieee.zero (columns a.rows a.cols) l r x) (other (as_columns a) P.off_left))
            factor_read)
            ∙ ap (λ (b : Bool). cond b (ieee.minus (rule x r c) (ieee.times (read (as_columns a) w₀ r x) (entry v.at v.cols w₀ x))) (rule x r c)) (sym (eq-eqb (row x) c (sym d)))

        old : (r y : ℕ) → (y ≡ c → ⊥) → rule x r y ≡ rule (suc x) r y
        unfolding subtract_from
        old r y h =
            ap (λ (b : Bool). cond b (ieee.minus (rule x r y) (ieee.times (read (as_columns a) w₀ r x) (entry v.at v.cols w₀ x))) (rule x r y))
            (sym (ne_eqb (row x) y (λ k. h (sym k ∙ sym d))))

        pub sparse_more : {w' : List Float} {ax' : ℕ} → ax' ≡ ax + t.rows → w' ≡ subtract_column (t.at + c * t.rows) t.rows ax (at w (v.at + x)) w
            → Subtracting row t a v w₀ (x + 1) ax' w'
        unfolding start
        sparse_more {w'} next f =
            let so : w' ≡ put (as_columns t) (rule (suc x)) w₀ =
            f ∙ ap₂ (λ (i : ℕ) (l : List Float). store i (tab t.rows made) l) (omega (arith, start_dense t.rows c)) e.so
            ∙ store_inside t.at (fill s (rule x)) w₀ (start (dense t.rows) c) (tab t.rows made) (omega (arith, P.target, long x))
            (omega (arith, long x, length_tab t.rows made, start_below (dense t.rows) c t.cols here))
            ∙ ap (λ (l : List Float). store t.at l w₀) (column_stored t.rows t.cols c (rule x) (rule (suc x)) made here new old) in
            record {
              within = omega arith;
              place = rw add-one (omega (arith, e.place, P.rows));
              long = ap length so ∙ length_store t.at (fill s (rule (suc x))) w₀ (omega (arith, P.target, long (suc x)));
              so = rw add-one so;
            }

-- a column less a multiple of another, whose doubles are read first
pub column_subtracted : (w w' acc acc₁ : List Float) (to rows ax : ℕ) (f : Float) → rows ≤ length acc → acc₁ ≡ run 0 rows (λ i. at w (ax + i)) acc
    → w' ≡ run to rows (λ i. ieee.minus (at w (to + i)) (ieee.times (at acc₁ i) f)) w → w' ≡ subtract_column to rows ax f w
column_subtracted w w' acc acc₁ to rows ax f room first so =
    so
    ∙ ap (λ (l : List Float). store to l w)
    (tab_ext rows _ _
    (λ i l. ap (λ (x : Float). ieee.minus (at w (to + i)) (ieee.times x f))
    (ap (λ (x : List Float). at x i) first ∙ read_run 0 rows (λ j. at w (ax + j)) acc (omega arith) i i l (omega arith))))
