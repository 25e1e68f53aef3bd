-- Sums by rows of the target, and the target less them.
use Prim.Native.Nat.{ℕ, ◌+◌, ◌-◌, ◌*◌, ◌≤◌, ◌<◌}
use mathlib.Core.Path.{◌≡◌, refl, sym, ap, ap₂, subst, ◌∙◌}
use mathlib.Core.List.{List}
use native.Mathlib.Nat.{mul-le-mul}
use native.Mathlib.Omega.{arith}
use borrow.Rule.Slice.PartMut.{put_mid}
use lib.ListN.{length, take, drop}
use lib.Ieee.{Float, nan}
use Rattle.storage.specs.Runs.{start, dense, cells}
use Rattle.storage.specs.Shape.{columns, size_of, fill}
use Rattle.storage.specs.Part.{store}
use Rattle.storage.proofs.Starts.{start_dense, start_below, start_le}
use Rattle.storage.proofs.Cells.{tab_ext, length_cells, get_or_cells, cells_ext}
use Rattle.storage.proofs.Parts.{store_in, store_lent, get_or_part}
use Rattle.rules.specs.Arithmetic.{ieee}
use Rattle.storage.specs.declared.Block.{Block}
use Rattle.storage.specs.Placed.{Product, as_columns, read}
use Rattle.block_runs.specs.blocks.Blocks.{block}
use Rattle.block_runs.proofs.blocks.Laws.{read_block, has_dense}
use Rattle.block_runs.proofs.blocks.Runs.{Writing, writing_own, writing_more}
use Rattle.block_runs.specs.axpy.Axpy.{at, run, along, products}
use Rattle.block_runs.proofs.axpy.Sums.{sum_along, along_swap, summed}
use Rattle.schur.specs.Schur.{subtracted_dense}
use Rattle.schur.specs.few_rows.Few.{row_sums, subtract_sum, subtract_sums}

-- the sums of the products of one row of block a, made beside t and put there
pub row_put : (w t t' acc acc₁ acc₂ : List Float) (from : ℕ) (a b : Block) (r : ℕ) → b.rows ≤ length acc → b.cols ≡ a.cols → acc₁ ≡ run 0 b.rows (λ i. ieee.zero) acc
    → acc₂ ≡ products ieee.plus acc₁ b.rows w b.at b.rows w a.at a.rows r a.cols → t' ≡ run from b.rows (λ i. at acc₂ (0 + i)) t → t' ≡ run from b.rows (row_sums a b w r) t
row_put w t t' acc acc₁ acc₂ from a b r room e first then so =
    so
    ∙ ap (λ (l : List Float). store from l t)
    (tab_ext b.rows _ _
    (λ i l.
    ap (at acc₂) (omega arith) ∙ summed ieee.plus b.rows w b.at b.rows w a.at a.rows r a.cols acc acc₁ acc₂ (λ x. ieee.zero) room first then i l
    ∙ ap (λ (x : ℕ). along ieee.plus ieee.zero (block b.at (columns b.rows x) w i) (read (as_columns a) w r) a.cols) (sym e)))

-- there is room for two rows more
pub two_rows_room : {end cols n : ℕ} {b : ℕ → ℕ → Float} {t₀ : List Float} {r from : ℕ} {t : List Float} → Writing 0 end (dense cols) n b t₀ r from t → r + 2 ≤ n
    → from + cols + cols ≤ end
two_rows_room {cols = cols} {n = n} {r = r} e more =
    omega (arith, e.place, e.ends, start_dense cols r, start_dense cols (r + 2), start_le (dense cols) (r + 2) n more)

-- two rows more
pub two_rows : {end cols n : ℕ} {b : ℕ → ℕ → Float} {t₀ : List Float} {r from : ℕ} {t : List Float} {from' : ℕ} {t' : List Float}
    → Writing 0 end (dense cols) n b t₀ r from t → r + 2 ≤ n → from' ≡ from + 2 * cols → t' ≡ run (from + cols) cols (b (r + 1)) (run from cols (b r) t)
    → Writing 0 end (dense cols) n b t₀ (r + 2) from' t'
two_rows {end} {cols} {n} {b} {t₀} {r} {from} {t} {from'} {t'} e more next then =
    let k : r + 1 + 1 ≡ r + 2 = omega arith in
    subst (λ (x : ℕ). Writing 0 end (dense cols) n b t₀ x from' t') k
    (writing_more (writing_more e (omega arith) from cols (b r) (omega arith) refl refl (λ i l. refl) refl) (omega arith) (from + cols) cols (b (r + 1)) (omega arith) refl (omega arith)
    (λ i l. refl) then)

-- one column more
pub column_subtracted : {end rows cols : ℕ} {t₀ : List Float} {c to : ℕ} {t t' : List Float} {to' : ℕ} (sums : List Float)
    → Writing 0 end (dense rows) cols (subtract_sums rows cols sums t₀) t₀ c to t → c < cols → to' ≡ to + rows → t' ≡ run to rows (subtract_sum to cols sums c t) t
    → Writing 0 end (dense rows) cols (subtract_sums rows cols sums t₀) t₀ (c + 1) to' t'
column_subtracted {end} {rows} {cols} {t₀} {c} {to} {t} sums e more next then =
    writing_more e more to rows _ (omega arith) refl next
    (λ i l.
    ap (λ (s : Float). ieee.minus s (at sums (start (dense cols) i + c)))
    (writing_own e more (to + i) (omega arith) ∙ ap (λ (k : ℕ). at t₀ (k + i)) e.place))
    then

-- a sum that is read
sum_read : (rows cols : ℕ) (rule : ℕ → ℕ → Float) (sums t : List Float) → size_of (columns cols rows) ≤ length t
    → sums ≡ store 0 (cells (dense cols) rows rule) t → (r c : ℕ) → r < rows → c < cols → at sums (start (dense cols) r + c) ≡ rule r c
sum_read rows cols rule sums t room made r c h l =
    let L : List Float = cells (dense cols) rows rule in
    let q : length L ≡ start (dense cols) rows = length_cells (dense cols) rows rule in
    let k : start (dense cols) r + c ≡ 0 + (start (dense cols) r + c) = omega arith in
    ap₂ (λ (x : List Float) (i : ℕ). at x i) made k
    ∙ store_in 0 L t (omega arith) nan (start (dense cols) r + c) (omega (arith, start_below (dense cols) r rows h))
    ∙ get_or_cells (dense cols) rows rule r c nan h l

-- the block t, lent, less the sums
pub few_subtracted : (w y sums l : List Float) (end : ℕ) (t a b : Block) → Product (length w) as_columns as_columns t a b → end ≡ t.at + size_of (columns t.rows t.cols)
    → size_of (columns t.cols t.rows) ≤ length l → sums ≡ store 0 (cells (dense b.rows) a.rows (row_sums a b w)) l
    → y ≡ store 0 (cells (dense t.rows) t.cols (subtract_sums t.rows t.cols sums (take (end - t.at) (drop t.at w)))) (take (end - t.at) (drop t.at w))
    → put_mid t.at (end - t.at) w y ≡ subtracted_dense t a b w
unfolding fill
few_subtracted w y sums l end t a b P e room made so =
    let rows : ℕ = t.rows in
    let cols : ℕ = t.cols in
    let made' : sums ≡ store 0 (cells (dense cols) rows (row_sums a b w)) l = rw (sym P.rows, sym P.cols) made in
    let M : List Float = take (end - t.at) (drop t.at w) in
    let L : List Float = cells (dense rows) cols (subtract_sums rows cols sums M) in
    let q : length L ≡ start (dense rows) cols = length_cells (dense rows) cols (subtract_sums rows cols sums M) in
    let k : t.at + 0 ≡ t.at = omega arith in
    let fits = P.target in
    ap (put_mid t.at (end - t.at) w) so ∙ store_lent w t.at (end - t.at) 0 L (omega arith) (omega arith)
    ∙ ap₂ (λ (x : ℕ) (l : List Float). store x l w) k
    (cells_ext (dense rows) cols _ _
    (λ c i h l.
    let in_block_lem : start (dense rows) c + rows ≤ start (dense rows) cols = start_below (dense rows) c cols h in
    ap₂ ieee.minus
    (get_or_part t.at (end - t.at) w (start (dense rows) c + i) nan (omega arith)
    ∙ read_block (columns rows cols) t.at w i c (t.at + (start (dense rows) c + i)) (has_dense rows cols i c l h) (omega arith) refl)
    (sum_read rows cols (row_sums a b w) sums _ room made' i c l h
    ∙ along_swap ieee.plus ieee.zero (read (as_columns b) w c) (read (as_columns a) w i) a.cols
    ∙ sum_along ieee.zero (read (as_columns a) w i) (read (as_columns b) w c) a.cols)))

-- the list of sums is long enough
pub few_room : (rows cols : ℕ) → rows ≤ 12 → cols ≤ 316 → size_of (columns cols rows) ≤ 3792
few_room rows cols h k = omega (arith, start_dense cols rows, mul-le-mul h k)

-- where the block ends
pub block_ends : (t : Block) → t.at + t.cols * t.rows ≡ t.at + size_of (columns t.rows t.cols)
block_ends t = omega (arith, start_dense t.rows t.cols)
