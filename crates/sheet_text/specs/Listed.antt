-- Document 01's table "Refused because of the input", rows 1 to 12, as conditions on the bytes s and the lent lists h and w. Rows 2, 3 and 4 are one
-- condition, the reader's own first verdict, which has the order of the lines in it; rows 5 to 12 each ask that the reader accepts, and what the row says.
-- proofs/Accepts.antt shows that load accepts exactly where none holds.
use Rattle.std.specs.Prelude.{ℕ, ◌≤◌, ◌<◌, ◌≡◌, true, false, List, length, Float, Err}
use Rattle.sheet.specs.declared.Starts.{Starts}
use Rattle.sheet.specs.Sheet.{Sheet, accepted, refused, sheet_of}
use Rattle.sheet.specs.Fault.{covered_rows, has_slope, Faulty}
use Rattle.layout.specs.declared.GateRefusal.TheVariants.{MultiblockFill, CrossGate}
use Rattle.workspace.specs.Loaded.{pair_in, layout_of_sheet}
use Rattle.workspace.specs.Load.{has_room}

pub data Listed (s : List ℕ) (h : List ℕ) (w : List Float) : ℕ → Type 0 where
  -- 1, "sheet too long"
  too_long : 16777216 < length s → Listed s h w 1
  -- 2, "line ill-formed, missing or out of sequence"; 3, "word infinite or NaN"; 4, "count or index outside its range": the lines downwards, on a line 2, 3, 4
  at_line : (number line : ℕ) → sheet_of s ≡ refused number line → 2 ≤ number → Listed s h w number
  -- 5, "flag 0 (not_intercept_only)"
  not_intercept_only : (sheet : Sheet) (starts : Starts) → sheet_of s ≡ accepted sheet starts → sheet.counts.flag ≡ 0 → Listed s h w 5
  -- 6, "k = 0 (empty_re)"
  empty_re : (sheet : Sheet) (starts : Starts) → sheet_of s ≡ accepted sheet starts → sheet.counts.k ≡ 0 → Listed s h w 6
  -- 7, "an e is not 1 (slopes)"
  slopes : (sheet : Sheet) (starts : Starts) → sheet_of s ≡ accepted sheet starts → has_slope sheet ≡ true → Listed s h w 7
  -- 8, "q is not the sum of m (dim_mismatch)"
  dim_mismatch : (sheet : Sheet) (starts : Starts) → sheet_of s ≡ accepted sheet starts → (sheet.counts.q ≡ covered_rows sheet.blocks → ⊥) → Listed s h w 8
  -- 9, "`zz` word ±0, off-diagonal inside a block, or without a mirror of equal bits"
  faulty : (sheet : Sheet) (starts : Starts) → sheet_of s ≡ accepted sheet starts → (line : ℕ) → Faulty sheet line → Listed s h w 9
  -- 10, "k > 2 and a pair above 100,000 cells (multiblock_fill)"
  multiblock_fill : (sheet : Sheet) (starts : Starts) → sheet_of s ≡ accepted sheet starts → (i j : ℕ) → i < sheet.counts.k → j < i
      → pair_in sheet (layout_of_sheet sheet) i j ≡ Err MultiblockFill → Listed s h w 10
  -- 11, "pair fails the gate (cross_gate)"
  cross_gate : (sheet : Sheet) (starts : Starts) → sheet_of s ≡ accepted sheet starts → (i j : ℕ) → i < sheet.counts.k → j < i
      → pair_in sheet (layout_of_sheet sheet) i j ≡ Err CrossGate → Listed s h w 11
  -- 12, "workspace too short"
  too_short : (sheet : Sheet) (starts : Starts) → sheet_of s ≡ accepted sheet starts → has_room (layout_of_sheet sheet) h w ≡ false → Listed s h w 12
