-- Which bytes and lent lists load accepts, said without a reader: the text of a sheet in form, of at most 16,777,216 bytes, that no row from 5 to 11 of
-- document 01's table "Refused because of the input" refuses, and room for its workspace. proofs/Texts.antt shows that load accepts these and no others.
use Rattle.std.specs.Prelude.{ℕ, ◌≤◌, ◌<◌, ◌≡◌, true, length, Float, Err}
use mathlib.Core.List.{List, Memᴰ}
use Rattle.sheet.specs.Run.{Block, Entry}
use Rattle.sheet.specs.Sheet.{Sheet}
use Rattle.sheet.specs.Fault.{covered_rows, Fault}
use Rattle.sheet.specs.Whole.{Each}
use Rattle.sheet_text.specs.written.Written.{text_of, InForm}
use Rattle.layout.specs.declared.GateRefusal.{GateRefusal}
use Rattle.workspace.specs.Loaded.{pair_in, layout_of_sheet}
use Rattle.workspace.specs.Load.{has_room}

-- a sheet in form that 5 to 11 do not refuse
pub record Passes (sheet : Sheet) : Type 0 where
  -- 2, 3 and 4: each line in form and in sequence, each word finite, each count and index within its range
  pub form : InForm sheet
  -- 5, "flag 0 (not_intercept_only)"
  pub flag : sheet.counts.flag ≡ 1
  -- 6, "k = 0 (empty_re)"
  pub some : 0 < sheet.counts.k
  -- 7, "an e is not 1 (slopes)"
  pub intercepts : Each (λ (b : Block). b.e ≡ 1) sheet.blocks
  -- 8, "q is not the sum of m (dim_mismatch)"
  pub covers : sheet.counts.q ≡ covered_rows sheet.blocks
  -- 9, "`zz` word ±0, off-diagonal inside a block, or without a mirror of equal bits"
  pub sound : (e : Entry) → Memᴰ e sheet.zz → Fault sheet e → ⊥
  -- 10 and 11, a pair that the gate refuses
  pub gate : (i j : ℕ) (e : GateRefusal) → i < sheet.counts.k → j < i → pair_in sheet (layout_of_sheet sheet) i j ≡ Err e → ⊥

pub record Acceptable (s h : List ℕ) (w : List Float) (sheet : Sheet) : Type 0 where
  -- 1, "sheet too long"
  pub short : length s ≤ 16777216
  -- 2 to 11
  pub text : s ≡ text_of sheet
  pub passes : Passes sheet
  -- 12, "workspace too short"
  pub room : has_room (layout_of_sheet sheet) h w ≡ true
