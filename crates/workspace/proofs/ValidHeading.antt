-- What load writes of an accepted sheet is a workspace: it is never refused with 20.
use Prim.Native.Nat.{ℕ, suc, ◌+◌, ◌-◌, ◌≤◌, ◌<◌}
use mathlib.Core.Path.{◌≡◌, refl, sym, ap, subst, ◌∙◌}
use mathlib.Core.Bool.{Bool, true, false, cond, and-eq-true_iff}
use mathlib.Core.List.{List, [], ◌∷◌, ◌++◌, append_assoc, append-nil}
use Rattle.std.specs.Prelude.{None}
use native.Mathlib.Omega.{arith}
use lib.Dec.{ltb, leb, eqb}
use lib.ListN.{length, get_or, drop, length-append, length-replicate, get_or-append}
use borrow.Author.Tests.{ltb-true, leb-true, eqb-true}
use Rattle.storage.specs.Runs.{tab}
use Rattle.storage.specs.Part.{store}
use Rattle.storage.proofs.Cells.{length_tab, get_or_tab}
use Rattle.sheet.specs.Run.{Entry}
use Rattle.sheet.specs.Sheet.{Sheet, accepted, sheet_of}
use Rattle.sheet.specs.declared.Starts.{Starts}
use Rattle.sheet.specs.Fault.{fault_number}
use Rattle.layout.specs.declared.Layout.{Layout}
use Rattle.layout.specs.Blocks.{sorted, each}
use Rattle.layout.specs.Shapes.{pick, levels, pairs, doubles_needed}
use Rattle.heading_format.specs.Heading.{written, idle, valid_layout, valid_heading}
use Rattle.heading_format.proofs.Valid.{is_valid, every_at}
use Rattle.heading_format.proofs.Heading.{never_20, idle_valid}
use Rattle.workspace.specs.Loaded.{row_start, in_block, count_of, row_of, of_column, one_each, first_refused_pair, sheet_m, sorted_layout, layout_of_sheet, entry_row_in}
use Rattle.workspace.specs.Load.{heading_of}
use Rattle.layout.proofs.Sums.{length_padded}
use Rattle.workspace.proofs.Valid.{sparse_columns, sheet_valid}
use Rattle.heading_format.specs.Parts.{most_targets}

-- ---- the rows of a sparse pair's entries

-- where an entry passes, the row found is that of an entry that passes
row_found : (test : Entry → Bool) (l : List Entry) → 1 ≤ count_of test l → (e : Entry) × (test e ≡ true) × (row_of test l ≡ e.row)
unfolding count_of row_of
row_found test [] h = absurd (omega arith)
row_found test (x ∷ l) h = step (row_found test l) (test x) refl h
  where
    step : (1 ≤ count_of test l → (e : Entry) × (test e ≡ true) × (row_of test l ≡ e.row)) → (b : Bool) → test x ≡ b
        → 1 ≤ cond b (suc (count_of test l)) (count_of test l) → (e : Entry) × (test e ≡ true) × (cond b x.row (row_of test l) ≡ e.row)
    step f true q g = (x, q, refl)
    step f false q g = f g

pub row_below : (sheet : Sheet) (y : Layout) → one_each sheet y 1 0 ≡ true → (c : ℕ) → c < levels y 0 → entry_row_in sheet y c < levels y 1
row_below sheet y one c h =
    let count : count_of (of_column y 1 0 c) sheet.zz ≡ 1 =
    eqb-true (count_of (of_column y 1 0 c) sheet.zz) 1 (every_at (λ c. eqb (count_of (of_column y 1 0 c) sheet.zz) 1) (levels y 0) one c h) in
    let r = row_found (of_column y 1 0 c) sheet.zz (omega arith) in
    let e = r.0 in
    let t = ((and-eq-true_iff (eqb e.col (row_start y 0 + c)) (in_block y 1 e.row)).0 r.1).1 in
    let b = (and-eq-true_iff (leb (row_start y 1) e.row) (ltb e.row (row_start y 1 + levels y 1))).0 t in
    let low : row_start y 1 ≤ e.row = leb-true (row_start y 1) e.row b.0 in
    let high : e.row < row_start y 1 + levels y 1 = ltb-true e.row (row_start y 1 + levels y 1) b.1 in
    within (row_of (of_column y 1 0 c) sheet.zz) e.row (row_start y 1) (levels y 1) r.2 low high
  where
    within : (a row from n : ℕ) → a ≡ row → from ≤ row → row < from + n → a - from < n
    within a row from n q low high = omega arith

-- ---- the heading, with anything behind it

pub length_m : (sheet : Sheet) → length (layout_of_sheet sheet).m ≡ 8
unfolding layout_of_sheet sorted_layout
length_m sheet = length_padded 8 (each (sheet_m sheet) (sorted (sheet_m sheet) sheet.counts.k))

pub length_order : (sheet : Sheet) → length (layout_of_sheet sheet).order ≡ 8
unfolding layout_of_sheet sorted_layout
length_order sheet = length_padded 8 (sorted (sheet_m sheet) sheet.counts.k)

-- the rows behind the heading's parts
abbrev rows_of : Sheet → Layout → Bool → List ℕ
rows_of sheet y b = pick b (tab (levels y 0) (entry_row_in sheet y)) []

rows_right : (sheet : Sheet) (y : Layout) (rest : List ℕ) → one_each sheet y 1 0 ≡ true → (b : Bool) → b ≡ true
    → (levels y 0 ≤ length (rows_of sheet y b ++ rest)) × ((c : ℕ) → c < levels y 0 → get_or (rows_of sheet y b ++ rest) c 0 < levels y 1)
rows_right sheet y rest one true e =
    let rows : List ℕ = tab (levels y 0) (entry_row_in sheet y) in (
      omega (arith, length-append rows rest, length_tab (levels y 0) (entry_row_in sheet y)),
      λ c h.
          subst (λ (x : ℕ). x < levels y 1)
          (sym (get_or-append rows rest 0 c (omega (arith, length_tab (levels y 0) (entry_row_in sheet y))) ∙ get_or_tab (levels y 0) (entry_row_in sheet y) c 0 h))
          (row_below sheet y one c h),
    )
rows_right sheet y rest one false e = absurd (let z : ◌≡◌ {A = ℕ} 0 1 = cc in omega arith)

layout_valid_heading : (sheet : Sheet) (rest : List ℕ) (doubles : ℕ) → valid_layout (layout_of_sheet sheet) ≡ true → doubles_needed (layout_of_sheet sheet) ≤ doubles
    → valid_heading (heading_of sheet (layout_of_sheet sheet) ++ rest) doubles ≡ true
unfolding heading_of
layout_valid_heading sheet rest doubles ok room =
    let y : Layout = layout_of_sheet sheet in
    let k : y.k ≤ 8 = (is_valid y ok).blocks.1 in
    ap (λ (h : List ℕ). valid_heading h doubles) (append_assoc (written y (idle y.k)) (rows_of sheet y y.sparse) rest)
    ∙ never_20 y (idle y.k) (rows_of sheet y y.sparse ++ rest) doubles ok (idle_valid y.k k) (length_m sheet) (length_order sheet)
    (length-replicate {A = ℕ} most_targets 0) (λ s. rows_right sheet y rest (sparse_columns sheet s).1 y.sparse s) room

module _ (s : List ℕ) (sheet : Sheet) (starts : Starts) (read : sheet_of s ≡ accepted sheet starts) (fine : fault_number sheet ≡ 0)
    (gate : first_refused_pair sheet (layout_of_sheet sheet) (pairs (layout_of_sheet sheet).k) ≡ None) (doubles : ℕ) (room : doubles_needed (layout_of_sheet sheet) ≤ doubles) where
  -- the heading that load makes, with doubles enough
  pub load_valid_heading : valid_heading (heading_of sheet (layout_of_sheet sheet)) doubles ≡ true
  load_valid_heading =
      ap (λ (h : List ℕ). valid_heading h doubles) (sym (append-nil (heading_of sheet (layout_of_sheet sheet))))
      ∙ layout_valid_heading sheet [] doubles (sheet_valid s sheet starts read fine gate) room

  -- the same where load writes it, over the first numbers of any heading
  pub load_stored : (h : List ℕ) → valid_heading (store 0 (heading_of sheet (layout_of_sheet sheet)) h) doubles ≡ true
  unfolding store
  load_stored h =
      layout_valid_heading sheet (drop (0 + length (heading_of sheet (layout_of_sheet sheet))) h) doubles (sheet_valid s sheet starts read fine gate) room
