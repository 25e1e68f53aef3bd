-- A freshly loaded workspace stands by the opened book.
use Prim.Native.Nat.{ℕ, ◌+◌, ◌≤◌, ◌<◌}
use mathlib.Core.Path.{◌≡◌, refl, sym, ap, subst, ◌∙◌}
use mathlib.Core.Bool.{Bool, true, false, cond, and-eq-true_iff}
use mathlib.Core.List.{List, [], ◌++◌, append_assoc}
use Rattle.std.specs.Prelude.{Option, None, Some}
use native.Mathlib.Omega.{arith}
use lib.Dec.{leb, eqb}
use lib.ListN.{length, get_or, take, drop, length-append, length-replicate}
use lib.Seq.{take_at, drop_at}
use lib.Ieee.{Float}
use borrow.Author.Tests.{leb-true, eqb-true}
use Rattle.storage.specs.Runs.{tab}
use Rattle.storage.specs.Part.{store}
use Rattle.storage.proofs.Cells.{get_or_tab}
use Rattle.storage.proofs.Parts.{length_store, drop_store, store_all}
use Rattle.sheet.specs.declared.Starts.{Starts}
use Rattle.sheet.specs.Sheet.{Sheet, accepted, sheet_of}
use Rattle.sheet.specs.Sheet as Sheets
use Rattle.sheet.specs.Fault.{fault_number, named_line}
use Rattle.sheet.specs.Answer.{checked}
use Rattle.refusal.specs.declared.Refusal.{Refusal}
use Rattle.layout.specs.declared.Layout.{Layout}
use Rattle.layout.specs.Shapes.{pick, levels, pairs, loaded_length, doubles_needed}
use Rattle.heading_format.specs.Heading.{entry_row, written, idle, numbers_needed}
use Rattle.heading_format.proofs.Valid.{is_valid}
use Rattle.heading_format.proofs.Heading.{length_written, rows_back, idle_valid}
use Rattle.workspace.specs.Memory.{zeros}
use Rattle.workspace.specs.Answers.{Outcome, workspace, accept, untouched}
use Rattle.workspace.specs.Loaded.{first_refused_pair, entry_row_in, loaded_numbers}
use Rattle.workspace.specs.Load.{heading_of, doubles_of, has_room, after_gate, load_sheet, load_of}
use Rattle.workspace.proofs.Valid.{sparse_columns, sheet_valid}
use Rattle.workspace.proofs.Lengths.{length_loaded, length_doubles, length_heading}
use Rattle.workspace.proofs.ValidHeading.{row_below, length_m, length_order}
use Rattle.book.specs.Book.{layout, last, opened, fresh, book_of}
use Rattle.demand3.proofs.frame.Clear.{zeros_length}
use Rattle.demand3.proofs.invariant.Invariant.{Site, Invariant, behind}
use Rattle.heading_format.specs.Parts.{most_targets, heading_length}
use Rattle.std.specs.Prelude.{Ok}

-- ---- what an accepted load came to
pub record Applied (sheet : Sheet) (h : List ℕ) (w : List Float) (o : Outcome) : Type 0 where
  pub fine : fault_number sheet ≡ 0
  pub gate : first_refused_pair sheet (layout sheet) (pairs (last sheet)) ≡ None
  room : has_room (layout sheet) h w ≡ true
  left : o.left ≡ workspace (store 0 (heading_of sheet (layout sheet)) h) (store 0 (doubles_of sheet (layout sheet)) w)

module _ (sheet : Sheet) (h : List ℕ) (w : List Float) where
  -- it fitted
  fitted : (b : Bool) (o : Outcome) → (pick b o (untouched h w 12 0 0)).answer ≡ (Ok tt) → (b ≡ true) × (pick b o (untouched h w 12 0 0) ≡ o)
  fitted true o a = (refl, refl)
  fitted false o a = absurd (let z : ◌≡◌ {A = ℕ} 0 1 = cc in omega arith)

  -- the gate let every pair pass
  passed : (y : Layout) (g : Option Refusal) → (after_gate g sheet y h w).answer ≡ (Ok tt)
      → (g ≡ None) × (has_room y h w ≡ true) × (after_gate g sheet y h w ≡ accept (store 0 (heading_of sheet y) h) (store 0 (doubles_of sheet y) w))
  passed y None a = let f = fitted (has_room y h w) (accept (store 0 (heading_of sheet y) h) (store 0 (doubles_of sheet y) w)) a in (refl, f.0, f.1)
  passed y (Some r) a = absurd (let z : ◌≡◌ {A = ℕ} 0 1 = cc in omega arith)

  -- so a sheet without a fault was taken
  sheet_opened : fault_number sheet ≡ 0 → (load_sheet sheet h w).answer ≡ (Ok tt) → Applied sheet h w (load_sheet sheet h w)
  unfolding load_sheet
  sheet_opened fine a =
      let p = passed (layout sheet) (first_refused_pair sheet (layout sheet) (pairs (last sheet))) a in
      record { fine = fine; gate = p.0; room = p.1; left = ap (λ (o : Outcome). o.left) p.2 }

  -- the sheet was read without a fault
  found_fine : (b : Bool) → eqb (fault_number sheet) 0 ≡ b → (cond b (load_sheet sheet h w) (untouched h w (fault_number sheet) (named_line sheet) 0)).answer ≡ (Ok tt)
      → Applied sheet h w (cond b (load_sheet sheet h w) (untouched h w (fault_number sheet) (named_line sheet) 0))
  found_fine true e a = sheet_opened (eqb-true (fault_number sheet) 0 e) a
  found_fine false e a = absurd (let z : ◌≡◌ {A = ℕ} 0 1 = cc in omega arith)

  pub load_opened : (bytes : List ℕ) (starts : Starts) → sheet_of bytes ≡ accepted sheet starts → (load_of bytes h w).answer ≡ (Ok tt) → Applied sheet h w (load_of bytes h w)
  unfolding load_of
  load_opened bytes starts e a =
      subst (λ (p : Sheets.Outcome). (come p).answer ≡ (Ok tt) → Applied sheet h w (come p)) (sym e) (found_fine (eqb (fault_number sheet) 0) refl) a
    where
      come : Sheets.Outcome → Outcome
      come p = checked (λ number line. untouched h w number line 0) (λ sheet starts. load_sheet sheet h w) p

-- ---- the heading that load writes
module _ (sheet : Sheet) where
  -- the rows of a sparse pair's entries are rows of block 1
  rows_below : (layout sheet).sparse ≡ true → (c : ℕ) → c < levels (layout sheet) 0 → entry_row (heading_of sheet (layout sheet)) c < levels (layout sheet) 1
  unfolding heading_of
  rows_below sparse c l =
      subst (λ (x : ℕ). x < levels (layout sheet) 1)
      (sym
      (rows_back (layout sheet) (idle (last sheet)) (pick (layout sheet).sparse (tab (levels (layout sheet) 0) (entry_row_in sheet (layout sheet))) []) c
      ∙ ap (λ (b : Bool). get_or (pick b (tab (levels (layout sheet) 0) (entry_row_in sheet (layout sheet))) []) c 0) sparse
      ∙ get_or_tab (levels (layout sheet) 0) (entry_row_in sheet (layout sheet)) c 0 l))
      (row_below sheet (layout sheet) (sparse_columns sheet sparse).1 c l)

  -- its parts, wherever it is written
  first_numbers : (h : List ℕ) → store 0 (heading_of sheet (layout sheet)) h ≡ written (layout sheet) (idle (last sheet)) ++ behind sheet h
  unfolding store heading_of
  first_numbers h =
      let front : List ℕ = written (layout sheet) (idle (last sheet)) in
      let rows : List ℕ = pick (layout sheet).sparse (tab (levels (layout sheet) 0) (entry_row_in sheet (layout sheet))) [] in
      let rest : List ℕ = drop (0 + length (heading_of sheet (layout sheet))) h in
      let seam : store 0 (heading_of sheet (layout sheet)) h ≡ front ++ (rows ++ rest) = append_assoc front rows rest in
      seam ∙ ap (λ (x : List ℕ). front ++ x) (sym (ap (drop heading_length) seam ∙ drop_at front (rows ++ rest) heading_length (length_written (layout sheet) (idle (last sheet)))))

-- ---- the doubles that load writes

-- the loaded numbers come first, wherever they are written
first_doubles : (sheet : Sheet) (w : List Float) → take (loaded_length (layout sheet)) (store 0 (doubles_of sheet (layout sheet)) w) ≡ loaded_numbers sheet (layout sheet)
unfolding store doubles_of
first_doubles sheet w =
    let rest : List Float = drop (0 + length (doubles_of sheet (layout sheet))) w in
    ap (take (loaded_length (layout sheet))) (append_assoc (loaded_numbers sheet (layout sheet)) (zeros (layout sheet)) rest)
    ∙ take_at (loaded_numbers sheet (layout sheet)) (zeros (layout sheet) ++ rest) (loaded_length (layout sheet)) (length_loaded sheet (layout sheet))

-- what load writes stands by the opened book
stored : (sheet : Sheet) (h : List ℕ) (w : List Float) → Site sheet h w
    → Invariant sheet h w (opened sheet) (workspace (store 0 (heading_of sheet (layout sheet)) h) (store 0 (doubles_of sheet (layout sheet)) w))
stored sheet h w here =
    let fits : 0 + length (doubles_of sheet (layout sheet)) ≤ length w = omega (arith, here.doubles, length_doubles sheet (layout sheet)) in
    record {
      progress = idle (last sheet);
      heading = first_numbers sheet h;
      stages = length-replicate {A = ℕ} most_targets 0;
      valid_progress_lem = idle_valid (last sheet) (is_valid (layout sheet) here.layout_valid).blocks.1;
      many = length_store 0 (doubles_of sheet (layout sheet)) w fits;
      loaded = first_doubles sheet w;
      unwritten = drop_store 0 (doubles_of sheet (layout sheet)) w fits (doubles_needed (layout sheet)) (omega (arith, length_doubles sheet (layout sheet)));
      updating = refl;
    }

-- ---- what load accepted: its site
pub open_site : (bytes : List ℕ) (sheet : Sheet) (starts : Starts) (h : List ℕ) (w : List Float)
    → sheet_of bytes ≡ accepted sheet starts → (load_of bytes h w).answer ≡ (Ok tt) → Site sheet h w
open_site bytes sheet starts h w e a =
    let t = load_opened sheet h w bytes starts e a in
    let both = (and-eq-true_iff (leb (numbers_needed (layout sheet)) (length h)) (leb (doubles_needed (layout sheet)) (length w))).0 t.room in
    record {
      layout_valid = sheet_valid bytes sheet starts e t.fine t.gate;
      eight_levels = length_m sheet;
      eight_places = length_order sheet;
      numbers = leb-true (numbers_needed (layout sheet)) (length h) both.0;
      doubles = leb-true (doubles_needed (layout sheet)) (length w) both.1;
      rows = rows_below sheet;
    }

-- and its workspace, which stands by the opened book
pub open_invariant : (bytes : List ℕ) (sheet : Sheet) (starts : Starts) (h : List ℕ) (w : List Float)
    → sheet_of bytes ≡ accepted sheet starts → (load_of bytes h w).answer ≡ (Ok tt) → Invariant sheet h w (opened sheet) (load_of bytes h w).left
open_invariant bytes sheet starts h w e a =
    subst (Invariant sheet h w (opened sheet)) (sym (load_opened sheet h w bytes starts e a).left) (stored sheet h w (open_site bytes sheet starts h w e a))

-- a freshly loaded workspace with any loaded numbers, of no length beyond the formula
module _ (sheet : Sheet) (h : List ℕ) (w : List Float) (here : Site sheet h w) (loaded : List Float) (many : length loaded ≡ loaded_length (layout sheet)) where
  pub fresh_site : Site sheet (heading_of sheet (layout sheet)) (loaded ++ zeros (layout sheet))
  fresh_site =
      record {
        layout_valid = here.layout_valid;
        eight_levels = here.eight_levels;
        eight_places = here.eight_places;
        numbers = omega (arith, length_heading sheet (layout sheet));
        doubles = omega (arith, length-append loaded (zeros (layout sheet)), many, zeros_length (layout sheet));
        rows = here.rows;
      }

  pub fresh_invariant : Invariant sheet (heading_of sheet (layout sheet)) (loaded ++ zeros (layout sheet)) (book_of loaded) (fresh sheet loaded)
  fresh_invariant =
      record {
        progress = idle (last sheet);
        heading = sym (store_all (heading_of sheet (layout sheet)) (heading_of sheet (layout sheet)) refl) ∙ first_numbers sheet (heading_of sheet (layout sheet));
        stages = length-replicate {A = ℕ} most_targets 0;
        valid_progress_lem = idle_valid (last sheet) (is_valid (layout sheet) here.layout_valid).blocks.1;
        many = refl;
        loaded = take_at loaded (zeros (layout sheet)) (loaded_length (layout sheet)) many;
        unwritten = refl;
        updating = refl;
      }
