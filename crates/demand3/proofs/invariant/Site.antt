-- What a workspace that stands by the book has in its heading.
use Prim.Native.Nat.{ℕ, ◌+◌, ◌<◌, ◌≤◌}
use mathlib.Core.Path.{◌≡◌, refl, sym, ap, ◌∙◌}
use mathlib.Core.Bool.{true}
use mathlib.Core.List.{List, [], ◌++◌, append_assoc}
use native.Mathlib.Nat.{zero-add}
use native.Mathlib.Omega.{arith}
use lib.ListN.{length, get_or, drop, length-append, length-drop, replicate}
use lib.Seq.{get_or-drop, drop_at, length-take-le}
use lib.Ieee.{Float}
use Rattle.storage.specs.Runs.{tab}
use Rattle.storage.specs.Part.{store, part}
use Rattle.storage.proofs.Parts.{length_store, store_in}
use Rattle.sheet.specs.Sheet.{Sheet}
use Rattle.layout.specs.declared.Layout.{Layout}
use Rattle.heading_format.specs.declared.Progress.{Progress}
use Rattle.layout.specs.Blocks.{padded}
use Rattle.layout.specs.Shapes.{pick, levels, loaded_length, sum_at, doubles_needed}
use Rattle.heading_format.specs.Heading.{layout_numbers, progress_numbers, written, layout_of, progress_of, entry_row, valid_heading, idle, numbers_needed}
use Rattle.heading_format.proofs.Valid.{is_valid}
use Rattle.heading_format.proofs.Heading.{length_written, rows_back, layout_back, progress_back}
use Rattle.workspace.specs.Memory.{Workspace}
use Rattle.workspace.specs.Loaded.{entry_row_in}
use Rattle.workspace.specs.Load.{heading_of}
use Rattle.workspace.proofs.Lengths.{length_heading}
use Rattle.book.specs.Book.{Book, layout, last}
use Rattle.update.proofs.progress_laws.Moves.{valid_heading_written}
use Rattle.demand3.proofs.same_rules.Same.{Alike}
use Rattle.demand3.proofs.invariant.Invariant.{behind, Site, Invariant}
use Rattle.heading_format.specs.Parts.{heading_length, unused_numbers, unused_at}

-- behind the progress nothing depends on it: the unused numbers, and the rest
after_progress : (y : Layout) (g : Progress) (rest : List ℕ)
    → (part unused_at unused_numbers (written y g ++ rest) ≡ replicate unused_numbers 0) × (drop heading_length (written y g ++ rest) ≡ rest)
unfolding written layout_numbers progress_numbers padded
after_progress y g rest = (refl, refl)

-- the loaded numbers are among the doubles
pub loaded_within : (y : Layout) → loaded_length y ≤ doubles_needed y
unfolding sum_at
loaded_within y = omega arith

-- as many numbers as a sparse pair has columns
sparse_numbers : (y : Layout) → y.sparse ≡ true → numbers_needed y ≡ heading_length + levels y 0
sparse_numbers y e = rw e

-- a workspace has at least a heading's numbers
pub numbers_least : (y : Layout) → heading_length ≤ numbers_needed y
numbers_least y = omega arith

-- the heading that load leaves, its parts and the numbers behind them
pub stored_heading : (sheet : Sheet) (h : List ℕ) → store 0 (heading_of sheet (layout sheet)) h ≡ written (layout sheet) (idle (last sheet)) ++ behind sheet h
unfolding heading_of store
stored_heading sheet h =
    let y : Layout = layout sheet in
    let a : List ℕ = written y (idle y.k) in
    let r : List ℕ = pick y.sparse (tab (levels y 0) (entry_row_in sheet y)) [] in
    let z : List ℕ = drop (0 + length (a ++ r)) h in
    append_assoc a r z ∙ ap (λ (x : List ℕ). a ++ x) (sym (ap (drop heading_length) (append_assoc a r z) ∙ drop_at a (r ++ z) heading_length (length_written y (idle y.k))))

-- a fresh heading has the sheet's layout
pub heading_layout : (sheet : Sheet) → length (layout sheet).m ≡ 8 → length (layout sheet).order ≡ 8 → layout_of (heading_of sheet (layout sheet)) ≡ layout sheet
unfolding heading_of
heading_layout sheet a b = layout_back (layout sheet) (idle (last sheet)) (pick (layout sheet).sparse (tab (levels (layout sheet) 0) (entry_row_in sheet (layout sheet))) []) a b

module _ (sheet : Sheet) (h : List ℕ) (w : List Float) (here : Site sheet h w) where
  -- the heading that load writes fits
  fits : 0 + length (heading_of sheet (layout sheet)) ≤ length h
  fits = omega (arith, length_heading sheet (layout sheet), here.numbers)

  -- the heading's parts, and the numbers behind them
  pub behind_many : heading_length + length (behind sheet h) ≡ length h
  behind_many =
      omega (
        arith,
        length-drop heading_length (store 0 (heading_of sheet (layout sheet)) h),
        length_store 0 (heading_of sheet (layout sheet)) h fits,
        numbers_least (layout sheet),
        here.numbers,
      )

  -- the rows of a sparse pair's entries stand there
  pub behind_row : (layout sheet).sparse ≡ true → (c : ℕ) → c < levels (layout sheet) 0 → get_or (behind sheet h) c 0 ≡ entry_row (heading_of sheet (layout sheet)) c
  behind_row s c l =
      get_or-drop heading_length (store 0 (heading_of sheet (layout sheet)) h) c 0
      ∙ ap (λ (x : ℕ). get_or (store 0 (heading_of sheet (layout sheet)) h) x 0) (sym (zero-add (heading_length + c)))
      ∙ store_in 0 (heading_of sheet (layout sheet)) h fits 0 (heading_length + c) (omega (arith, length_heading sheet (layout sheet), sparse_numbers (layout sheet) s))

  module _ (b : Book) (v : Workspace) (s : Invariant sheet h w b v) where
    -- its layout and its progress are those that are written there
    pub layout_of_lem : layout_of v.heading ≡ layout sheet
    layout_of_lem = rw s.heading (layout_back (layout sheet) s.progress (behind sheet h) here.eight_levels here.eight_places)

    pub progress_of_lem : progress_of v.heading ≡ s.progress
    progress_of_lem = rw s.heading (progress_back (layout sheet) s.progress (behind sheet h) s.stages)

    -- 20 never comes
    pub valid_heading_of : valid_heading v.heading (length v.doubles) ≡ true
    valid_heading_of =
        rw s.heading
        (valid_heading_written (layout sheet) here.layout_valid here.eight_levels here.eight_places (behind sheet h) (omega (arith, here.numbers, behind_many))
        (λ e c l. rw (behind_row e c l) (here.rows e c l)) s.progress s.stages s.valid_progress_lem (length v.doubles) (omega (arith, s.many, here.doubles)))

    -- behind the progress it is as load left it, and no number longer
    pub unused_kept : part unused_at unused_numbers v.heading ≡ replicate unused_numbers 0
    unused_kept = ap (part unused_at unused_numbers) s.heading ∙ (after_progress (layout sheet) s.progress (behind sheet h)).0

    pub heading_behind : drop heading_length v.heading ≡ behind sheet h
    heading_behind = ap (drop heading_length) s.heading ∙ (after_progress (layout sheet) s.progress (behind sheet h)).1

    pub heading_many : length v.heading ≡ length h
    heading_many =
        ap length s.heading ∙ length-append (written (layout sheet) s.progress) (behind sheet h)
        ∙ omega (arith, length_written (layout sheet) s.progress, behind_many)

  -- the loaded numbers are as many as the layout says
  pub loaded_many : (b : Book) (v : Workspace) → Invariant sheet h w b v → length b.loaded ≡ loaded_length (layout sheet)
  loaded_many b v s =
      ap length (sym s.loaded) ∙ length-take-le (loaded_length (layout sheet)) v.doubles (omega (arith, s.many, here.doubles, loaded_within (layout sheet)))

  -- it has the sheet's layout and sparse rows, and the book's loaded numbers
  pub alike : (b : Book) (v : Workspace) (s : Invariant sheet h w b v) → Alike sheet b.loaded v
  alike b v s =
      record {
        same_layout = layout_of_lem b v s;
        same_rows = λ e c l. ap (λ (x : List ℕ). entry_row x c) s.heading ∙ rows_back (layout sheet) s.progress (behind sheet h) c ∙ behind_row e c l;
        same_loaded = s.loaded;
        many = loaded_many b v s;
        fresh_layout = heading_layout sheet here.eight_levels here.eight_places;
        two = λ e. ((is_valid (layout sheet) here.layout_valid).sparse e).1;
      }
