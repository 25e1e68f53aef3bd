-- What the code needs of a sheet that is ready: its counts, and the lines of each run.
use Prim.Native.Nat.{ℕ, ◌+◌, ◌*◌, ◌/◌, ◌≤◌}
use mathlib.Core.Path.{◌≡◌, sym, ap, ap₂, subst, ◌∙◌}
use mathlib.Core.Bool.{true}
use mathlib.Core.List.{List, [], ◌∷◌}
use native.Mathlib.Nat.{mul-le-mul}
use native.Mathlib.Omega.{arith}
use lib.ListN.{length}
use lib.Ieee.{Float}
use Rattle.storage.specs.Runs.{tab}
use Rattle.storage.specs.Part.{store}
use Rattle.rules.specs.Arithmetic.{ieee}
use Rattle.sheet.specs.declared.Starts.{Starts}
use Rattle.sheet.specs.Field.{nowhere}
use Rattle.sheet.specs.Run.{Kind, entry_in, word_in, kind_line}
use Rattle.sheet.specs.Sheet.{Sheet, accepted, read_sheet}
use Rattle.sheet.specs.Whole.{Each, EntryInRange, Finite, RunPlaced, Whole}
use Rattle.sheet.proofs.Whole.{read_whole, zx_length, zy_length, xx_length, xy_length}
use Rattle.layout.specs.declared.Layout.{Layout}
use Rattle.layout.specs.Shapes.{doubles_needed}
use Rattle.heading_format.specs.Heading.{valid_layout}
use Rattle.workspace.specs.Load.{doubles_of}
use Rattle.load_numbers.specs.declared.word_address.Run.TheVariants.{Zz, Zx, Zy, Xx, Xy, Yy}
use Rattle.load_numbers.specs.word_address.Spread.{line_of, EachLine, FiniteWord}
use Rattle.load_numbers.specs.sheet_words.Ready.{Ready}
use Rattle.load_numbers.specs.sheet_words.Runs.{run_of, first_runs, last_runs}
use Rattle.load_numbers.proofs.sheet_words.Positions.{each_kept}
use Rattle.load_numbers.proofs.sheet_words.Facts.{Known, known, few_entries}
use Rattle.load_numbers.proofs.sheet_words.Numbers.{doubles_made}

-- finite words, line by line
words_finite : {s : List ℕ} {kind : Kind} {to : ℕ} (words : List ℕ) (at : ℕ) → RunPlaced s kind at to words → EachLine FiniteWord (kind_line kind s) (length words) at
words_finite {s} {kind} words at p = each_kept Finite FiniteWord word_in (λ i l a. a) (kind_line kind s) (length words) 0 at (subst (Each Finite) p.kept p.finite)

module _ (s : List ℕ) (z : Starts) (y : Layout) (r : Ready s z y) where
  abbrev sheet : Sheet
  sheet = r.0

  pub whole : Whole s sheet z
  whole = read_whole s sheet z r.1

  pub knows : Known sheet y
  knows = known s sheet z y r.1 r.2 r.3 r.4

  pub ready_valid : valid_layout y ≡ true
  ready_valid = knows.ok

  -- one sheet alone is read
  pub one_sheet : (other : Sheet) → read_sheet s ≡ accepted other z → sheet ≡ other
  one_sheet other e = let q : accepted sheet z ≡ accepted other z = sym r.1 ∙ e in cc

  -- ---- counts

  pub few_q : y.q ≤ 524280
  few_q = omega (arith, whole.shape.counts.q, knows.q_is)

  pub few_p : y.p ≤ 32
  few_p = omega (arith, whole.shape.counts.p.1, knows.p_is)

  pub few_k : y.k ≤ 8
  few_k = omega (arith, whole.shape.counts.k, knows.k_is)

  pub zx_count : y.q * y.p ≡ length sheet.zx
  zx_count = sym (zx_length whole ∙ ap₂ (λ (a b : ℕ). a * b) knows.q_is knows.p_is)

  pub zy_count : y.q ≡ length sheet.zy
  zy_count = sym (zy_length whole ∙ knows.q_is)

  pub xx_count : y.p * (y.p + 1) / 2 ≡ length sheet.xx
  xx_count = sym (xx_length whole ∙ ap (λ (p : ℕ). p * (p + 1) / 2) knows.p_is)

  pub xy_count : y.p ≡ length sheet.xy
  xy_count = sym (xy_length whole ∙ knows.p_is)

  pub zz_few : length sheet.zz ≤ 274869518400
  zz_few =
      omega (arith, few_entries sheet.counts.q sheet.zz whole.shape.zz whole.shape.zz_rising, mul-le-mul whole.shape.counts.q whole.shape.counts.q)

  -- ---- lines

  pub zz_lines : EachLine FiniteWord (line_of Zz s) (length sheet.zz) z.zz
  zz_lines =
      each_kept (EntryInRange sheet.counts.q) FiniteWord entry_in (λ i l a. a.finite) (line_of Zz s) (length sheet.zz) (sheet.counts.k + 2) z.zz
      (subst (Each (EntryInRange sheet.counts.q)) whole.placed.zz whole.shape.zz)

  pub zx_lines : EachLine FiniteWord (line_of Zx s) (length sheet.zx) z.zx
  zx_lines = words_finite sheet.zx z.zx whole.placed.words.0

  pub zy_lines : EachLine FiniteWord (line_of Zy s) (length sheet.zy) z.zy
  zy_lines = words_finite sheet.zy z.zy whole.placed.words.1.0

  pub xx_lines : EachLine FiniteWord (line_of Xx s) (length sheet.xx) z.xx
  xx_lines = words_finite sheet.xx z.xx whole.placed.words.1.1.0

  pub xy_lines : EachLine FiniteWord (line_of Xy s) (length sheet.xy) z.xy
  xy_lines = words_finite sheet.xy z.xy whole.placed.words.1.1.1.0

  pub yy_lines : EachLine FiniteWord (line_of Yy s) 1 z.yy
  yy_lines = words_finite (sheet.yy ∷ []) z.yy whole.placed.words.1.1.1.1.0

  -- ---- all of it

  pub first_made : (w₀ w₁ w₂ w₃ : List Float) (n : ℕ) → n ≡ length sheet.zz → w₁ ≡ run_of Zz s y n 0 z.zz w₀ → w₂ ≡ run_of Zx s y (y.q * y.p) 0 z.zx w₁
      → w₃ ≡ run_of Zy s y y.q 0 z.zy w₂ → (x : Sheet) → read_sheet s ≡ accepted x z → w₃ ≡ first_runs s x z y w₀
  unfolding first_runs
  first_made w₀ w₁ w₂ w₃ n e a b c x f =
      subst (λ (x : Sheet). w₃ ≡ first_runs s x z y w₀) (one_sheet x f)
      (c ∙ ap₂ (λ (m : ℕ) (w : List Float). run_of Zy s y m 0 z.zy w) zy_count
      (b ∙ ap₂ (λ (m : ℕ) (w : List Float). run_of Zx s y m 0 z.zx w) zx_count (a ∙ ap (λ (m : ℕ). run_of Zz s y m 0 z.zz w₀) e)))

  pub last_made : (w₀ w₁ w₂ w₃ : List Float) → w₁ ≡ run_of Xx s y (y.p * (y.p + 1) / 2) 0 z.xx w₀ → w₂ ≡ run_of Xy s y y.p (y.p * (y.p + 1) / 2) z.xy w₁
      → w₃ ≡ run_of Yy s y 1 (y.p * (y.p + 1) / 2 + y.p) z.yy w₂ → (x : Sheet) → read_sheet s ≡ accepted x z → w₃ ≡ last_runs s x z y w₀
  unfolding last_runs
  last_made w₀ w₁ w₂ w₃ a b c x f =
      subst (λ (x : Sheet). w₃ ≡ last_runs s x z y w₀) (one_sheet x f)
      (c ∙ ap₂ (λ (m : ℕ) (w : List Float). run_of Yy s y 1 m z.yy w) (ap₂ (λ (u v : ℕ). u + v) xx_count xy_count)
      (b ∙ ap (λ (w : List Float). run_of Xy s y y.p (y.p * (y.p + 1) / 2) z.xy w) (a ∙ ap (λ (m : ℕ). run_of Xx s y m 0 z.xx w₀) xx_count)
      ∙ ap₂ (λ (m i : ℕ). run_of Xy s y m i z.xy (run_of Xx s y (length sheet.xx) 0 z.xx w₀)) xy_count xx_count))

  pub loaded : (w₀ w₁ w₂ w₃ : List Float) → doubles_needed y ≤ length w₀ → length w₀ ≤ nowhere → w₁ ≡ store 0 (tab (doubles_needed y) (λ i. ieee.zero)) w₀
      → ((x : Sheet) → read_sheet s ≡ accepted x z → w₂ ≡ first_runs s x z y w₁) → ((x : Sheet) → read_sheet s ≡ accepted x z → w₃ ≡ last_runs s x z y w₂)
      → (x : Sheet) → read_sheet s ≡ accepted x z → w₃ ≡ store 0 (doubles_of x y) w₀
  unfolding first_runs last_runs
  loaded w₀ w₁ w₂ w₃ fits low clear first last x e =
      subst (λ (x : Sheet). w₃ ≡ store 0 (doubles_of x y) w₀) (one_sheet x e)
      (last sheet r.1 ∙ ap (last_runs s sheet z y) (first sheet r.1 ∙ ap (first_runs s sheet z y) clear) ∙ doubles_made s sheet z y knows whole w₀ fits low)
