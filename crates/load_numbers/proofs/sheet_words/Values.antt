-- The words of a sheet, put into their places run by run: every loaded cell has its word, and nothing else is written.
use Prim.Native.Nat.{ℕ, ◌+◌, ◌-◌, ◌*◌, ◌/◌, ◌%◌, ◌≤◌, ◌<◌}
use mathlib.Core.Path.{◌≡◌, refl, sym, ap, ap₂, subst, ◌∙◌}
use mathlib.Core.Bool.{Bool, true, false, cond, and-eq-true_iff}
use mathlib.Core.List.{List, [], ◌∷◌}
use mathlib.Core.Logic.{⊎_elim}
use native.Mathlib.Nat.{mod-lt, div-add-mod', div-eq_of_lt, add-mul-div_right, mul-le-mul_right}
use native.Mathlib.Numerals.{add-one}
use native.Mathlib.Omega.{arith}
use lib.Dec.{eqb}
use lib.ListN.{length, get_or}
use lib.Ieee.{Float}
use borrow.Author.Tests.{eq-eqb}
use Rattle.storage.specs.Runs.{start, triangle}
use Rattle.storage.specs.Shape.{size_of}
use Rattle.storage.proofs.Starts.{start_triangle}
use Rattle.sheet.specs.declared.Line.{Line}
use Rattle.sheet.specs.declared.Starts.{Starts}
use Rattle.sheet.specs.Field.{nowhere}
use Rattle.sheet.specs.Run.{Entry, word_in, kept_from}
use Rattle.sheet.specs.Sheet.{Sheet}
use Rattle.sheet.specs.Whole.{Each, Whole}
use Rattle.sheet.proofs.Whole.{zx_length, zy_length, xx_length, xy_length}
use Rattle.layout.specs.declared.Layout.{Layout}
use Rattle.layout.specs.Shapes.{levels, loaded_sizes, loaded_at, loaded_length, last_rows}
use Rattle.heading_format.proofs.Valid.{is_valid}
use Rattle.layout.proofs.Places.{size_loaded, loaded_inside}
use Rattle.workspace.specs.Loaded.{sheet_row, word_of, entry_row_in, double}
use Rattle.load_numbers.proofs.word_address.Places.{loaded_low}
use Rattle.block_places.proofs.sheet_rows.Rows.{rows_end}
use Rattle.load_numbers.specs.declared.word_address.Run.{Run}
use Rattle.load_numbers.specs.declared.word_address.Run.TheVariants.{Zz, Zx, Zy, Xx, Xy, Yy}
use Rattle.load_numbers.specs.word_address.Spread.{line_of, spread, entry_place, fixed_place, place_of, put_word}
use Rattle.load_numbers.proofs.sheet_words.Lands.{address, Cell, In, cell_is_in, cell_one, shape_last, fixed_cell_lem, fixed_meets, fixed_lands, Sole, entry_meets, entry_lands}
use Rattle.load_numbers.proofs.sheet_words.Positions.{each_map, spread_length, missed, all_missed, word_put, Only, at_cell, at_cell_lem, chosen, rising_only, entries_missed, entry_put}
use Rattle.load_numbers.proofs.sheet_words.Facts.{Known, soles}

chosen_word : (col row : ℕ) (l : List Entry) → chosen (at_cell col row) (λ e. double e.word) (double 0) l ≡ double (word_of l col row)
unfolding word_of
chosen_word col row [] = refl
chosen_word col row (e ∷ l) = step (at_cell col row e) (chosen_word col row l)
  where
    step : (b : Bool) → chosen (at_cell col row) (λ e. double e.word) (double 0) l ≡ double (word_of l col row)
        → cond b (double e.word) (chosen (at_cell col row) (λ e. double e.word) (double 0) l) ≡ double (cond b e.word (word_of l col row))
    step true h = refl
    step false h = h

-- n is divided with rest
split_at : (x p r t : ℕ) → 0 < p → r < p → t ≡ x * p + r → (t / p ≡ x) × (t % p ≡ r)
split_at x p r t h g e =
    let q : t / p ≡ x = let f : t ≡ r + x * p = omega arith in ap (λ (n : ℕ). n / p) f ∙ add-mul-div_right r x h ∙ ap (λ (n : ℕ). n + x) (div-eq_of_lt g) ∙ omega arith in
    (q, let f : t / p * p ≡ x * p = ap (λ (n : ℕ). n * p) q in omega (arith, div-add-mod' t p))

join_at : (p t x r : ℕ) → t / p ≡ x → t % p ≡ r → t ≡ x * p + r
join_at p t x r e f = sym (div-add-mod' t p) ∙ ap₂ (λ (a b : ℕ). a * p + b) e f

module _ (s : List ℕ) (sheet : Sheet) (z : Starts) (y : Layout) (k : Known sheet y) (h : Whole s sheet z) where
  abbrev row : ℕ → ℕ
  row = entry_row_in sheet y

  -- what each run of lines makes of w
  abbrev pub zzed : List Float → List Float
  zzed w = spread (put_word Zz y) (line_of Zz s) (length sheet.zz) 0 z.zz w

  abbrev pub zxed : List Float → List Float
  zxed w = spread (put_word Zx y) (line_of Zx s) (length sheet.zx) 0 z.zx w

  abbrev pub zyed : List Float → List Float
  zyed w = spread (put_word Zy y) (line_of Zy s) (length sheet.zy) 0 z.zy w

  abbrev pub xxed : List Float → List Float
  xxed w = spread (put_word Xx y) (line_of Xx s) (length sheet.xx) 0 z.xx w

  abbrev pub xyed : List Float → List Float
  xyed w = spread (put_word Xy y) (line_of Xy s) (length sheet.xy) (length sheet.xx) z.xy w

  abbrev pub yyed : List Float → List Float
  yyed w = spread (put_word Yy y) (line_of Yy s) 1 (length sheet.xx + length sheet.xy) z.yy w

  abbrev d : Float
  d = double 0

  pub run_length_lem : (run : Run) (n i at : ℕ) (w : List Float) → length (spread (put_word run y) (line_of run s) n i at w) ≡ length w
  run_length_lem run n i at w = spread_length (place_of run y) (λ l. double l.word) (line_of run s) n i at w

  -- ---- a position that a run does not reach

  pub run_missed : (run : Run) (n i at : ℕ) (w : List Float) (P : ℕ) → ((t : ℕ) (l : Line) → i ≤ t → t < i + n → place_of run y t l ≡ P → ⊥)
      → get_or (spread (put_word run y) (line_of run s) n i at w) P d ≡ get_or w P d
  run_missed run n i at w P a =
      missed (place_of run y) (λ l. double l.word) (line_of run s) P d n i at w (all_missed (place_of run y) (λ l. double l.word) (line_of run s) P d n i at a)

  pub zz_missed : (w : List Float) (P : ℕ) → P < nowhere → ((i j : ℕ) → i < y.k → In y row i j P → ⊥) → get_or (zzed w) P d ≡ get_or w P d
  zz_missed w P b away =
      missed (place_of Zz y) (λ l. double l.word) (line_of Zz s) P d (length sheet.zz) 0 z.zz w
      (entries_missed (entry_place y) (λ c r v. double v) (line_of Zz s) P d (length sheet.zz) 0 (sheet.counts.k + 2) z.zz
      (subst (Each (λ e. entry_place y e.col e.row ≡ P → ⊥)) h.placed.zz
      (each_map (λ e. Sole y row e.col e.row) (λ e. entry_place y e.col e.row ≡ P → ⊥)
      (λ e sole q.
      ⊎_elim (λ none. omega arith)
      (λ en. away en.i en.j en.small (subst (In y row en.i en.j) (sym en.there ∙ q) (cell_is_in y row en.i en.j en.r en.c en.cell)))
      (entry_lands y row k.ok k.inner e.col e.row sole))
      sheet.zz (soles sheet y k))))

  fixed_away : (P : ℕ) → P < nowhere → ((j : ℕ) → j < y.k → In y row y.k j P → ⊥) → (x r : ℕ) → r ≤ y.p → fixed_place y x r ≡ P → ⊥
  fixed_away P b away x r g q =
      ⊎_elim (λ none. omega arith)
      (λ f. away f.block f.small (subst (In y row y.k f.block) (sym f.there ∙ q) (cell_is_in y row y.k f.block r f.level f.cell)))
      (fixed_lands y row k.ok x r g)

  some_effect : 0 < y.p
  some_effect = (is_valid y k.ok).effects.0

  pub zx_missed : (w : List Float) (P : ℕ) → P < nowhere → ((j : ℕ) → j < y.k → In y row y.k j P → ⊥) → get_or (zxed w) P d ≡ get_or w P d
  zx_missed w P b away = run_missed Zx (length sheet.zx) 0 z.zx w P (λ t l g f q. fixed_away P b away (t / y.p) (t % y.p) (omega (arith, mod-lt t some_effect)) q)

  pub zy_missed : (w : List Float) (P : ℕ) → P < nowhere → ((j : ℕ) → j < y.k → In y row y.k j P → ⊥) → get_or (zyed w) P d ≡ get_or w P d
  zy_missed w P b away = run_missed Zy (length sheet.zy) 0 z.zy w P (λ t l g f q. fixed_away P b away t y.p (omega arith) q)

  -- the last triangle has a place for each word of xx and xy, and for yy
  pub xx_long : length sheet.xx ≡ start triangle y.p
  xx_long =
      let e : sheet.counts.p * (sheet.counts.p + 1) / 2 ≡ y.p * (y.p + 1) / 2 = ap (λ (p : ℕ). p * (p + 1) / 2) k.p_is in
      omega (arith, xx_length h, e, start_triangle y.p)

  pub xy_long : length sheet.xy ≡ y.p
  xy_long = xy_length h ∙ k.p_is

  last_long : loaded_sizes y y.k y.k ≡ length sheet.xx + length sheet.xy + 1
  unfolding start
  last_long =
      let e : start triangle (last_rows y) ≡ start triangle y.p + last_rows y = rw add-one (omega arith) in
      sym (size_loaded y row y.k y.k) ∙ ap size_of (shape_last y row) ∙ omega (arith, e, xx_long, xy_long)

  last_away : (P : ℕ) → (In y row y.k y.k P → ⊥) → (t : ℕ) → t < length sheet.xx + length sheet.xy + 1 → loaded_at y y.k y.k + t ≡ P → ⊥
  last_away P away t g q = away (record { below = omega arith; few = omega arith; starts = omega arith; ends = omega (arith, last_long) })

  -- what is left of the last triangle's runs
  pub xyy_missed : (w : List Float) (P : ℕ) → (In y row y.k y.k P → ⊥) → get_or (yyed (xyed (xxed w))) P d ≡ get_or w P d
  xyy_missed w P away =
      run_missed Yy 1 (length sheet.xx + length sheet.xy) z.yy (xyed (xxed w)) P (λ t l g f q. last_away P away t (omega arith) q)
      ∙ run_missed Xy (length sheet.xy) (length sheet.xx) z.xy (xxed w) P (λ t l g f q. last_away P away t (omega arith) q)
      ∙ run_missed Xx (length sheet.xx) 0 z.xx w P (λ t l g f q. last_away P away t (omega arith) q)

  -- ---- a position that a run reaches

  pub low : (i j P : ℕ) → In y row i j P → P < nowhere
  low i j P b = omega (arith, b.ends, loaded_inside y i j b.below b.few, doubles_low)
    where
      doubles_low : loaded_length y < 2199023255552
      doubles_low = loaded_low y k.ok

  -- Z'Z
  pub zz_value : (w : List Float) (i j r c : ℕ) → i < y.k → Cell y row i j r c → address y row i j r c < length w → get_or w (address y row i j r c) d ≡ d
      → get_or (zzed w) (address y row i j r c) d ≡ double (word_of sheet.zz (sheet_row y j c) (sheet_row y i r))
  zz_value w i j r c g a fits clean =
      let P : ℕ = address y row i j r c in
      let b : P < nowhere = low i j P (cell_is_in y row i j r c a) in
      entry_put (entry_place y) (λ c r v. double v) (line_of Zz s) P d (at_cell (sheet_row y j c) (sheet_row y i r)) d (length sheet.zz) 0 (sheet.counts.k + 2) z.zz w
      (subst (Only (at_cell (sheet_row y j c) (sheet_row y i r))) h.placed.zz (rising_only (sheet_row y j c) (sheet_row y i r) sheet.zz h.shape.zz_rising))
      (subst (Each (λ e. (entry_place y e.col e.row ≡ P → at_cell (sheet_row y j c) (sheet_row y i r) e ≡ true) × (at_cell (sheet_row y j c) (sheet_row y i r) e ≡ true → entry_place y e.col e.row ≡ P)))
      h.placed.zz
      (each_map (λ e. Sole y row e.col e.row)
      (λ e. (entry_place y e.col e.row ≡ P → at_cell (sheet_row y j c) (sheet_row y i r) e ≡ true) × (at_cell (sheet_row y j c) (sheet_row y i r) e ≡ true → entry_place y e.col e.row ≡ P))
      (λ e sole. (
        λ q. ⊎_elim (λ none. absurd (omega arith))
            (λ en. let t = cell_one y row en.i en.j en.r en.c i j r c en.cell a (sym en.there ∙ q) in
            (and-eq-true_iff (eqb e.col (sheet_row y j c)) (eqb e.row (sheet_row y i r))).1 (
              eq-eqb e.col (sheet_row y j c) (en.column ∙ ap₂ (λ (u v : ℕ). sheet_row y u v) t.1 t.3),
              eq-eqb e.row (sheet_row y i r) (en.line ∙ ap₂ (λ (u v : ℕ). sheet_row y u v) t.0 t.2),
            ))
            (entry_lands y row k.ok k.inner e.col e.row sole),
        λ q. let t = at_cell_lem (sheet_row y j c) (sheet_row y i r) e q in
            ap₂ (entry_place y) t.0 t.1 ∙ entry_meets y row k.ok k.inner i j r c g a,
      ))
      sheet.zz (soles sheet y k)))
      fits clean
      ∙ ap (chosen (at_cell (sheet_row y j c) (sheet_row y i r)) (λ e. double e.word) d) (sym h.placed.zz)
      ∙ chosen_word (sheet_row y j c) (sheet_row y i r) sheet.zz

  -- a level's row is one of the sheet
  row_below : (j c : ℕ) → j < y.k → c < levels y j → sheet_row y j c < sheet.counts.q
  row_below j c g f = omega (arith, rows_end y k.ok j g, k.rows)

  -- the words of the fixed rows: only one line has a row and column
  fixed_one : (j r c x r' : ℕ) → j < y.k → c < levels y j → r ≤ y.p → r' ≤ y.p → fixed_place y x r' ≡ address y row y.k j r c → (x ≡ sheet_row y j c) × (r' ≡ r)
  fixed_one j r c x r' g f a b q =
      let cell : Cell y row y.k j r c = fixed_cell_lem y row k.ok j r c g f a in
      let lowP = low y.k j (address y row y.k j r c) (cell_is_in y row y.k j r c cell) in
      ⊎_elim (λ none. absurd (omega arith))
      (λ u. let t = cell_one y row y.k u.block r' u.level y.k j r c u.cell cell (sym u.there ∙ q) in
      (u.own ∙ ap₂ (λ (m n : ℕ). sheet_row y m n) t.1 t.3, t.2))
      (fixed_lands y row k.ok x r' b)

  pub zx_value : (w : List Float) (j r c : ℕ) → j < y.k → c < levels y j → r < y.p → address y row y.k j r c < length w
      → get_or (zxed w) (address y row y.k j r c) d ≡ double (get_or sheet.zx (sheet_row y j c * y.p + r) 0)
  zx_value w j r c g f a fits =
      let x : ℕ = sheet_row y j c in
      let m : ℕ = x * y.p + r in
      let t = split_at x y.p r m some_effect a refl in
      let long : length sheet.zx ≡ sheet.counts.q * y.p = zx_length h ∙ ap (λ (p : ℕ). sheet.counts.q * p) k.p_is in
      let below : x + 1 ≤ sheet.counts.q = omega (arith, row_below j c g f) in
      let fits' : m < 0 + length sheet.zx = omega (arith, long, mul-le-mul_right y.p below) in
      word_put (place_of Zx y) double (line_of Zx s) (address y row y.k j r c) d (length sheet.zx) 0 z.zx 0 m w (omega arith) fits'
      (λ l. ap₂ (fixed_place y) t.0 t.1 ∙ fixed_meets y row k.ok j r c g f)
      (λ u l b e other q.
      let o = fixed_one j r c (u / y.p) (u % y.p) g f (omega arith) (omega (arith, mod-lt u some_effect)) q in
      other (join_at y.p u x r o.0 o.1))
      fits
      ∙ ap (λ (n : ℕ). double (get_or (kept_from (line_of Zx s) word_in (length sheet.zx) 0 z.zx) n 0)) (let e : m - 0 ≡ m = omega arith in e)
      ∙ ap (λ (l : List ℕ). double (get_or l m 0)) (sym h.placed.words.0.kept)

  pub zy_value : (w : List Float) (j c : ℕ) → j < y.k → c < levels y j → address y row y.k j y.p c < length w
      → get_or (zyed w) (address y row y.k j y.p c) d ≡ double (get_or sheet.zy (sheet_row y j c) 0)
  zy_value w j c g f fits =
      let x : ℕ = sheet_row y j c in
      word_put (place_of Zy y) double (line_of Zy s) (address y row y.k j y.p c) d (length sheet.zy) 0 z.zy 0 x w (omega arith)
      (omega (arith, row_below j c g f, zy_length h))
      (λ l. fixed_meets y row k.ok j y.p c g f)
      (λ u l b e other q. other (fixed_one j y.p c u y.p g f (omega arith) (omega arith) q).0)
      fits
      ∙ ap (λ (n : ℕ). double (get_or (kept_from (line_of Zy s) word_in (length sheet.zy) 0 z.zy) n 0)) (let e : x - 0 ≡ x = omega arith in e)
      ∙ ap (λ (l : List ℕ). double (get_or l x 0)) (sym h.placed.words.1.0.kept)

  -- the two runs of the fixed rows do not meet
  pub zy_other : (w : List Float) (j r c : ℕ) → j < y.k → c < levels y j → r < y.p → get_or (zyed w) (address y row y.k j r c) d ≡ get_or w (address y row y.k j r c) d
  zy_other w j r c g f a =
      run_missed Zy (length sheet.zy) 0 z.zy w (address y row y.k j r c)
      (λ t l b e q. let o : y.p ≡ r = (fixed_one j r c t y.p g f (omega arith) (omega arith) q).1 in omega arith)

  -- ---- the last triangle

  pub xx_value : (w : List Float) (o : ℕ) → o < length sheet.xx → loaded_at y y.k y.k + o < length w
      → get_or (xxed w) (loaded_at y y.k y.k + o) d ≡ double (get_or sheet.xx o 0)
  xx_value w o g fits =
      word_put (place_of Xx y) double (line_of Xx s) (loaded_at y y.k y.k + o) d (length sheet.xx) 0 z.xx 0 o w (omega arith) (omega arith) (λ l. refl)
      (λ u l b e other q. other (omega arith)) fits
      ∙ ap (λ (n : ℕ). double (get_or (kept_from (line_of Xx s) word_in (length sheet.xx) 0 z.xx) n 0)) (let e : o - 0 ≡ o = omega arith in e)
      ∙ ap (λ (l : List ℕ). double (get_or l o 0)) (sym h.placed.words.1.1.0.kept)

  pub xy_value : (w : List Float) (o : ℕ) → o < length sheet.xy → loaded_at y y.k y.k + (length sheet.xx + o) < length w
      → get_or (xyed w) (loaded_at y y.k y.k + (length sheet.xx + o)) d ≡ double (get_or sheet.xy o 0)
  xy_value w o g fits =
      word_put (place_of Xy y) double (line_of Xy s) (loaded_at y y.k y.k + (length sheet.xx + o)) d (length sheet.xy) (length sheet.xx) z.xy 0 (length sheet.xx + o) w (omega arith) (omega arith) (λ l. refl)
      (λ u l b e other q. other (omega arith)) fits
      ∙ ap (λ (n : ℕ). double (get_or (kept_from (line_of Xy s) word_in (length sheet.xy) 0 z.xy) n 0)) (let e : length sheet.xx + o - length sheet.xx ≡ o = omega arith in e)
      ∙ ap (λ (l : List ℕ). double (get_or l o 0)) (sym h.placed.words.1.1.1.0.kept)

  pub yy_value : (w : List Float) → loaded_at y y.k y.k + (length sheet.xx + length sheet.xy) < length w
      → get_or (yyed w) (loaded_at y y.k y.k + (length sheet.xx + length sheet.xy)) d ≡ double sheet.yy
  yy_value w fits =
      let n : ℕ = length sheet.xx + length sheet.xy in
      word_put (place_of Yy y) double (line_of Yy s) (loaded_at y y.k y.k + n) d 1 n z.yy 0 n w (omega arith) (omega arith) (λ l. refl)
      (λ u l b e other q. other (omega arith)) fits
      ∙ ap (λ (m : ℕ). double (get_or (kept_from (line_of Yy s) word_in 1 0 z.yy) m 0)) (let e : n - n ≡ 0 = omega arith in e)
      ∙ ap (λ (l : List ℕ). double (get_or l 0 0)) (sym h.placed.words.1.1.1.1.0.kept)
