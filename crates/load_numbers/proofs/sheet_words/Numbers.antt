-- THE CLAIM: all runs of a sheet, put over doubles that are +0, make what load defines, and nothing past the formula is written.
use Prim.Native.Nat.{ℕ, zero, suc, ◌+◌, ◌-◌, ◌≤◌, ◌<◌}
use mathlib.Core.Path.{◌≡◌, refl, sym, ap, ap₂, subst, ◌∙◌}
use mathlib.Core.List.{List, [], ◌∷◌, ◌++◌}
use mathlib.Core.Logic.{by_cases}
use native.Mathlib.Decide.{dec_lt}
use native.Mathlib.Omega.{arith}
use lib.ListN.{length, get_or, take, drop, get_or-replicate, get_or-append}
use lib.Seq.{take-add, drop-drop, get_or-take, get_or-append-add, ext_get_or}
use lib.Ieee.{Float}
use Rattle.storage.specs.Runs.{tab}
use Rattle.storage.specs.Part.{part, store}
use Rattle.storage.specs.Shape.{Shape, fill, size_of}
use Rattle.storage.proofs.Cells.{length_tab, get_or_tab}
use Rattle.storage.proofs.Blocks.{is_fill, cell_part}
use Rattle.storage.proofs.Parts.{length_part, length_store, store_in, store_behind}
use Rattle.rules.specs.Arithmetic.{ieee}
use Rattle.sheet.specs.declared.Starts.{Starts}
use Rattle.sheet.specs.Field.{nowhere}
use Rattle.sheet.specs.Sheet.{Sheet}
use Rattle.sheet.specs.Whole.{Whole}
use Rattle.layout.specs.declared.Layout.{Layout}
use Rattle.layout.specs.Shapes.{Target, target, factors, across, pairs, targets, cells_of, loaded_shape, loaded_sizes, loaded_at, loaded_length, sum_at, doubles_needed, triangle_end}
use Rattle.layout.proofs.Formula.{cells_append}
use Rattle.layout.proofs.Places.{size_loaded, loaded_inside}
use Rattle.workspace.specs.Memory.{zeros}
use Rattle.workspace.specs.Loaded.{entry_row_in, double, loaded_word, loaded_from, loaded_numbers}
use Rattle.workspace.specs.Load.{doubles_of}
use Rattle.workspace.proofs.Lengths.{length_loaded, length_doubles}
use Rattle.block_places.proofs.block_sizes.Before.{before_factor, before_row}
use Rattle.load_numbers.proofs.sheet_words.Facts.{Known}
use Rattle.load_numbers.proofs.sheet_words.Cells.{fixed_of, last_of, all_length, behind, cell_value}

part_add : {A : Type 0} (off a b : ℕ) (w : List A) → part off (a + b) w ≡ part off a w ++ part (off + a) b w
part_add off a b w = take-add a b (drop off w) ∙ ap (λ (x : _). take a (drop off w) ++ take b x) (drop-drop a off w)

-- ---- blocks one behind the other are the loaded numbers

module _ (sheet : Sheet) (y : Layout) (W : List Float) where
  abbrev block_of : ℕ → ℕ → List Float
  block_of i j = fill (loaded_shape y (entry_row_in sheet y) i j) (λ r c. double (loaded_word sheet y i j r c))

  -- the blocks of a list stand in W from `off` on
  abbrev Tiled : ℕ → List Target → Type 0
  Tiled off [] = Unit {0}
  Tiled off (t ∷ l) = (part off (loaded_sizes y t.row t.col) W ≡ block_of t.row t.col) × Tiled (off + loaded_sizes y t.row t.col) l

  tiled_list : (off : ℕ) (l : List Target) → Tiled off l → part off (cells_of (loaded_sizes y) l) W ≡ loaded_from sheet y l
  unfolding cells_of loaded_from
  tiled_list off [] a = refl
  tiled_list off (t ∷ l) a =
      part_add off (loaded_sizes y t.row t.col) (cells_of (loaded_sizes y) l) W
      ∙ ap₂ (λ (x u : List Float). x ++ u) a.0 (tiled_list (off + loaded_sizes y t.row t.col) l a.1)

  tiled_append : (off : ℕ) (a b : List Target) → Tiled off a → Tiled (off + cells_of (loaded_sizes y) a) b → Tiled off (a ++ b)
  unfolding cells_of
  tiled_append off [] b u v = subst (λ (x : ℕ). Tiled x b) (let e : off + 0 ≡ off = omega arith in e) v
  tiled_append off (t ∷ a) b u v =
      let n : ℕ = loaded_sizes y t.row t.col in
      let m : ℕ = cells_of (loaded_sizes y) a in
      (u.0, tiled_append (off + n) a b u.1 (subst (λ (x : ℕ). Tiled x b) (let e : off + (n + m) ≡ off + n + m = omega arith in e) v))

  module _ (tile : (i j : ℕ) → j ≤ i → i ≤ y.k → part (loaded_at y i j) (loaded_sizes y i j) W ≡ block_of i j) where
    tile_at : (off i j : ℕ) → j ≤ i → i ≤ y.k → loaded_at y i j ≡ off → Tiled off (target i j ∷ [])
    tile_at off i j h g e = (subst (λ (x : ℕ). part x (loaded_sizes y i j) W ≡ block_of i j) e (tile i j h g), tt)

    tiled_factors : (n : ℕ) → n ≤ y.k → Tiled 0 (factors n)
    unfolding factors loaded_at
    tiled_factors zero h = tt
    tiled_factors (suc n) h =
        tiled_append 0 (factors n) (target n n ∷ []) (tiled_factors n (omega arith))
        (tile_at (0 + cells_of (loaded_sizes y) (factors n)) n n (omega arith) (omega arith) (before_factor (loaded_sizes y) y.k n (omega arith) ∙ omega arith))

    tiled_across : (i n : ℕ) → n ≤ i → i ≤ y.k → Tiled (cells_of (loaded_sizes y) (factors y.k) + cells_of (loaded_sizes y) (pairs i)) (across i n)
    unfolding across loaded_at
    tiled_across i zero h g = tt
    tiled_across i (suc n) h g =
        let off : ℕ = cells_of (loaded_sizes y) (factors y.k) + cells_of (loaded_sizes y) (pairs i) in
        tiled_append off (across i n) (target i n ∷ []) (tiled_across i n (omega arith) g)
        (tile_at (off + cells_of (loaded_sizes y) (across i n)) i n (omega arith) g (before_row (loaded_sizes y) y.k i n (omega arith) g (λ e l. omega arith)))

    tiled_pairs : (n : ℕ) → n ≤ y.k → Tiled (cells_of (loaded_sizes y) (factors y.k)) (pairs n)
    unfolding pairs
    tiled_pairs zero h = tt
    tiled_pairs (suc n) h = tiled_append (cells_of (loaded_sizes y) (factors y.k)) (pairs n) (across n n) (tiled_pairs n (omega arith)) (tiled_across n n (omega arith) (omega arith))

    tiled_targets : Tiled 0 (targets y.k)
    unfolding targets loaded_at
    tiled_targets =
        let k : ℕ = y.k in
        let f : ℕ = cells_of (loaded_sizes y) (factors k) in
        let p : ℕ = cells_of (loaded_sizes y) (pairs k) in
        let a : ℕ = cells_of (loaded_sizes y) (across k k) in
        tiled_append 0 (factors k ++ pairs k ++ across k k) (target k k ∷ [])
        (tiled_append 0 (factors k ++ pairs k) (across k k)
        (tiled_append 0 (factors k) (pairs k) (tiled_factors k (omega arith))
        (subst (λ (x : ℕ). Tiled x (pairs k)) (let e : f ≡ 0 + f = omega arith in e) (tiled_pairs k (omega arith))))
        (subst (λ (x : ℕ). Tiled x (across k k))
        (let e : f + p ≡ 0 + cells_of (loaded_sizes y) (factors k ++ pairs k) = omega (arith, cells_append (loaded_sizes y) (factors k) (pairs k)) in e)
        (tiled_across k k (omega arith) (omega arith))))
        (tile_at (0 + cells_of (loaded_sizes y) (factors k ++ pairs k ++ across k k)) k k (omega arith) (omega arith)
        (before_row (loaded_sizes y) k k k (omega arith) (omega arith) (λ e l. omega arith)
        ∙ omega (arith, cells_append (loaded_sizes y) (factors k ++ pairs k) (across k k), cells_append (loaded_sizes y) (factors k) (pairs k))))

    pub tiled_numbers : take (loaded_length y) W ≡ loaded_numbers sheet y
    unfolding triangle_end loaded_numbers
    tiled_numbers = tiled_list 0 (targets y.k) tiled_targets

-- ---- the whole list

module _ (s : List ℕ) (sheet : Sheet) (z : Starts) (y : Layout) (k : Known sheet y) (h : Whole s sheet z) where
  abbrev all_of : List Float → List Float
  all_of w = last_of s sheet z y k h (fixed_of s sheet z y k h w)

  loaded_made : (w : List Float) → loaded_length y ≤ length w → ((P : ℕ) → P < loaded_length y → get_or w P (double 0) ≡ double 0) → take (loaded_length y) (all_of w) ≡ loaded_numbers sheet y
  loaded_made w fits clean =
      tiled_numbers sheet y (all_of w)
      (λ i j a b.
      let row : ℕ → ℕ = entry_row_in sheet y in
      let t : Shape = loaded_shape y row i j in
      let e : size_of t ≡ loaded_sizes y i j = size_loaded y row i j in
      subst (λ (n : ℕ). part (loaded_at y i j) n (all_of w) ≡ fill t (λ r c. double (loaded_word sheet y i j r c))) e
      (is_fill (double 0) t (λ r c. double (loaded_word sheet y i j r c)) (part (loaded_at y i j) (size_of t) (all_of w))
      (length_part (loaded_at y i j) (size_of t) (all_of w) (omega (arith, e, all_length s sheet z y k h w, loaded_inside y i j a b)))
      (λ r c g. cell_part (double 0) t (loaded_at y i j) (all_of w) r c g ∙ cell_value s sheet z y k h w fits clean i j r c (record { below = a; few = b; has = g }))))

  module _ (w₀ : List Float) (fits : doubles_needed y ≤ length w₀) (low : length w₀ ≤ nowhere) where
    abbrev n : ℕ
    n = doubles_needed y

    abbrev cleared : List Float
    cleared = store 0 (tab n (λ i. ieee.zero)) w₀

    clear_fits : 0 + length (tab n (λ i. ieee.zero)) ≤ length w₀
    clear_fits = omega (arith, length_tab n (λ i. ieee.zero))

    cleared_length : length cleared ≡ length w₀
    cleared_length = length_store 0 (tab n (λ i. ieee.zero)) w₀ clear_fits

    at_cleared : (P : ℕ) → P < n → get_or cleared P (double 0) ≡ double 0
    at_cleared P b =
        ap (λ (x : ℕ). get_or cleared x (double 0)) (let e : P ≡ 0 + P = omega arith in e)
        ∙ store_in 0 (tab n (λ i. ieee.zero)) w₀ clear_fits (double 0) P (omega (arith, length_tab n (λ i. ieee.zero))) ∙ get_or_tab n (λ i. ieee.zero) P (double 0) b

    loaded_first_lem : loaded_length y ≤ n
    unfolding sum_at
    loaded_first_lem = omega arith

    at_doubles : (P : ℕ) → P < n → get_or (all_of cleared) P (double 0) ≡ get_or (doubles_of sheet y) P (double 0)
    unfolding doubles_of zeros
    at_doubles P l =
        by_cases (dec_lt P (loaded_length y))
        (λ m. sym (get_or-take (loaded_length y) (all_of cleared) P (double 0) m)
        ∙ ap (λ (x : List Float). get_or x P (double 0)) (loaded_made cleared (omega (arith, loaded_first_lem, cleared_length)) (λ Q b. at_cleared Q (omega (arith, loaded_first_lem))))
        ∙ sym (get_or-append (loaded_numbers sheet y) (zeros y) (double 0) P (omega (arith, length_loaded sheet y))))
        (λ m. behind s sheet z y k h cleared P (omega arith) (omega arith) ∙ at_cleared P l
        ∙ sym
        (ap (λ (x : ℕ). get_or (loaded_numbers sheet y ++ zeros y) x (double 0)) (let e : P ≡ length (loaded_numbers sheet y) + (P - loaded_length y) = omega (arith, length_loaded sheet y) in e)
        ∙ get_or-append-add (loaded_numbers sheet y) (zeros y) (P - loaded_length y) (double 0)
        ∙ get_or-replicate (doubles_needed y - loaded_length y) (P - loaded_length y) ieee.zero (double 0) (omega arith)))

    pub doubles_made : all_of cleared ≡ store 0 (doubles_of sheet y) w₀
    doubles_made =
        ext_get_or (double 0) (all_of cleared) (store 0 D w₀) (all_length s sheet z y k h cleared ∙ cleared_length ∙ sym (length_store 0 D w₀ D-fits))
        (λ P b.
        let c : P < length w₀ = omega (arith, all_length s sheet z y k h cleared, cleared_length) in
        by_cases (dec_lt P n) (λ l. at_doubles P l ∙ sym (ap (λ (x : ℕ). get_or (store 0 D w₀) x (double 0)) (let e : P ≡ 0 + P = omega arith in e) ∙ store_in 0 D w₀ D-fits (double 0) P (omega (arith, length_doubles sheet y))))
        (λ l. behind s sheet z y k h cleared P (omega (arith, loaded_first_lem)) (omega arith)
        ∙ store_behind 0 (tab n (λ i. ieee.zero)) w₀ clear_fits (double 0) P (omega (arith, length_tab n (λ i. ieee.zero)))
        ∙ sym (store_behind 0 D w₀ D-fits (double 0) P (omega (arith, length_doubles sheet y)))))
      where
        D : List Float
        D = doubles_of sheet y

        D-fits : 0 + length D ≤ length w₀
        D-fits = omega (arith, length_doubles sheet y)
