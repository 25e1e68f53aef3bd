-- The turns of a pass over the zz lines: the line of an entry, by its group and its side of the diagonal.
use Prim.Native.Nat.{ℕ, ◌+◌, ◌-◌, ◌*◌, ◌<◌, ◌≤◌, min}
use mathlib.Core.Path.{◌≡◌, refl, sym, ◌∙◌, ap, subst}
use mathlib.Core.Logic.{◌⊎◌, inl, inr}
use mathlib.Core.Bool.{Bool, true, false, ◌&&◌, ◌||◌, cond, false≢true}
use mathlib.Core.List.{List}
use native.Mathlib.Omega.{arith}
use native.Mathlib.Decide.{ℕ_discrete}
use borrow.Author.Tests.{ltb-true, leb-true, eqb-true, lt-ltb, le-leb}
use lib.Dec.{ltb, leb}
use mir.Val.{Fits}
use mir.Syntax.{w64}
use lib.ListN.{length, get_or, set, length-set}
use lib.Seq.{get_or-set_same, get_or-set_other}
use Rattle.sheet.specs.declared.Line.{Line}
use Rattle.sheet.specs.declared.Starts.{Starts}
use Rattle.sheet.specs.Line.{zz_tag, pair_line}
use Rattle.sheet.specs.Run.{Entry, entry_in}
use Rattle.sheet.specs.Sheet.{Sheet}
use Rattle.sheet.specs.Fault.{covered_rows}
use Rattle.sheet.proofs.Lines.{both}
use Rattle.layout.specs.Blocks.{padded}
use Rattle.sheet_checks.specs.declared.mirror_cursor.Moved.{Moved}
use Rattle.sheet_checks.specs.declared.mirror_cursor.Known.{Known}
use Rattle.sheet_checks.specs.levels.Held.{level_list}
use Rattle.sheet_checks.specs.mirror_cursor.Held.{held, entry_of, place_of, Given, Levelled, FaultAt}
use Rattle.sheet_checks.specs.mirror_cursor.Columns.{Below, Column}
use Rattle.sheet_checks.specs.mirror_cursor.Turns.{in_group, InGroup, is_unfit, Grouped, AtCursor, Pass}
use Rattle.sheet_checks.proofs.mirror_step.Columns.{last_or_before, column_less, column_on, column_other, column_new}
use Rattle.sheet_checks.proofs.mirror_step.Entries.{read_here, next_here, whole, in_order_lem, in_range, unfit_fault, fault_here, fault_min}

-- ---- the group of an entry
or_right : (a : Bool) → a || true ≡ true
or_right true = refl
or_right false = refl

module _ (base width a b : ℕ) where
  pub group_is : in_group base width a b ≡ true → (base ≤ a) × (base ≤ b) × ((a < base + width) ⊎ (b < base + width))
  group_is e =
      let x = both (leb base a) (leb base b && (ltb a (base + width) || ltb b (base + width))) e in
      let y = both (leb base b) (ltb a (base + width) || ltb b (base + width)) x.1 in
      (leb-true base a x.0, leb-true base b y.0, go (ltb a (base + width)) refl y.1)
    where
      go : (t : Bool) → ltb a (base + width) ≡ t → t || ltb b (base + width) ≡ true → (a < base + width) ⊎ (b < base + width)
      go true u g = inl (ltb-true a (base + width) u)
      go false u g = inr (ltb-true b (base + width) g)

  -- its smaller index
  pub group_low : in_group base width a b ≡ true → a ≤ b → (base ≤ a) × (a < base + width)
  group_low e h = go (group_is e)
    where
      go : (base ≤ a) × (base ≤ b) × ((a < base + width) ⊎ (b < base + width)) → (base ≤ a) × (a < base + width)
      go (x, y, inl z) = (x, z)
      go (x, y, inr z) = (x, omega arith)

  pub group_high : in_group base width a b ≡ true → b ≤ a → (base ≤ b) × (b < base + width)
  group_high e h = go (group_is e)
    where
      go : (base ≤ a) × (base ≤ b) × ((a < base + width) ⊎ (b < base + width)) → (base ≤ b) × (b < base + width)
      go (x, y, inl z) = (y, omega arith)
      go (x, y, inr z) = (y, z)

  pub is_group : base ≤ a → base ≤ b → (a < base + width) ⊎ (b < base + width) → in_group base width a b ≡ true
  is_group x y (inl z) = simp (le-leb base a x, le-leb base b y, lt-ltb a (base + width) z)
  is_group x y (inr z) = simp (le-leb base a x, le-leb base b y, lt-ltb b (base + width) z) (or_right (ltb a (base + width)))

-- the place of its cursor; below the diagonal, by the test for the first of its column
module _ {base width : ℕ} {l : Line} {v : Bool} (told : Grouped base width l v) (taken : v ≡ true) where
  high : l.second < l.first → (base ≤ l.second) × (l.second < base + width)
  high h = group_high base width l.first l.second (sym told.same ∙ taken) (omega arith)

  module _ (due : ℕ) (t : ltb l.first l.second && leb due l.first ≡ true) where
    low : (base ≤ l.first) × (l.first < base + width)
    low = group_low base width l.first l.second (sym told.same ∙ taken) (omega (arith, ltb-true l.first l.second (both (ltb l.first l.second) (leb due l.first) t).0))

    pub below_from : base ≤ l.first
    below_from = low.0

    pub below_in : l.first - base < width
    below_in = omega (arith, low)

    pub below_fits : base + width < 1152921504606846976 → Fits w64 ((l.first - base) * 8)
    below_fits k = record { fits = omega (arith, low) }

    pub due_fits : base + width < 1152921504606846976 → Fits w64 (l.first + 1)
    due_fits k = record { fits = omega (arith, low) }

  pub above_from : l.second < l.first → base ≤ l.second
  above_from h = (high h).0

  pub above_in : l.second < l.first → l.second - base < width
  above_in h = omega (arith, high h)

  pub above_fits : l.second < l.first → base + width < 1152921504606846976 → Fits w64 ((l.second - base) * 8)
  above_fits h k = record { fits = omega (arith, high h) }

-- what `with_unfit` says of a line at `at`, for every sheet with those levels
abbrev pub Reported : List ℕ → Line → ℕ → ℕ → ℕ → Type 0
Reported m l at first r =
    (sheet : Sheet) (line : ℕ) → m ≡ padded 8 (level_list sheet.blocks) → length sheet.blocks ≤ 8
    → l.first < covered_rows sheet.blocks → l.second < covered_rows sheet.blocks → r ≡ cond (is_unfit sheet (entry_in line l)) (min first at) first

-- ---- the line l of entry i in a pass: what is known then
module _ {s : List ℕ} {z : Starts} {n base : ℕ} {cur : List ℕ} {i : ℕ} {k : Known} {l : Line}
    (g : Given s z n) (p : Pass s z base cur i k) (h : i < n) (q : l ≡ pair_line zz_tag s k.at) where
  here : entry_of (held s) i ≡ entry_in (z.counts.k + 2 + i) l
  here = read_here g h p.here q

  col : (entry_of (held s) i).col ≡ l.first
  col = ap (λ (v : Entry). v.col) here

  row : (entry_of (held s) i).row ≡ l.second
  row = ap (λ (v : Entry). v.row) here

  -- one entry more, with the cursors `after` and the first faulty line that is known then
  abbrev Turned : List ℕ → ℕ → ℕ → Type 0
  Turned after due first = (length after ≡ length cur) × Pass s z base after (i + 1) (record { at = l.next; due = due; first = first })

  onward : (after : List ℕ) (due first : ℕ) → length after ≡ length cur → due ≤ base + length cur → FaultAt s z first → first ≤ k.first
      → ((j : ℕ) → j < length cur → Column (entry_of (held s)) (place_of s z) (length (held s).zz) (i + 1) first due (base + j) (get_or after j 0))
      → (place_of s z i < first → InGroup base (length cur) (entry_of (held s) i) → is_unfit (held s) (entry_of (held s) i) ≡ false) → Turned after due first
  onward after due first e b f low c fit = (
    e,
    record {
      near = omega (arith, g.count);
      here = next_here g i p.here q;
      bound = omega (arith, e);
      known = f;
      columns = λ j m. c j (omega (arith, e));
      fit = λ t m v w. go t v (subst (λ (x : ℕ). InGroup base x (entry_of (held s) t)) e w) (last_or_before t i m);
    },
  )
    where
      go : (t : ℕ) → place_of s z t < first → InGroup base (length cur) (entry_of (held s) t) → (t < i) ⊎ (t ≡ i) → is_unfit (held s) (entry_of (held s) t) ≡ false
      go t v w (inl m) = p.fit t m (omega arith) w
      go t v w (inr m) =
          ap (λ (x : ℕ). is_unfit (held s) (entry_of (held s) x)) m
          ∙ fit (subst (λ (x : ℕ). place_of s z x < first) m v) (subst (λ (x : ℕ). InGroup base (length cur) (entry_of (held s) x)) m w)

  -- an entry of no column of the group
  pub turn_skip : {v : Bool} → Grouped base (length cur) l v → v ≡ false → Turned cur k.due k.first
  turn_skip {v} told left =
      onward cur k.due k.first refl p.bound p.known (omega arith)
      (λ j m. column_on (in_order_lem g) (p.columns j m)
      (λ a. outside (omega (arith, a, col, row)) (omega (arith, a, col, row)) (inr (omega (arith, a, row))))
      (λ d a. outside (omega (arith, a, col, row)) (omega (arith, a, col, row)) (inl (omega (arith, a, col)))))
      (λ m w. absurd (false≢true (sym f ∙ ap (λ (v : Entry). in_group base (length cur) v.col v.row) (sym here) ∙ w)))
    where
      f : in_group base (length cur) l.first l.second ≡ false
      f = sym told.same ∙ left

      outside : base ≤ l.first → base ≤ l.second → (l.first < base + length cur) ⊎ (l.second < base + length cur) → ⊥
      outside x y w = false≢true (sym f ∙ is_group base (length cur) l.first l.second x y w)

  -- an entry of the group, looked at for a fault that needs no other
  module _ {m : List ℕ} {first : ℕ} (levels : Levelled s m) (told : Reported m l k.at k.first first) where
    reported : first ≡ cond (is_unfit (held s) (entry_of (held s) i)) (min k.first k.at) k.first
    reported =
        let r = in_range g i h in
        let c : (held s).counts.q ≡ covered_rows (held s).blocks = eqb-true (held s).counts.q (covered_rows (held s).blocks) levels.covers in
        told (held s) (z.counts.k + 2 + i) levels.levels (omega (arith, (whole g).shape.blocks_length, (whole g).shape.counts.k))
        (omega (arith, r.col, c, col)) (omega (arith, r.row, c, row))
        ∙ ap (λ (v : Entry). cond (is_unfit (held s) v) (min k.first k.at) k.first) (sym here)

    -- so it is faulty and known, or fit
    record Looked : Type 0 where
      pub low : first ≤ k.first
      pub known : FaultAt s z first
      pub fit : place_of s z i < first → is_unfit (held s) (entry_of (held s) i) ≡ false

    looked : Looked
    looked = go (is_unfit (held s) (entry_of (held s) i)) refl reported
      where
        go : (u : Bool) → is_unfit (held s) (entry_of (held s) i) ≡ u → first ≡ cond u (min k.first k.at) k.first → Looked
        go false e f = record { low = omega arith; known = subst (FaultAt s z) (sym f) p.known; fit = λ v. e }
        go true e f =
            record {
              low = omega arith;
              known = subst (FaultAt s z) (sym f)
                  (fault_min p.known (subst (FaultAt s z) (sym p.here) (fault_here i (omega (arith, g.count)) (unfit_fault (held s) (entry_of (held s) i) e))));
              fit = λ v. absurd (omega (arith, p.here));
            }

    module _ {v : Bool} (grouped : Grouped base (length cur) l v) (taken : v ≡ true) where
      w : in_group base (length cur) l.first l.second ≡ true
      w = sym grouped.same ∙ taken

      -- below the diagonal, the first of its column
      pub turn_first : ltb l.first l.second && leb k.due l.first ≡ true → Turned (set cur (l.first - base) k.at) (l.first + 1) first
      turn_first t =
          onward (set cur (l.first - base) k.at) (l.first + 1) first (length-set cur (l.first - base) k.at) (omega (arith, group_low base (length cur) l.first l.second w (omega (arith, below.1, row))))
          looked.known looked.low (λ j r. go j r (ℕ_discrete j (l.first - base))) (λ u x. looked.fit u)
        where
          due : k.due ≤ l.first
          due = leb-true k.due l.first (both (ltb l.first l.second) (leb k.due l.first) t).1

          below : Below l.first (entry_of (held s) i)
          below = (col, omega (arith, row, ltb-true l.first l.second (both (ltb l.first l.second) (leb k.due l.first) t).0))

          go : (j : ℕ) → j < length cur → Dec (j ≡ l.first - base)
              → Column (entry_of (held s)) (place_of s z) (length (held s).zz) (i + 1) first (l.first + 1) (base + j) (get_or (set cur (l.first - base) k.at) j 0)
          go j r (yes x) =
              let c : base + j ≡ l.first = omega (arith, group_low base (length cur) l.first l.second w (omega (arith, below.1, row))) in
              let y : get_or (set cur (l.first - base) k.at) j 0 ≡ place_of s z i =
              ap (λ (v : ℕ). get_or (set cur (l.first - base) k.at) v 0) x ∙ get_or-set_same cur (l.first - base) k.at 0 (omega arith) ∙ p.here in
              rw (y, c)
              (column_new (in_order_lem g)
              (subst (λ (v : ℕ). Column (entry_of (held s)) (place_of s z) (length (held s).zz) i first k.due v (get_or cur j 0)) c (column_less (in_order_lem g) (p.columns j r) first looked.low))
              (omega (arith, g.count)) below due)
          go j r (no x) =
              rw (get_or-set_other cur (l.first - base) j k.at 0 x)
              (column_other (in_order_lem g) (column_less (in_order_lem g) (p.columns j r) first looked.low) l.first (omega (arith, g.count)) below due (λ y. x (omega arith)))

      -- below the diagonal, a later one of its column; or on the diagonal
      pub turn_stay : l.first ≤ l.second → ltb l.first l.second && leb k.due l.first ≡ false → Turned cur k.due first
      turn_stay b t =
          onward cur k.due first refl p.bound looked.known looked.low
          (λ j r. column_on (in_order_lem g) (column_less (in_order_lem g) (p.columns j r) first looked.low) (λ a. omega (arith, a, col, row))
          (λ d a. false≢true (sym t ∙ simp (lt-ltb l.first l.second (omega (arith, a, col, row)), le-leb k.due l.first (omega (arith, a, col))))))
          (λ u x. looked.fit u)

      -- above the diagonal: the cursor of its row's column, before and after
      module _ (b : l.second < l.first) where
        place : base + (l.second - base) ≡ l.second
        place = omega (arith, group_high base (length cur) l.first l.second w (omega arith))

        inside : l.second - base < length cur
        inside = omega (arith, group_high base (length cur) l.first l.second w (omega arith))

        pub turn_cursor : AtCursor s z i k.due l.second (record { cursor = get_or cur (l.second - base) 0; first = first })
        turn_cursor =
            record {
              column = subst (λ (v : ℕ). Column (entry_of (held s)) (place_of s z) (length (held s).zz) i first k.due v (get_or cur (l.second - base) 0)) place
                  (column_less (in_order_lem g) (p.columns (l.second - base) inside) first looked.low);
              known = looked.known;
            }

        pub turn_above : {r : Moved} → AtCursor s z (i + 1) k.due l.second r → r.first ≤ first → Turned (set cur (l.second - base) r.cursor) k.due r.first
        turn_above {r} a f =
            onward (set cur (l.second - base) r.cursor) k.due r.first (length-set cur (l.second - base) r.cursor) p.bound a.known (omega (arith, looked.low))
            (λ j x. go j x (ℕ_discrete j (l.second - base))) (λ u x. looked.fit (omega arith))
          where
            go : (j : ℕ) → j < length cur → Dec (j ≡ l.second - base)
                → Column (entry_of (held s)) (place_of s z) (length (held s).zz) (i + 1) r.first k.due (base + j) (get_or (set cur (l.second - base) r.cursor) j 0)
            go j x (yes e) =
                let c : base + j ≡ l.second = omega (arith, place) in
                let y : get_or (set cur (l.second - base) r.cursor) j 0 ≡ r.cursor =
                ap (λ (v : ℕ). get_or (set cur (l.second - base) r.cursor) v 0) e ∙ get_or-set_same cur (l.second - base) r.cursor 0 inside in
                rw (y, c) a.column
            go j x (no e) =
                rw (get_or-set_other cur (l.second - base) j r.cursor 0 e)
                (column_on (in_order_lem g) (column_less (in_order_lem g) (p.columns j x) r.first (omega (arith, looked.low)))
                (λ y. e (omega (arith, y, row))) (λ d y. omega (arith, y, col, row)))
