-- The end of a pass over the zz lines, and the groups of columns.
use Rattle.std.specs.Prelude.{Option, Some, None}
use Prim.Native.Nat.{ℕ, ◌+◌, ◌-◌, ◌<◌, ◌≤◌, min}
use mathlib.Core.Path.{◌≡◌, refl, sym, ◌∙◌, ap, subst}
use mathlib.Core.Logic.{◌⊎◌, inl, inr, ⊎_elim}
use mathlib.Core.Bool.{Bool, true, false, ◌&&◌, false≢true}
use mathlib.Core.List.{List}
use native.Mathlib.Omega.{arith}
use borrow.Author.Tests.{ltb-true, ltb-false, leb-true, leb-false, eqb-true, lt-ltb, eq-eqb, ne_eqb}
use lib.Dec.{ltb, leb, eqb}
use mir.Val.{Fits}
use mir.Syntax.{w64}
use lib.ListN.{length, get_or, replicate, length-replicate, get_or-replicate}
use Rattle.sheet.specs.declared.Line.{Line}
use Rattle.sheet.specs.declared.Starts.{Starts}
use Rattle.sheet.specs.declared.Counts.{Counts}
use Rattle.sheet.specs.Line.{zz_tag, pair_line}
use Rattle.sheet.specs.Run.{Entry, entry_in, past_from}
use Rattle.sheet.specs.Sheet.{Sheet, accepted, read_sheet}
use Rattle.sheet.specs.Fault.{Fault, covers_rows, faulty_line}
use Rattle.sheet.proofs.Lines.{both}
use Rattle.layout.specs.Blocks.{padded}
use Rattle.sheet_checks.specs.declared.mirror_cursor.Known.{Known}
use Rattle.sheet_checks.specs.levels.Held.{level_list}
use Rattle.sheet_checks.specs.mirror_cursor.Held.{sheet_in, held, entry_of, place_of, Given, Levelled, FaultAt}
use Rattle.sheet_checks.specs.mirror_cursor.Columns.{Below, Mirrored, Column}
use Rattle.sheet_checks.specs.mirror_cursor.Turns.{InGroup, Pass}
use Rattle.sheet_checks.specs.mirror_scan.Mirror.{Judged, line_of}
use Rattle.sheet_checks.proofs.mirror_step.Columns.{last_or_before, column_start, column_less, cursor_unmirrored, column_closed}
use Rattle.sheet_checks.proofs.mirror_step.Entries.{place_first, entry_line, read_here, next_here, with_unmirrored, same_place, whole, counts_same, in_order_lem, places_rise, in_range, sound, names_entry, names_none, fault_none, fault_min}
use Rattle.sheet_checks.proofs.mirror_step.Turns.{group_is, group_low, group_high, is_group}

-- ---- the end of a pass
-- what `first_fault` knows: before `first` every entry below the diagonal in the columns before `col` has its mirror
pub record Scanned (s : List ℕ) (z : Starts) (base : ℕ) (k : Known) (first col : ℕ) : Type 0 where
  pub low : first ≤ k.first
  pub known : FaultAt s z first
  pub mirrored : (j : ℕ) → base + j < col → (t : ℕ) → t < length (held s).zz → place_of s z t < first → Below (base + j) (entry_of (held s) t) → Mirrored (entry_of (held s)) (length (held s).zz) t

module _ {s : List ℕ} {z : Starts} {n base : ℕ} {cur : List ℕ} {k : Known} (g : Given s z n) (p : Pass s z base cur n k) where
  pub scan_start : Scanned s z base k k.first base
  scan_start = record { low = omega arith; known = p.known; mirrored = λ j h. absurd (omega arith) }

  scan_in : {col : ℕ} → base ≤ col → col < k.due → col - base < length cur
  scan_in from h = omega (arith, p.bound)

  -- the cursor of a column, at the end
  last : (j : ℕ) → j < length cur → Column (entry_of (held s)) (place_of s z) (length (held s).zz) (length (held s).zz) k.first k.due (base + j) (get_or cur j 0)
  last j h = subst (λ (i : ℕ). Column (entry_of (held s)) (place_of s z) (length (held s).zz) i k.first k.due (base + j) (get_or cur j 0)) g.count (p.columns j h)

  module _ {first col : ℕ} {o : Line} (c : Scanned s z base k first col) (from : base ≤ col) (h : col < k.due) (q : o ≡ pair_line zz_tag s (get_or cur (col - base) 0)) where
    own : Column (entry_of (held s)) (place_of s z) (length (held s).zz) (length (held s).zz) k.first k.due col (get_or cur (col - base) 0)
    own =
        subst (λ (j : ℕ). Column (entry_of (held s)) (place_of s z) (length (held s).zz) (length (held s).zz) k.first k.due j (get_or cur (col - base) 0))
        (let e : base + (col - base) ≡ col = omega arith in e) (last (col - base) (scan_in from h))

    at_own : entry_of (held s) own.x ≡ entry_in (z.counts.k + 2 + own.x) o
    at_own = read_here g (omega (arith, own.within, g.count)) own.here q

    -- one column more
    scan_next : (less : ℕ) → less ≤ first → FaultAt s z less → (Below col (entry_of (held s) own.x) → less ≤ place_of s z own.x) → Scanned s z base k less (col + 1)
    unfolding column_less
    scan_next less l f low =
        record {
          low = omega (arith, c.low);
          known = f;
          mirrored = λ j m t u v b. go j t u v b (last_or_before (base + j) col m);
        }
      where
        go : (j t : ℕ) → t < length (held s).zz → place_of s z t < less → Below (base + j) (entry_of (held s) t) → (base + j < col) ⊎ (base + j ≡ col)
            → Mirrored (entry_of (held s)) (length (held s).zz) t
        go j t u v b (inl m) = c.mirrored j m t u (omega arith) b
        go j t u v b (inr m) =
            column_closed (in_order_lem g) (column_less (in_order_lem g) own less (omega (arith, c.low))) (λ d. low) t u v (subst (λ (x : ℕ). Below x (entry_of (held s) t)) m b)

    -- the line at its cursor is below the diagonal, so its mirror never came; or no such line is left
    pub scan_hit : {less : ℕ} → eqb o.first col && ltb col o.second ≡ true → less ≡ min first (get_or cur (col - base) 0) → Scanned s z base k less (col + 1)
    scan_hit {less} f e =
        let w = both (eqb o.first col) (ltb col o.second) f in
        let b : Below col (entry_of (held s) own.x) =
        (ap (λ (v : Entry). v.col) at_own ∙ eqb-true o.first col w.0, omega (arith, ap (λ (v : Entry). v.row) at_own, ltb-true col o.second w.1)) in
        scan_next less (omega arith)
        (subst (FaultAt s z) (sym e) (with_unmirrored own.x own.within own.here c.known (cursor_unmirrored (in_order_lem g) own b (λ u l m. l)))) (λ b. omega (arith, own.here))

    pub scan_miss : {less : ℕ} → eqb o.first col && ltb col o.second ≡ false → less ≡ first → Scanned s z base k less (col + 1)
    scan_miss {less} f e =
        scan_next less (omega arith) (subst (FaultAt s z) (sym e) c.known)
        (λ b.
        absurd
        (false≢true
        (sym f
        ∙ simp (
          eq-eqb o.first col (sym (ap (λ (v : Entry). v.col) at_own) ∙ b.0),
          lt-ltb col o.second (omega (arith, ap (λ (v : Entry). v.row) at_own, b.1)),
        ))))

  -- a whole pass: an entry before the first faulty line is fit, and has its mirror
  pub scan_end : {first col : ℕ} → Scanned s z base k first col → k.due ≤ col → Judged s z base (length cur) first
  unfolding column_less
  scan_end {first} {col} c h =
      record {
        known = c.known;
        sound = λ t u v w. sound (held s) t (p.fit t (omega (arith, g.count)) (omega (arith, c.low)) w)
            (go t u v w (ltb (entry_of (held s) t).col (entry_of (held s) t).row) (ltb (entry_of (held s) t).row (entry_of (held s) t).col) refl refl);
      }
    where
      below : (j : ℕ) → j < length cur → (t : ℕ) → t < length (held s).zz → place_of s z t < first → Below (base + j) (entry_of (held s) t) → (b : Bool) → ltb (base + j) col ≡ b
          → Mirrored (entry_of (held s)) (length (held s).zz) t
      below j m t u v b true e = c.mirrored j (ltb-true (base + j) col e) t u v b
      below j m t u v b false e =
          let d = ltb-false (base + j) col e in
          column_closed (in_order_lem g) (column_less (in_order_lem g) (last j m) first c.low) (λ x. absurd (omega arith)) t u v b

      go : (t : ℕ) → t < length (held s).zz → place_of s z t < first → InGroup base (length cur) (entry_of (held s) t)
          → (x y : Bool) → ltb (entry_of (held s) t).col (entry_of (held s) t).row ≡ x → ltb (entry_of (held s) t).row (entry_of (held s) t).col ≡ y
          → Mirrored (entry_of (held s)) (length (held s).zz) t
      go t u v w true y e f =
          let a = (entry_of (held s) t).col in
          let d : a < (entry_of (held s) t).row = ltb-true _ _ e in
          let i = group_low base (length cur) a (entry_of (held s) t).row w (omega arith) in
          below (a - base) (omega (arith, i)) t u v (omega (arith, i), omega (arith, i)) (ltb (base + (a - base)) col) refl
      go t u v w false true e f =
          let b = (entry_of (held s) t).row in
          let d : b < (entry_of (held s) t).col = ltb-true _ _ f in
          let i = group_high base (length cur) (entry_of (held s) t).col b w (omega arith) in
          (last (b - base) (omega (arith, i))).behind t u (omega (arith, c.low)) (omega (arith, i), omega (arith, i))
      go t u v w false false e f =
          let x : (entry_of (held s) t).row ≤ (entry_of (held s) t).col = ltb-false _ _ e in
          let y : (entry_of (held s) t).col ≤ (entry_of (held s) t).row = ltb-false _ _ f in
          (t, u, record { col = omega arith; row = omega arith; word = refl })

module _ {s : List ℕ} {z : Starts} {n : ℕ} (g : Given s z n) where
  pub pass_start : (base : ℕ) (cur : List ℕ) → 0 < n → cur ≡ replicate (length cur) z.zz → Pass s z base cur 0 (record { at = z.zz; due = 0; first = z.zx })
  pass_start base cur h e =
      record {
        near = omega arith;
        here = sym (place_first s z);
        bound = omega arith;
        known = fault_none g;
        columns = λ j k.
            subst (λ (y : ℕ). Column (entry_of (held s)) (place_of s z) (length (held s).zz) 0 z.zx 0 (base + j) y)
            (place_first s z ∙ sym (ap (λ (l : List ℕ). get_or l j 0) e ∙ get_or-replicate (length cur) j z.zz 0 k))
            (column_start (in_order_lem g) z.zx (base + j) (omega (arith, g.count)));
        fit = λ t k. absurd (omega arith);
      }

  pub pass_end : {base : ℕ} {cur : List ℕ} {i : ℕ} {k : Known} → Pass s z base cur i k → n ≤ i → Pass s z base cur n k
  pass_end {base} {cur} {i} {k} p h = subst (λ (x : ℕ). Pass s z base cur x k) (let e : i ≡ n = omega (arith, p.near, g.count) in e) p

  -- ---- the groups: every entry is in one of them, since its smaller index is below q
  pub few_columns : z.counts.q ≤ 524280
  few_columns = omega (arith, (whole g).shape.counts.q, ap (λ (c : Counts). c.q) (counts_same g))

  pub judged_none : Judged s z 0 0 z.zx
  judged_none =
      record {
        known = fault_none g;
        sound = λ t h v w. ⊎_elim (λ x. absurd (omega arith)) (λ x. absurd (omega arith)) (group_is 0 0 (entry_of (held s) t).col (entry_of (held s) t).row w).2;
      }

  pub judged_on : {base width first r less : ℕ} → Judged s z 0 base first → Judged s z base width r → less ≡ min first r → Judged s z 0 (base + width) less
  judged_on {base} {width} {first} {r} {less} a b m =
      record {
        known = subst (FaultAt s z) (sym m) (fault_min a.known b.known);
        sound = λ t h v w. go t h v w (leb base (entry_of (held s) t).col) (leb base (entry_of (held s) t).row) refl refl;
      }
    where
      go : (t : ℕ) → t < length (held s).zz → place_of s z t < less → InGroup 0 (base + width) (entry_of (held s) t)
          → (x y : Bool) → leb base (entry_of (held s) t).col ≡ x → leb base (entry_of (held s) t).row ≡ y → Fault (held s) (entry_of (held s) t) → ⊥
      go t h v w false y e f =
          let l = leb-false base (entry_of (held s) t).col e in
          a.sound t h (omega (arith, m)) (is_group 0 base (entry_of (held s) t).col (entry_of (held s) t).row (omega arith) (omega arith) (inl (omega arith)))
      go t h v w true false e f =
          let l = leb-false base (entry_of (held s) t).row f in
          a.sound t h (omega (arith, m)) (is_group 0 base (entry_of (held s) t).col (entry_of (held s) t).row (omega arith) (omega arith) (inr (omega arith)))
      go t h v w true true e f =
          let i = group_is 0 (base + width) (entry_of (held s) t).col (entry_of (held s) t).row w in
          b.sound t h (omega (arith, m))
          (is_group base width (entry_of (held s) t).col (entry_of (held s) t).row (leb-true base (entry_of (held s) t).col e) (leb-true base (entry_of (held s) t).row f)
          (⊎_elim (λ x. inl (omega arith)) (λ x. inr (omega arith)) i.2))

  -- a line's number above 0 is one
  some_line : (line : ℕ) → 0 < line → Some line ≡ line_of line
  some_line line h = rw (ne_eqb line 0 (omega arith)) refl

  -- what `line_number_at` says of a place
  abbrev pub NumberOf : ℕ → Option ℕ → Type 0
  NumberOf at r = ((t : ℕ) → t < n → at ≡ place_of s z t → r ≡ Some (entry_of (held s) t).line) × (at ≡ z.zx → r ≡ None)

  -- where all columns are judged, the line there is the one that 9 names
  pub judged_all : {width at : ℕ} {r : Option ℕ} → Judged s z 0 width at → z.counts.q ≤ width → NumberOf at r → r ≡ line_of (faulty_line (held s))
  judged_all {width} {at} {r} a h number = go (ltb a.known.t (length (held s).zz)) refl
    where
      none : (t : ℕ) → t < length (held s).zz → place_of s z t < at → Fault (held s) (entry_of (held s) t) → ⊥
      none t u v =
          let i = in_range g t (omega (arith, g.count)) in
          a.sound t u v
          (is_group 0 width (entry_of (held s) t).col (entry_of (held s) t).row (omega arith) (omega arith) (inl (omega (arith, i.col, ap (λ (x : Counts). x.q) (counts_same g)))))

      go : (b : Bool) → ltb a.known.t (length (held s).zz) ≡ b → r ≡ line_of (faulty_line (held s))
      go true e =
          let l : a.known.t < length (held s).zz = ltb-true _ _ e in
          number.0 a.known.t (omega (arith, g.count)) a.known.here
          ∙ some_line _ (omega (arith, ap (λ (v : Entry). v.line) (entry_line g a.known.t (omega (arith, g.count)))))
          ∙ ap line_of (names_entry (held s) a.known.t l (a.known.fault l) (λ u k. none u (omega arith) (omega (arith, places_rise g u a.known.t k (omega arith), a.known.here))))
      go false e =
          let l : length (held s).zz ≤ a.known.t = ltb-false _ _ e in
          let q : a.known.t ≡ length (held s).zz = omega (arith, a.known.near) in
          let at_end : at ≡ place_of s z (length (held s).zz) = a.known.here ∙ ap (place_of s z) q in
          number.1 (at_end ∙ sym (whole g).placed.zz_end)
          ∙ ap line_of (names_none (held s) (λ u k. none u k (omega (arith, places_rise g u (length (held s).zz) k (omega arith)))))

  pub empty_names : n ≡ 0 → None ≡ line_of (faulty_line (held s))
  empty_names e = ap line_of (names_none (held s) (λ u k. absurd (omega (arith, g.count))))

-- ---- the number of the line at a place
-- what `line_number_at` knows: none of the i lines looked at starts at `at`
pub record Sought (s : List ℕ) (from n at place i : ℕ) : Type 0 where
  pub near : i ≤ n
  pub here : place ≡ past_from (pair_line zz_tag s) i from
  pub none : (t : ℕ) → t < i → at ≡ past_from (pair_line zz_tag s) t from → ⊥

pub sought_start : (s : List ℕ) (from n at : ℕ) → Sought s from n at from 0
unfolding past_from
sought_start s from n at = record { near = omega arith; here = refl; none = λ t h. absurd (omega arith) }

module _ {s : List ℕ} {z : Starts} {n : ℕ} (g : Given s z n) where
  -- every line's number fits
  pub first_fits : Fits w64 (z.counts.k + 2)
  first_fits = record { fits = omega (arith, (whole g).shape.counts.k, ap (λ (c : Counts). c.k) (counts_same g)) }

  pub number_fits : {i : ℕ} → i < n → Fits w64 (z.counts.k + 2 + i)
  number_fits h = record { fits = omega (arith, ap (λ (c : Counts). c.k) (counts_same g), (whole g).shape.lines, g.count, g.fits) }

  -- the end of the lines is the place of none of them
  pub none_there : {at : ℕ} → at ≡ z.zx → NumberOf g at None
  none_there e = (
    λ t k f. absurd (let q = same_place g t (length (held s).zz) (omega (arith, g.count)) (omega arith) (sym f ∙ e ∙ (whole g).placed.zz_end) in omega (arith, g.count)),
    λ f. refl,
  )

module _ {s : List ℕ} {z : Starts} {n at place i : ℕ} (g : Given s z n) (c : Sought s z.zz n at place i) where
  pub sought_on : {l : Line} → i < n → (place ≡ at → ⊥) → l ≡ pair_line zz_tag s place → Sought s z.zz n at l.next (i + 1)
  sought_on h f q = record { near = omega arith; here = next_here g i c.here q; none = λ t k e. go t e (last_or_before t i k) }
    where
      go : (t : ℕ) → at ≡ place_of s z t → (t < i) ⊎ (t ≡ i) → ⊥
      go t e (inl k) = c.none t k e
      go t e (inr k) = f (c.here ∙ ap (place_of s z) (sym k) ∙ sym e)

  pub sought_hit : i < n → place ≡ at → NumberOf g at (Some (z.counts.k + 2 + i))
  sought_hit h e = (
    λ t k f.
        let q : i ≡ t = same_place g i t (omega (arith, g.count)) (omega (arith, g.count)) (sym c.here ∙ e ∙ f) in
        ap Some (ap (λ (x : ℕ). z.counts.k + 2 + x) q ∙ sym (ap (λ (v : Entry). v.line) (entry_line g t k))),
    λ f. absurd (let q = same_place g i (length (held s).zz) (omega (arith, g.count)) (omega arith) (sym c.here ∙ e ∙ f ∙ (whole g).placed.zz_end) in omega (arith, g.count)),
  )

  pub sought_out : n ≤ i → NumberOf g at None
  sought_out h = (λ t k f. absurd (c.none t (omega arith) f), λ f. refl)

-- ---- a fresh array of cursors
pub fresh_fits : (base width first : ℕ) → base < 4294967296 → width ≤ 65536 → base + length (replicate width first) < 1152921504606846976
fresh_fits base width first h k = omega (arith, length-replicate width first)

pub fresh_same : (width first : ℕ) → replicate width first ≡ replicate (length (replicate width first)) first
fresh_same width first = sym (ap (λ (n : ℕ). replicate n first) (length-replicate width first))

-- ---- from the sheet to what its bytes hold, and back
held_is : (s : List ℕ) {z : Starts} {sheet : Sheet} → read_sheet s ≡ accepted sheet z → held s ≡ sheet
unfolding held
held_is s e = ap sheet_in e

pub names_for : (s : List ℕ) {z : Starts} {sheet : Sheet} {r : Option ℕ} → read_sheet s ≡ accepted sheet z → r ≡ line_of (faulty_line (held s)) → r ≡ line_of (faulty_line sheet)
names_for s e f = f ∙ ap (λ (x : Sheet). line_of (faulty_line x)) (held_is s e)

-- what a search for number 9 is given
module _ (s : List ℕ) {z : Starts} {m : List ℕ} (e : (sheet : Sheet) × (read_sheet s ≡ accepted sheet z) × (covers_rows sheet ≡ true) × (m ≡ padded 8 (level_list sheet.blocks))) where
  same_read : read_sheet s ≡ accepted (held s) z
  same_read = e.1 ∙ ap (λ (x : Sheet). accepted x z) (sym (held_is s e.1))

  pub given : {n : ℕ} → ((s : List ℕ) (sheet : Sheet) → read_sheet s ≡ accepted sheet z → n ≡ length sheet.zz) → z.line < 18446744073709551616 → Given s z n
  given h k =
      record {
        read = same_read;
        count = h s (held s) same_read;
        fits = k;
      }

  pub levelled : Levelled s m
  levelled =
      record {
        levels = e.3 ∙ ap (λ (x : Sheet). padded 8 (level_list x.blocks)) (sym (held_is s e.1));
        covers = ap covers_rows (held_is s e.1) ∙ e.2;
      }
