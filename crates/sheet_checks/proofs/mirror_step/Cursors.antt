-- An entry above the diagonal at the cursor of its row's column: what becomes of the cursor, and which of the two is faulty.
use Prim.Native.Nat.{ℕ, ◌+◌, ◌-◌, ◌<◌, ◌≤◌, min}
use mathlib.Core.Path.{◌≡◌, refl, sym, ◌∙◌, ap}
use mathlib.Core.Logic.{inl, inr}
use mathlib.Core.Bool.{Bool, true, false, ◌&&◌, false≢true}
use mathlib.Core.List.{List}
use native.Mathlib.Omega.{arith}
use borrow.Author.Tests.{ltb-true, ltb-false, eqb-true, eqb-false, lt-ltb, eq-eqb}
use lib.Dec.{ltb, eqb}
use lib.ListN.{length}
use Rattle.sheet.specs.declared.Line.{Line}
use Rattle.sheet.specs.declared.Starts.{Starts}
use Rattle.sheet.specs.Line.{zz_tag, pair_line}
use Rattle.sheet.specs.Run.{Entry, entry_in}
use Rattle.sheet.proofs.Lines.{both}
use Rattle.sheet_checks.specs.declared.mirror_cursor.Moved.{Moved}
use Rattle.sheet_checks.specs.mirror_cursor.Held.{held, entry_of, place_of, Given}
use Rattle.sheet_checks.specs.mirror_cursor.Columns.{Below, Above}
use Rattle.sheet_checks.specs.mirror_cursor.Turns.{is_opposite, is_passed, AtCursor}
use Rattle.sheet_checks.proofs.mirror_step.Columns.{column_less, column_skip, column_met, column_missing, passed_unmirrored, unequal_unmirrored, entry_unmirrored}
use Rattle.sheet_checks.proofs.mirror_step.Entries.{read_here, next_here, with_unmirrored, in_order_lem, line_ends}

module _ {s : List ℕ} {z : Starts} {n : ℕ} (g : Given s z n) where
  -- ---- entry i above the diagonal, at the cursor of its row's column
  module _ {i due at : ℕ} {l o : Line} {c : Moved} (h : i < n) (w : at ≡ place_of s z i) (q : l ≡ pair_line zz_tag s at) (b : l.second < l.first)
      (k : AtCursor s z i due l.second c) (y : o ≡ pair_line zz_tag s c.cursor) where
    abbrev x : ℕ
    x = k.column.x

    short : i < length (held s).zz
    short = omega (arith, g.count)

    is_here : entry_of (held s) i ≡ entry_in (z.counts.k + 2 + i) l
    is_here = read_here g h w q

    at_cursor : entry_of (held s) x ≡ entry_in (z.counts.k + 2 + x) o
    at_cursor = read_here g (omega (arith, k.column.within, g.count)) k.column.here y

    col_here : (entry_of (held s) i).col ≡ l.first
    col_here = ap (λ (v : Entry). v.col) is_here

    above : Above l.second (entry_of (held s) i)
    above = (ap (λ (v : Entry). v.row) is_here, omega (arith, col_here))

    col_cursor : (entry_of (held s) x).col ≡ o.first
    col_cursor = ap (λ (v : Entry). v.col) at_cursor

    row_cursor : (entry_of (held s) x).row ≡ o.second
    row_cursor = ap (λ (v : Entry). v.row) at_cursor

    -- its line ends past where it starts, and within the bytes
    pub cursor_ends : (c.cursor < o.next) × (o.next ≤ length s)
    cursor_ends =
        let f = line_ends g x k.column.within in
        let m = next_here g x k.column.here y in
        (omega (arith, f.0, k.column.here), omega (arith, f.1))

    -- the entry at the cursor was passed: it is faulty, and the cursor moves on
    pub cursor_skips : is_passed l o ≡ true → AtCursor s z i due l.second (record { cursor = o.next; first = min c.first c.cursor })
    unfolding column_less
    cursor_skips v =
        let r = passed_is in
        record {
          column = rw (next_here g x k.column.here y)
              (column_skip (in_order_lem g)
              (column_less (in_order_lem g) k.column (min c.first c.cursor) (omega arith)) short above r.0 r.1 (omega (arith, k.column.here)));
          known = with_unmirrored x k.column.within k.column.here k.known
              (passed_unmirrored (in_order_lem g) k.column short r.0 r.1);
        }
      where
        passed_is : Below l.second (entry_of (held s) x) × ((entry_of (held s) x).row < (entry_of (held s) i).col)
        passed_is =
            let a = both (eqb o.first l.second) (ltb l.second o.second && ltb o.second l.first) v in
            let d = both (ltb l.second o.second) (ltb o.second l.first) a.1 in
            ((col_cursor ∙ eqb-true o.first l.second a.0, omega (arith, row_cursor, ltb-true l.second o.second d.0)), omega (arith, row_cursor, col_here, ltb-true o.second l.first d.1))

    -- the entry at the cursor is opposite
    module _ (v : is_opposite l o ≡ true) where
      opposite_col : (entry_of (held s) x).col ≡ l.second
      opposite_col = col_cursor ∙ eqb-true o.first l.second (both (eqb o.first l.second) (eqb o.second l.first) v).0

      opposite_row : (entry_of (held s) x).row ≡ (entry_of (held s) i).col
      opposite_row = row_cursor ∙ eqb-true o.second l.first (both (eqb o.first l.second) (eqb o.second l.first) v).1 ∙ sym col_here

      word_here : (entry_of (held s) i).word ≡ l.word
      word_here = ap (λ (m : Entry). m.word) is_here

      word_cursor : (entry_of (held s) x).word ≡ o.word
      word_cursor = ap (λ (m : Entry). m.word) at_cursor

      pub cursor_meets : o.word ≡ l.word → AtCursor s z (i + 1) due l.second (record { cursor = o.next; first = c.first })
      cursor_meets r =
          record {
            column = rw (next_here g x k.column.here y)
                (column_met (in_order_lem g) k.column short above opposite_col opposite_row
                (inl (record { col = opposite_col ∙ sym above.0; row = opposite_row; word = word_cursor ∙ r ∙ sym word_here })));
            known = k.known;
          }

      -- of two that differ the earlier one, at the cursor, is named
      pub cursor_differs : (o.word ≡ l.word → ⊥) → AtCursor s z (i + 1) due l.second (record { cursor = o.next; first = min c.first c.cursor })
      unfolding column_less
      cursor_differs r =
          record {
            column = rw (next_here g x k.column.here y)
                (column_met (in_order_lem g)
                (column_less (in_order_lem g) k.column (min c.first c.cursor) (omega arith)) short above opposite_col opposite_row
                (inr (omega (arith, k.column.here))));
            known = with_unmirrored x k.column.within k.column.here k.known
                (unequal_unmirrored (in_order_lem g) k.column short above opposite_col opposite_row
                (λ m. r (sym word_cursor ∙ m ∙ word_here)));
          }

    -- the entry at the cursor is neither passed nor opposite: entry i is faulty
    pub cursor_misses : is_passed l o ≡ false → is_opposite l o ≡ false → AtCursor s z (i + 1) due l.second (record { cursor = c.cursor; first = min c.first at })
    unfolding column_less
    cursor_misses u v =
        record {
          column = column_missing (in_order_lem g)
              (column_less (in_order_lem g) k.column (min c.first at) (omega arith)) short above apart (omega arith);
          known = with_unmirrored i short w k.known
              (entry_unmirrored (in_order_lem g) k.column short above apart);
        }
      where
        apart : Below l.second (entry_of (held s) x) → (entry_of (held s) i).col < (entry_of (held s) x).row
        apart b = go (ltb o.second l.first) (eqb o.second l.first) refl refl
          where
            first : eqb o.first l.second ≡ true
            first = eq-eqb o.first l.second (sym col_cursor ∙ b.0)

            go : (p r : Bool) → ltb o.second l.first ≡ p → eqb o.second l.first ≡ r → (entry_of (held s) i).col < (entry_of (held s) x).row
            go true r f d = absurd (false≢true (sym u ∙ simp (first, lt-ltb l.second o.second (omega (arith, row_cursor, b.1)), f)))
            go false true f d = absurd (false≢true (sym v ∙ simp (first, d)))
            go false false f d = omega (arith, col_here, row_cursor, ltb-false o.second l.first f, eqb-false o.second l.first d)

-- what `skip_passed` knows: the cursor has moved on from where it was, past lines that are faulty
pub record Skipping (s : List ℕ) (i due : ℕ) (l : Line) (at₀ first₀ at first : ℕ) (o : Line) : Type 0 where
  pub read : o ≡ pair_line zz_tag s at
  pub low : first ≤ first₀
  pub moved : (z : Starts) (n : ℕ) → Given s z n → i < n → l ≡ pair_line zz_tag s (place_of s z i) → l.second < l.first
      → AtCursor s z i due l.second (record { cursor = at₀; first = first₀ }) → AtCursor s z i due l.second (record { cursor = at; first = first })

pub skipping_start : {s : List ℕ} {i due : ℕ} {l : Line} {at first : ℕ} {o : Line} → o ≡ pair_line zz_tag s at → Skipping s i due l at first at first o
skipping_start e = record { read = e; low = omega arith; moved = λ z n g h q b k. k }

module _ {s : List ℕ} {i due : ℕ} {l : Line} {at₀ first₀ at first : ℕ} {o : Line} (c : Skipping s i due l at₀ first₀ at first o) where
  pub skipping_on : {v : Bool} {less : ℕ} {next : Line} → v ≡ is_passed l o → v ≡ true → less ≡ min first at → next ≡ pair_line zz_tag s o.next
      → Skipping s i due l at₀ first₀ o.next less next
  skipping_on {v} {less} told taken e r =
      record {
        read = r;
        low = omega (arith, c.low);
        moved = λ z n g h q b k. rw e (cursor_skips g h refl q b (c.moved z n g h q b k) c.read (sym told ∙ taken));
      }

  module _ {z : Starts} {n : ℕ} (g : Given s z n) (h : i < n) (q : l ≡ pair_line zz_tag s (place_of s z i)) (b : l.second < l.first)
      (k : AtCursor s z i due l.second (record { cursor = at₀; first = first₀ })) where
    pub skipping_less : length s - o.next < length s - at
    skipping_less = omega (arith, cursor_ends g h refl q b (c.moved z n g h q b k) c.read)

    pub skipping_end : {v : Bool} → v ≡ is_passed l o → v ≡ false
        → AtCursor s z i due l.second (record { cursor = at; first = first }) × (o ≡ pair_line zz_tag s at) × (is_passed l o ≡ false) × (first ≤ first₀)
    skipping_end told left = (c.moved z n g h q b k, c.read, sym told ∙ left, c.low)
