-- The places of words, way out by way out of the code; their bounds; and one line more of a run.
use Prim.Native.Nat.{ℕ, suc, ◌+◌, ◌-◌, ◌*◌, ◌/◌, ◌%◌, ◌≤◌, ◌<◌}
use mathlib.Core.Path.{◌≡◌, sym, ap, subst}
use mathlib.Core.Bool.{Bool, true, false, not, ◌&&◌, cond}
use mathlib.Core.List.{List}
use native.Mathlib.Nat.{mul-le-mul}
use native.Mathlib.Numerals.{add-one}
use native.Mathlib.Omega.{arith}
use lib.Dec.{T, eqb}
use lib.Ieee.{binary64, nan_bits}
use borrow.Author.Tests.{lt-ltb, le-ltb, eq-eqb, ne_eqb}
use Rattle.sheet.specs.declared.Line.{Line}
use Rattle.sheet.specs.Field.{nowhere, is_finite}
use Rattle.layout.specs.declared.Layout.{Layout}
use Rattle.layout.specs.Shapes.{levels, loaded_at, loaded_length, sum_at, last_rows}
use Rattle.heading_format.specs.Heading.{valid_layout}
use Rattle.workspace.specs.Loaded.{row_start, in_block}
use Rattle.block_places.proofs.block_sizes.Sizes.{doubles_small}
use Rattle.block_places.specs.sheet_rows.Blocks.{block_of_row}
use Rattle.block_places.proofs.sheet_rows.Rows.{block_in_lem}
use Rattle.load_numbers.specs.word_address.Spread.{EachLine, spread, entry_place, fixed_place}

module _ (y : Layout) where
  -- the block that is found has the row
  pub found : (x i : ℕ) → i ≡ block_of_row y y.k x → i < y.k → in_block y i x ≡ true
  found x i e h =
      subst (λ (b : ℕ). in_block y b x ≡ true) (sym e) (block_in_lem y y.k x (omega arith) (omega arith)).0

  module _ (col row i : ℕ) (e : i ≡ block_of_row y y.k row) where
    pub entry_none : y.k ≤ i → nowhere ≡ entry_place y col row
    unfolding entry_place
    entry_none h = rw (← e, le-ltb i y.k h)

    pub entry_own : i < y.k → col ≡ row → loaded_at y i i + (row - row_start y i) ≡ entry_place y col row
    unfolding entry_place
    entry_own h q = rw (← e, lt-ltb i y.k h, eq-eqb col row q)

    module _ (h : i < y.k) (q : col ≡ row → ⊥) (j : ℕ) (f : j ≡ block_of_row y y.k col) where
      pub entry_mirror : i ≤ j → nowhere ≡ entry_place y col row
      unfolding entry_place
      entry_mirror g = rw (← e, lt-ltb i y.k h, ne_eqb col row q, ← f, le-ltb j i g)

      pub entry_pair : j < i → loaded_at y i j + cond y.sparse (col - row_start y j) ((col - row_start y j) * levels y i + (row - row_start y i)) ≡ entry_place y col row
      unfolding entry_place
      entry_pair g = rw (← e, lt-ltb i y.k h, ne_eqb col row q, ← f, lt-ltb j i g)

  module _ (x r j : ℕ) (e : j ≡ block_of_row y y.k x) where
    pub fixed_none : y.k ≤ j → nowhere ≡ fixed_place y x r
    unfolding fixed_place
    fixed_none h = rw (← e, le-ltb j y.k h)

    pub fixed_row_lem : j < y.k → loaded_at y y.k j + ((x - row_start y j) * last_rows y + r) ≡ fixed_place y x r
    unfolding fixed_place
    fixed_row_lem h = rw (← e, lt-ltb j y.k h)

  -- the loaded doubles are few
  pub loaded_low : valid_layout y ≡ true → loaded_length y < 2199023255552
  unfolding sum_at
  loaded_low ok = omega (arith, doubles_small y ok)

pub pair_same : (b : Bool) (m : ℕ) {a a' c c' r r' o : ℕ} → a ≡ a' → c ≡ c' → r ≡ r' → o ≡ cond b c (c * m + r) → a + o ≡ a' + cond b c' (c' * m + r')
pair_same b m e f g q = rw (q, e, f, g)

pub cell_low : (c m r : ℕ) → c ≤ 65535 → m ≤ 65535 → r ≤ 65535 → c * m + r ≤ 4295032832
cell_low c m r h g f = omega (arith, mul-le-mul h g)

pub fixed_low : (c rows : ℕ) → c ≤ 65535 → rows ≤ 33 → c * rows ≤ 2162655
fixed_low c rows h k = omega (arith, mul-le-mul h k)

-- ---- one line of a run more

module _ {A : Type 0} (put : ℕ → Line → List A → List A) (read : ℕ → Line) where
  pub spread_none : (n i at : ℕ) (w : List A) → n ≡ 0 → spread put read n i at w ≡ w
  unfolding spread
  spread_none n i at w e = rw e

  -- n lines, and m behind the first
  pub spread_more : (n m i at : ℕ) (w : List A) (l : Line) → n ≡ suc m → l ≡ read at → spread put read n i at w ≡ spread put read m (i + 1) l.next (put i l w)
  unfolding spread
  spread_more n m i at w l q e = rw (q, add-one) (ap (λ (x : Line). spread put read m (suc i) x.next (put i x w)) (sym e))

module _ (P : Line → Type 0) (read : ℕ → Line) where
  pub each_first : (n m at : ℕ) (l : Line) → n ≡ suc m → l ≡ read at → EachLine P read n at → P l × EachLine P read m l.next
  each_first n m at l q e a = let b = subst (λ (x : ℕ). EachLine P read x at) q a in (subst P (sym e) b.0, subst (λ (x : Line). EachLine P read m x.next) (sym e) b.1)

-- ---- a finite word is no NaN's

no_nan_of : (a b : Bool) → not a ≡ true → T (not (a && b))
no_nan_of false b e = tt
no_nan_of true b e = absurd (let z : ◌≡◌ {A = ℕ} 0 1 = cc in omega arith)

pub finite_no_nan : (w : ℕ) → is_finite w ≡ true → T (not (nan_bits binary64 w))
unfolding is_finite nan_bits
finite_no_nan w e = no_nan_of (eqb (w % 9223372036854775808 / 4503599627370496) 2047) (not (eqb (w % 4503599627370496) 0)) e
