-- The turns of the loop that reads theta lines: the doubles so far, and those of the lines that are left, are those of all lines.
use Rattle.std.specs.Prelude.{Ok, Err}
use Prim.Native.Nat.{ℕ, zero, suc, ◌≤◌, ◌<◌, ◌-◌, ◌+◌}
use mathlib.Core.Path.{◌≡◌, refl, sym, ◌∙◌, ap}
use mathlib.Core.List.{List, [], ◌∷◌, ◌++◌, append-nil}
use native.Mathlib.Omega.{arith}
use native.Mathlib.Numerals.{add-one}
use lib.ListN.{length, take, set, length-set}
use lib.Ieee.{Float}
use Rattle.sheet.specs.declared.Line.{Line}
use Rattle.sheet.specs.declared.LineStart.{LineStart}
use Rattle.sheet.specs.declared.SheetRefusal.{SheetRefusal}
use Rattle.sheet.specs.Line.{single_line}
use Rattle.sheet.specs.Run.{Cursor, cursor_at, reached, Run, pass_of, lines_of, row_from, rows_from}
use Rattle.sheet.proofs.Lines.{grid_length}
use Rattle.workspace.specs.Loaded.{double}
use Rattle.sheet_reader.proofs.line_verdict.Runs.{ok_reached, Rows, rows_start, ones_refused, ones_next, rows_end}
use Rattle.factor_output.specs.Program.{theta_tag, theta_verdict, theta_lines}

-- with cell i set, the first i + 1 cells are those before i and what is set
set_next : {A : Type 0} (i : ℕ) (w : List A) (x : A) (r : List A) → i < length w → take (suc i) (set w i x) ++ r ≡ take i w ++ (x ∷ r)
set_next i [] x r h = absurd (omega arith)
set_next zero (y ∷ w) x r h = refl
set_next (suc i) (y ∷ w) x r h = ap (λ (t : List _). y ∷ t) (set_next i w x r (omega arith))

-- what is kept of a line
abbrev pub theta_in : ℕ → Line → Float
theta_in line l = double l.word

-- the lines from index i to k - 1, from the cursor c on
abbrev pub theta_from : List ℕ → ℕ → ℕ → Cursor → Run Float
theta_from s i k c = lines_of (single_line theta_tag s) theta_verdict theta_in (rows_from (λ r. 1) i (k - i)) c

-- the first of them, and the others
from_next : (s : List ℕ) (i k : ℕ) (c d : Cursor) (l : Line) (x : Float) → i < k → l ≡ single_line theta_tag s c.at → x ≡ double l.word
    → d ≡ pass_of c (theta_verdict (i, 0) l) l.next → (theta_from s i k c).items ≡ x ∷ (theta_from s (i + 1) k d).items
unfolding lines_of rows_from row_from
from_next s i k c d l x h p q r =
    let m : k - i ≡ suc (k - (i + 1)) = omega arith in
    rw (q, r, p, m)

-- of the k lines from c₀ on, i are read and c is reached; w holds their doubles, and was w₀
pub record PartRead (s : List ℕ) (k : ℕ) (c₀ : Cursor) (w₀ : List Float) (i : ℕ) (c : Cursor) (w : List Float) : Type 0 where
  pub within : i ≤ k
  pub fits : k ≤ length w
  pub same_length : length w ≡ length w₀
  pub rows : Rows (single_line theta_tag s) theta_verdict theta_in (λ r. 1) (theta_lines s k c₀).past i k c
  pub items : take i w ++ (theta_from s i k c).items ≡ (theta_lines s k c₀).items

module _ {s : List ℕ} {k : ℕ} {c₀ : Cursor} {w₀ : List Float} where
  -- none is read yet
  pub part_start : c₀.line + k < 9223372036854775808 → k ≤ 8 → 8 ≤ length w₀ → PartRead s k c₀ w₀ 0 c₀ w₀
  part_start h g f =
      let z : k - 0 ≡ k = omega arith in
      record { within = omega arith; fits = omega arith; same_length = refl; rows = rows_start (omega (arith, grid_length 1 0 k)); items = rw z }

  module _ {i : ℕ} {p : LineStart} {w : List Float} (e : PartRead s k c₀ w₀ i (cursor_at p) w) where
    -- where a next line is due, its place is there
    part_place : i < k → i < length w
    part_place h = omega (arith, e.fits)

    module _ {l : Line} (h : i < k) (q : l ≡ single_line theta_tag s p.at) where
      -- a refused line ends the reading
      pub part_refused : {f : SheetRefusal} → Err f ≡ reached (pass_of (cursor_at p) (theta_verdict (i, 0) l) l.next) → Err f ≡ reached (theta_lines s k c₀).past
      part_refused r = ones_refused e.rows h q r

      -- one line more
      pub part_next : {x : Float} {next : LineStart} → x ≡ double l.word → Ok next ≡ reached (pass_of (cursor_at p) (theta_verdict (i, 0) l) l.next)
          → PartRead s k c₀ w₀ (i + 1) (cursor_at next) (set w i x)
      part_next {x} {next} d r =
          let n = from_next s i k (cursor_at p) (cursor_at next) l x h q d (sym (ok_reached _ _ r)) in
          record {
            within = omega arith;
            fits = omega (arith, e.fits, length-set w i x);
            same_length = length-set w i x ∙ e.same_length;
            rows = ones_next e.rows h q r;
            items = rw add-one (set_next i w x (theta_from s (suc i) k (cursor_at next)).items (part_place h) ∙ ap (λ (t : List Float). take i w ++ t) (sym (rw add-one at n)) ∙ e.items);
          }

    -- where none is left, w holds the doubles of all
    module _ (h : k ≤ i) where
      pub part_past : Ok p ≡ reached (theta_lines s k c₀).past
      part_past = rows_end e.rows h

      pub part_all : take k w ≡ (theta_lines s k c₀).items
      unfolding lines_of rows_from
      part_all =
          let n : i ≡ k = omega (arith, e.within) in
          let z : k - k ≡ 0 = omega arith in
          sym (append-nil (take k w)) ∙ rw (n, z) at e.items
