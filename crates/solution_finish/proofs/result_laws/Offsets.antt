-- u stands in its place once it is made of w, which stand in theirs, and of beta, which the list begins with.
use Prim.Native.Nat.{ℕ, ◌+◌, ◌*◌, ◌≤◌, ◌<◌}
use mathlib.Core.Path.{◌≡◌, refl, sym, ap, ap₂, ◌∙◌}
use mathlib.Core.List.{List}
use mathlib.Core.Logic.{◌⊎◌, inl, inr, ⊎_elim}
use native.Mathlib.Omega.{arith}
use lib.ListN.{length}
use lib.Ieee.{Float, nan}
use Rattle.storage.specs.Runs.{tab}
use Rattle.storage.specs.Part.{part}
use Rattle.storage.proofs.Cells.{any_default, length_tab, tab_ext}
use Rattle.storage.proofs.Parts.{get_or_part, length_store, part_same, part_else}
use Rattle.rules.specs.Arithmetic.{ieee}
use Rattle.rules.specs.Cholesky.{at}
use Rattle.rules.specs.Finish.{offset_of}
use Rattle.block_runs.specs.axpy.Axpy.{at as doubleAt}
use Rattle.block_runs.proofs.axpy.Sums.{sum_along, along_ext}
use Rattle.layout.specs.declared.Layout.{Layout}
use Rattle.heading_format.specs.Heading.{layout_of}
use Rattle.profile.specs.Finish.{w_of, beta, u_vector}
use Rattle.solution_vectors.specs.result_places.Places.{u_at, lx_at, response_at, w_at, result_length_of, Solved}
use Rattle.solution_vectors.proofs.result_places.Parts.{response_at_lem, column_at_lem, solved_inside}
use Rattle.solution_finish.specs.u_vector.Offsets.{offsets_left}
use Rattle.solution_finish.proofs.u_vector.Sums.{offset}
use Rattle.layout.specs.Shapes.{last_rows}

-- double i of a part that lies inside
read : (off n : ℕ) (v l : List Float) → off + n ≤ length v → part off n v ≡ l → (i k : ℕ) → i < n → k ≡ off + i → doubleAt v k ≡ at ieee l i
read off n v l fits e i k h is =
    ap (doubleAt v) is ∙ any_default v (off + i) nan ieee.zero (omega arith) ∙ sym (get_or_part off n v i ieee.zero h)
    ∙ ap (λ (z : List Float). at ieee z i) e

-- ---- what the store leaves alone

module _ (y : Layout) (v : List Float) where
  abbrev made : ℕ → Float
  made = offset (response_at y) (response_at y + y.q) y.q y.p v

  module _ (v' : List Float) (long : length v ≡ result_length_of y)
      (then : v' ≡ offsets_left (u_at y) (response_at y) (response_at y + y.q) y.q y.p v) where
    room : u_at y + length (tab y.q made) ≤ length v
    room = omega (arith, length_tab y.q made)

    pub u_length : length v' ≡ length v
    u_length = ap length then ∙ length_store (u_at y) (tab y.q made) v room

    -- what lies apart from u is as it was
    pub u_else : (off n : ℕ) → (off + n ≤ u_at y) ⊎ (lx_at y ≤ off) → part off n v' ≡ part off n v
    u_else off n apart =
        ap (part off n) then
        ∙ part_else (u_at y) (tab y.q made) v room off n (⊎_elim (λ l. inl l) (λ l. inr (omega (arith, length_tab y.q made))) apart)

    made_part : part (u_at y) y.q v' ≡ tab y.q made
    made_part = ap (part (u_at y) y.q) then ∙ part_same (u_at y) (tab y.q made) v room y.q (length_tab y.q made)

-- ---- u

module _ (h : List ℕ) (w : List Float) (y : Layout) where
  -- u of row i, by a layout that equals the heading's
  abbrev offset_by : ℕ → Float
  offset_by = offset_of ieee (at ieee (w_of h w y.p)) (λ j x. at ieee (w_of h w j) x) (at ieee (beta h w)) y.p

  u_by : y ≡ layout_of h → tab y.q offset_by ≡ u_vector h w
  unfolding u_vector
  u_by e =
      ap (λ (z : Layout). tab z.q (offset_of ieee (at ieee (w_of h w z.p)) (λ j x. at ieee (w_of h w j) x) (at ieee (beta h w)) z.p)) e

  module _ (v : List Float) (long : length v ≡ result_length_of y) (s : Solved h w y (last_rows y) v) (b : part 0 y.p v ≡ beta h w) where
    -- double i of w of row r
    row_at : (r : ℕ) → r ≤ y.p → (i k : ℕ) → i < y.q → k ≡ w_at y r + i → doubleAt v k ≡ at ieee (w_of h w r) i
    row_at r l = read (w_at y r) y.q v (w_of h w r) (omega (arith, solved_inside y r l)) (s r (omega arith))

    offset_is : (i : ℕ) → i < y.q → made y v i ≡ offset_by i
    offset_is i l =
        ap₂ ieee.minus (row_at y.p (omega arith) i (response_at y + i) l (omega (arith, response_at_lem y)))
        (sym (sum_along ieee.zero (λ j. doubleAt v (response_at y + y.q + i + j * y.q)) (doubleAt v) y.p)
        ∙ along_ext ieee.plus ieee.zero ieee.zero _ _ _ _ y.p refl
        (λ j m. row_at j (omega arith) i (response_at y + y.q + i + j * y.q) l (omega (arith, column_at_lem y j m)))
        (λ j m. read 0 y.p v (beta h w) (omega arith) b j j m (omega arith))
        ∙ sum_along ieee.zero (λ j. at ieee (w_of h w j) i) (at ieee (beta h w)) y.p)

module _ (h : List ℕ) (w : List Float) (y : Layout) (e : y ≡ layout_of h) where
  pub u_are : (v v' : List Float) → length v ≡ result_length_of y → Solved h w y (last_rows y) v → part 0 y.p v ≡ beta h w
      → v' ≡ offsets_left (u_at y) (response_at y) (response_at y + y.q) y.q y.p v → part (u_at y) y.q v' ≡ u_vector h w
  u_are v v' long s b then =
      made_part y v v' long then ∙ tab_ext y.q (made y v) (offset_by h w y) (offset_is h w y v long s b) ∙ u_by h w y e
