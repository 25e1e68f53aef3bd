-- A row more is solved: its w stands in its place, and those of the others stay in theirs.
use Prim.Native.Nat.{ℕ, ◌+◌, ◌≤◌}
use mathlib.Core.Path.{◌≡◌, ap, ap₂, ◌∙◌}
use mathlib.Core.Bool.{true}
use mathlib.Core.List.{List}
use mathlib.Core.Logic.{⊎_elim, inl, inr, by_cases}
use native.Mathlib.Decide.{dec_lt}
use native.Mathlib.Omega.{arith}
use lib.ListN.{length}
use lib.Ieee.{Float}
use Rattle.storage.specs.Part.{part}
use Rattle.layout.specs.declared.Layout.{Layout}
use Rattle.heading_format.specs.Heading.{valid_layout, layout_of}
use Rattle.profile.specs.Solves.{solved_for, scaled_row}
use Rattle.profile.specs.Finish.{in_sheet_order, w_of}
use Rattle.solution_vectors.specs.Vectors.{blocks_at, with_vector, Sized}
use Rattle.solution_vectors.proofs.Vectors.{length_vector, vector_rows, read_vector, vector_else}
use Rattle.solution_vectors.proofs.solve_laws.InTurn.{vector_over}
use Rattle.solution_vectors.proofs.solve_laws.Solves.{sized_solved}
use Rattle.solution_vectors.specs.result_places.Places.{w_at, result_length_of, Solved}
use Rattle.solution_vectors.proofs.result_places.Parts.{solved_inside, solved_apart}
use Rattle.layout.specs.Shapes.{last_rows}

-- w of row r, by a layout that equals the heading's
solved_row : (h : List ℕ) (w : List Float) (y : Layout) → y ≡ layout_of h → (r : ℕ) → in_sheet_order y (solved_for h w (scaled_row h w r)) y.k ≡ w_of h w r
unfolding w_of
solved_row h w y is r = ap (λ (x : Layout). in_sheet_order x (solved_for h w (scaled_row h w r)) x.k) is

-- the w of the first r rows stand in their places
pub record Rows (h : List ℕ) (w : List Float) (y : Layout) (v : List Float) (r : ℕ) : Type 0 where
  pub within : r ≤ last_rows y
  pub long : length v ≡ result_length_of y
  pub solved : Solved h w y r v

module _ {h : List ℕ} {w : List Float} {y : Layout} where
  -- the next one's place lies inside
  pub rows_room : {v : List Float} {r from : ℕ} → Rows h w y v r → r ≤ y.p → from ≡ w_at y r → from + y.q ≤ length v
  rows_room {v} {r} {from} e m at = omega (arith, solved_inside y r m, e.long)

  -- v of the row in the place of its w, and solved there
  pub rows_more : y ≡ layout_of h → valid_layout y ≡ true → {v v₁ v₂ : List Float} {r : ℕ} → Rows h w y v r → r ≤ y.p → (from : ℕ) → from ≡ w_at y r
      → Sized y (scaled_row h w r) → v₁ ≡ with_vector y from (scaled_row h w r) v → v₂ ≡ with_vector y from (solved_for h w (blocks_at y from v₁)) v₁
      → Rows h w y v₂ (r + 1)
  rows_more is ok {v} {v₁} {v₂} {r} e m from at sized p q =
      let l : List (List Float) = scaled_row h w r in
      let z : List (List Float) = solved_for h w l in
      let fits : from + y.q ≤ length v = rows_room e m at in
      let done : Sized y z = sized_solved h w y is ok l sized in
      let same : v₂ ≡ with_vector y from z v =
      q ∙ ap₂ (λ (x : List (List Float)) (u : List Float). with_vector y from (solved_for h w x) u) (ap (blocks_at y from) p ∙ read_vector y ok from l sized v fits) p
      ∙ vector_over y ok from v fits l z sized done in
      record {
        within = omega arith;
        long = ap length same ∙ length_vector y ok from z done v fits ∙ e.long;
        solved =
            λ s n. by_cases (dec_lt s r)
            (λ a. ap (part (w_at y s) y.q) same
            ∙ vector_else y ok from z done v fits (w_at y s) y.q
            (⊎_elim (λ b. inl (omega arith)) (λ b. inr (omega arith)) (solved_apart y s r (omega arith) m (λ b. omega arith)))
            ∙ e.solved s a)
            (λ a. let b : s ≡ r = omega arith in
            rw (b, ← at, same) (vector_rows y ok from z done v fits ∙ solved_row h w y is r));
      }

  pub rows_all : {v : List Float} {r n : ℕ} → Rows h w y v r → n ≤ r → Solved h w y n v
  rows_all e l s m = e.solved s (omega arith)
