-- The parts of the result list: inside it, apart, and all of it.
use Prim.Native.Nat.{ℕ, zero, suc, ◌+◌, ◌*◌, ◌≤◌, ◌<◌}
use mathlib.Core.Path.{◌≡◌, refl, sym, ap, ap₂, ◌∙◌}
use mathlib.Core.List.{List, [], ◌∷◌, ◌++◌, append_assoc, append-nil}
use mathlib.Core.Logic.{◌⊎◌, inl, inr, by_cases}
use native.Mathlib.Decide.{dec_lt}
use native.Mathlib.Nat.{mul-le-mul_right, zero-mul, zero-add}
use native.Mathlib.Omega.{arith}
use borrow.Author.Tests.{eq-eqb, ne_eqb}
use lib.ListN.{length, take, drop}
use lib.Seq.{take-add, take_all, drop-drop}
use lib.Ieee.{Float}
use Rattle.storage.specs.Runs.{start, triangle, tab}
use Rattle.storage.specs.Part.{part}
use Rattle.storage.proofs.Starts.{start_triangle}
use Rattle.layout.specs.declared.Layout.{Layout}
use Rattle.heading_format.specs.Heading.{layout_of}
use Rattle.profile.specs.Finish.{flattened, result_length, beta, b_vector, u_vector, fixed_factor, w_of, result_list}
use Rattle.solution_vectors.specs.result_places.Places.{b_at, u_at, lx_at, response_at, w_at, result_length_of, Solved}
use Rattle.layout.specs.Shapes.{last_rows}

module _ (y : Layout) where
  -- document 01's formula
  pub length_formula : result_length_of y ≡ result_length y
  length_formula = omega (arith, start_triangle y.p)

  -- ---- the places of w

  pub response_at_lem : w_at y y.p ≡ response_at y
  response_at_lem = rw (eq-eqb y.p y.p refl) refl

  pub column_at_lem : (r : ℕ) → r < y.p → w_at y r ≡ response_at y + y.q + r * y.q
  column_at_lem r h = rw (ne_eqb r y.p (λ e. omega arith)) refl

  column_end : (r s : ℕ) → r < s → r * y.q + y.q ≤ s * y.q
  column_end r s h = let g : suc r ≤ s = h in omega (arith, mul-le-mul_right y.q g)

  pub solved_behind : (r : ℕ) → r ≤ y.p → response_at y ≤ w_at y r
  solved_behind r h =
      by_cases (dec_lt r y.p) (λ l. omega (arith, column_at_lem r l)) (λ l. let e : r ≡ y.p = omega arith in rw e (omega (arith, response_at_lem)))

  pub solved_inside : (r : ℕ) → r ≤ y.p → w_at y r + y.q ≤ result_length_of y
  solved_inside r h =
      by_cases (dec_lt r y.p) (λ l. omega (arith, column_at_lem r l, column_end r y.p l))
      (λ l. let e : r ≡ y.p = omega arith in rw e (omega (arith, response_at_lem)))

  pub solved_apart : (r s : ℕ) → r ≤ y.p → s ≤ y.p → (r ≡ s → ⊥) → (w_at y r + y.q ≤ w_at y s) ⊎ (w_at y s + y.q ≤ w_at y r)
  solved_apart r s h g n =
      by_cases (dec_lt r y.p)
      (λ l. by_cases (dec_lt s y.p)
      (λ m. by_cases (dec_lt r s) (λ u. inl (omega (arith, column_at_lem r l, column_at_lem s m, column_end r s u)))
      (λ u. let v : s < r = omega (arith, n) in inr (omega (arith, column_at_lem r l, column_at_lem s m, column_end s r v))))
      (λ m. let e : s ≡ y.p = omega arith in rw e (inr (omega (arith, column_at_lem r l, response_at_lem)))))
      (λ l. let e : r ≡ y.p = omega arith in let m : s < y.p = omega (arith, n) in rw e (inl (omega (arith, column_at_lem s m, response_at_lem))))

-- ---- all of it

module _ {A : Type 0} where
  -- two parts, one behind the other
  part_join : (a m n : ℕ) (v : List A) → part a m v ++ part (a + m) n v ≡ part a (m + n) v
  part_join a m n v =
      ap (λ (x : List A). part a m v ++ take n x) (sym (drop-drop m a v)) ∙ sym (take-add m n (drop a v))

  part_next : (m n : ℕ) (v : List A) → part 0 m v ++ part m n v ≡ part 0 (m + n) v
  part_next m n v = ap (λ (a : ℕ). part 0 m v ++ part a n v) (sym (zero-add m)) ∙ part_join 0 m n v

-- one list more
pub flattened_snoc : (l : List (List Float)) (x : List Float) → flattened (l ++ (x ∷ [])) ≡ flattened l ++ x
unfolding flattened
flattened_snoc [] x = append-nil x
flattened_snoc (z ∷ l) x = ap (λ (t : List Float). z ++ t) (flattened_snoc l x) ∙ sym (append_assoc z (flattened l) x)

columns_are : (f : ℕ → List Float) (a q n : ℕ) (v : List Float) → ((r : ℕ) → r < n → part (a + r * q) q v ≡ f r) → part a (n * q) v ≡ flattened (tab n f)
unfolding flattened tab
columns_are f a q zero v h = ap (λ (m : ℕ). part a m v) (zero-mul q)
columns_are f a q (suc n) v h =
    let e : suc n * q ≡ n * q + q = omega arith in
    ap (λ (m : ℕ). part a m v) e ∙ sym (part_join a (n * q) q v)
    ∙ ap₂ (λ (x z : List Float). x ++ z) (columns_are f a q n v (λ r l. h r (omega arith))) (h n (omega arith)) ∙ sym (flattened_snoc (tab n f) (f n))

module _ (h : List ℕ) (w : List Float) (y : Layout) (e : y ≡ layout_of h) (v : List Float) (long : length v ≡ result_length_of y) where
  -- a list with every part in its place is the result list
  pub whole : part 0 y.p v ≡ beta h w → part (b_at y) y.q v ≡ b_vector h w → part (u_at y) y.q v ≡ u_vector h w
      → part (lx_at y) (start triangle y.p) v ≡ flattened (fixed_factor h w) → Solved h w y (last_rows y) v → v ≡ result_list h w
  unfolding result_list
  whole b₁ b₂ b₃ b₄ s =
      let six : part (response_at y + y.q) (y.p * y.q) v ≡ flattened (tab y.p (w_of h w)) =
      columns_are (w_of h w) (response_at y + y.q) y.q y.p v (λ r l. ap (λ (a : ℕ). part a y.q v) (sym (column_at_lem y r l)) ∙ s r (omega arith)) in
      let five : part (response_at y) y.q v ≡ w_of h w y.p = ap (λ (a : ℕ). part a y.q v) (sym (response_at_lem y)) ∙ s y.p (omega arith) in
      let all : part 0 (result_length_of y) v ≡ v = take_all (result_length_of y) v (omega arith) in
      sym all ∙ sym (part_next (response_at y + y.q) (y.p * y.q) v)
      ∙ ap₂ (λ (x z : List Float). x ++ z)
      (sym (part_next (response_at y) y.q v)
      ∙ ap₂ (λ (x z : List Float). x ++ z)
      (sym (part_next (lx_at y) (start triangle y.p) v)
      ∙ ap₂ (λ (x z : List Float). x ++ z)
      (sym (part_next (u_at y) y.q v)
      ∙ ap₂ (λ (x z : List Float). x ++ z) (sym (part_next y.p y.q v) ∙ ap₂ (λ (x z : List Float). x ++ z) b₁ b₂) b₃)
      b₄)
      five)
      six
      ∙ rw (sym e) refl
