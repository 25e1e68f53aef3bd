-- The solves block by block: what stands after n blocks is a list of blocks of the right sizes, and the next one sets its own.
use Prim.Native.Nat.{ℕ, zero, suc, ◌+◌, ◌-◌, ◌≤◌, ◌<◌}
use mathlib.Core.Path.{◌≡◌, refl, sym, ap, ap₂, subst, ◌∙◌}
use mathlib.Core.Bool.{true}
use mathlib.Core.List.{List, [], ◌∷◌, ◌++◌, append-nil}
use native.Mathlib.Numerals.{add-one}
use native.Mathlib.Omega.{arith}
use lib.ListN.{length, take, drop, set, length-append, drop_of_length-le, get_or-append}
use lib.Seq.{take_all, get_or_at, drop_at, drop-cons, take-suc, set_at, append_snoc, length-take-le}
use lib.Ieee.{Float}
use Rattle.rules.specs.Arithmetic.{ieee}
use Rattle.rules.specs.Cholesky.{at}
use Rattle.layout.specs.declared.Layout.{Layout}
use Rattle.layout.specs.Shapes.{levels}
use Rattle.heading_format.specs.Heading.{valid_layout, layout_of}
use Rattle.workspace.specs.Memory.{working_block}
use Rattle.profile.specs.Solves.{
  block_in,
  factor_shape_of,
  forward_in,
  backward_in,
  subtract_first,
  subtract_later,
  forward_solved,
  backward_solved,
  solved_for,
}
use Rattle.solution_vectors.specs.Vectors.{blocks_at, with_vector, forward_made, backward_made, turned_forward, turned_backward, Sized}
use Rattle.solution_vectors.proofs.Vectors.{sized_set, sized_blocks, read_vector}
use Rattle.solution_vectors.proofs.solve_laws.Within.{factor_at, forward_inside, backward_inside}
use Rattle.solution_vectors.proofs.solve_laws.Folds.{first_ext}
use Rattle.solution_vectors.proofs.solve_laws.InTurn.{InTurn, turn_none, turn_more, vector_over}

module _ (h : List ℕ) (w : List Float) where
  -- forward, the first n blocks are solved
  abbrev pub forward_to : List (List Float) → ℕ → List (List Float)
  forward_to l n = forward_solved h w l n ++ drop n l

  length_solved : (l : List (List Float)) (n : ℕ) → length (forward_solved h w l n) ≡ n
  unfolding forward_solved
  length_solved l zero = refl
  length_solved l (suc n) = length-append (forward_solved h w l n) _ ∙ omega (arith, length_solved l n)

  forward_none : (l : List (List Float)) → forward_to l 0 ≡ l
  unfolding forward_solved
  forward_none l = refl

  forward_all : (l : List (List Float)) (n : ℕ) → length l ≡ n → forward_to l n ≡ forward_solved h w l n
  forward_all l n e = ap (λ (x : List (List Float)). forward_solved h w l n ++ x) (drop_of_length-le l {i = n} (omega arith)) ∙ append-nil (forward_solved h w l n)

  -- the next one sets its own
  forward_set : (l : List (List Float)) (n : ℕ) → n < length l → forward_to l (suc n) ≡ set (forward_to l n) n (forward_made h w n (forward_to l n) (block_in (forward_to l n) n))
  unfolding forward_solved
  forward_set l n lt =
      let z : List (List Float) = forward_solved h w l n in
      let many : length z ≡ n = length_solved l n in
      let split : forward_to l n ≡ z ++ block_in l n ∷ drop (suc n) l = ap (λ (x : List (List Float)). z ++ x) (drop-cons l n [] lt) in
      let own : block_in (forward_to l n) n ≡ block_in l n = ap (λ (x : List (List Float)). block_in x n) split ∙ get_or_at z (block_in l n) (drop (suc n) l) [] n many in
      let made : forward_made h w n (forward_to l n) (block_in (forward_to l n) n) ≡ forward_made h w n z (block_in l n) =
      ap (forward_in (factor_shape_of h w n) (working_block h w n n))
      (ap (λ (b : List Float). subtract_first h w n (forward_to l n) (at ieee b) n) own
      ∙ first_ext h w n (forward_to l n) z (at ieee (block_in l n)) n (λ j m. get_or-append z (drop n l) [] j (omega arith))) in
      sym
      (ap₂ (λ (x : List (List Float)) (b : List Float). set x n b) split made
      ∙ set_at z (block_in l n) (drop (suc n) l) (forward_made h w n z (block_in l n)) n many
      ∙ sym (append_snoc z (forward_made h w n z (block_in l n)) (drop (suc n) l)))

  -- backward, the last n blocks are solved
  abbrev pub backward_to : (k : ℕ) → List (List Float) → ℕ → List (List Float)
  backward_to k l n = take (k - n) l ++ backward_solved h w l n

  backward_none : (k : ℕ) (l : List (List Float)) → length l ≡ k → backward_to k l 0 ≡ l
  unfolding backward_solved
  backward_none k l e = append-nil (take (k - 0) l) ∙ take_all (k - 0) l (omega arith)

  backward_all : (k : ℕ) (l : List (List Float)) → backward_to k l k ≡ backward_solved h w l k
  backward_all k l = let e : k - k ≡ 0 = omega arith in ap (λ (i : ℕ). take i l ++ backward_solved h w l k) e

  module _ (y : Layout) (is : y ≡ layout_of h) where
    -- the next one sets its own
    backward_set : (l : List (List Float)) → length l ≡ y.k → (i n : ℕ) → i + suc n ≡ y.k
        → backward_to y.k l (suc n) ≡ set (backward_to y.k l n) i (backward_made h w i n (backward_to y.k l n) (block_in (backward_to y.k l n) i))
    unfolding backward_solved
    backward_set l e i n k =
        let rest : List (List Float) = backward_solved h w l n in
        let next : y.k - n ≡ suc i = omega arith in
        let this : y.k - suc n ≡ i = omega arith in
        let same : (layout_of h).k - suc n ≡ i = ap (λ (x : Layout). x.k - suc n) (sym is) ∙ this in
        let before : length (take i l) ≡ i = length-take-le i l (omega arith) in
        let to : backward_to y.k l n ≡ take (suc i) l ++ rest = ap (λ (x : ℕ). take x l ++ rest) next in
        let split : backward_to y.k l n ≡ take i l ++ block_in l i ∷ rest =
        to ∙ ap (λ (x : List (List Float)). x ++ rest) (take-suc l i [] (omega arith)) ∙ append_snoc (take i l) (block_in l i) rest in
        let own : block_in (backward_to y.k l n) i ≡ block_in l i = ap (λ (x : List (List Float)). block_in x i) split ∙ get_or_at (take i l) (block_in l i) rest [] i before in
        let made : backward_made h w i n (backward_to y.k l n) (block_in (backward_to y.k l n) i)
        ≡ backward_in (factor_shape_of h w i) (working_block h w i i) (subtract_later h w i rest (at ieee (block_in l i)) n) =
        ap₂ (λ (z : List (List Float)) (b : List Float). backward_in (factor_shape_of h w i) (working_block h w i i) (subtract_later h w i z (at ieee b) n))
        (ap (drop (suc i)) to ∙ drop_at (take (suc i) l) rest (suc i) (length-take-le (suc i) l (omega arith))) own in
        rw (this, same)
        (sym (ap₂ (λ (x : List (List Float)) (b : List Float). set x i b) split made ∙ set_at (take i l) (block_in l i) rest _ i before))

    -- ---- what a turn makes of a block has its size
    module _ (i : ℕ) (m : i < y.k) (z : List (List Float)) (b : List Float) where
      forward_size : length (forward_made h w i z b) ≡ levels y i
      forward_size = (forward_inside _ _ (factor_at h w y is i m) (working_block h w i i)).long _

      backward_size : (n : ℕ) → length (backward_made h w i n z b) ≡ levels y i
      backward_size n = (backward_inside _ _ (factor_at h w y is i m) (working_block h w i i)).long _

    module _ (ok : valid_layout y ≡ true) (l : List (List Float)) (e : Sized y l) where
      sized_forward_to : (n : ℕ) → n ≤ y.k → Sized y (forward_to l n)
      sized_forward_to zero m = rw (forward_none l) e
      sized_forward_to (suc n) m =
          let z : List (List Float) = forward_to l n in
          rw (forward_set l n (omega (arith, e.count)))
          (sized_set y ok z (sized_forward_to n (omega arith)) n _ m (forward_size n m z (block_in z n)))

      sized_backward_to : (n : ℕ) → n ≤ y.k → Sized y (backward_to y.k l n)
      sized_backward_to zero m = rw (backward_none y.k l e.count) e
      sized_backward_to (suc n) m =
          let i : ℕ = y.k - suc n in
          let z : List (List Float) = backward_to y.k l n in
          rw (backward_set l e.count i n (omega arith))
          (sized_set y ok z (sized_backward_to n (omega arith)) i _ (omega arith) (backward_size i (omega arith) z (block_in z i) n))

      pub sized_forward : Sized y (forward_solved h w l y.k)
      sized_forward = subst (Sized y) (forward_all l y.k e.count) (sized_forward_to y.k (omega arith))

      pub sized_backward : Sized y (backward_solved h w l y.k)
      sized_backward = subst (Sized y) (backward_all y.k l) (sized_backward_to y.k (omega arith))

    -- forward, then backward
    solved_as : (l : List (List Float)) → solved_for h w l ≡ backward_solved h w (forward_solved h w l y.k) y.k
    unfolding solved_for
    solved_as l = ap (λ (x : Layout). backward_solved h w (forward_solved h w l x.k) x.k) (sym is)

    pub sized_solved : valid_layout y ≡ true → (l : List (List Float)) → Sized y l → Sized y (solved_for h w l)
    sized_solved ok l e = rw (solved_as l) (sized_backward ok (forward_solved h w l y.k) (sized_forward ok l e))

  -- ---- the loops

  -- the blocks before i are solved
  pub record ForwardTurns (y : Layout) (from : ℕ) (v₀ v : List Float) (i : ℕ) : Type 0 where
    pub within : i ≤ y.k
    pub turn : InTurn y from v₀ (forward_to (blocks_at y from v₀) i) v

  -- the blocks from i on are solved
  pub record BackwardTurns (y : Layout) (from : ℕ) (v₀ v : List Float) (i : ℕ) : Type 0 where
    pub within : i ≤ y.k
    pub turn : InTurn y from v₀ (backward_to y.k (blocks_at y from v₀) (y.k - i)) v

  module _ {y : Layout} {from : ℕ} {v₀ : List Float} where
    pub forward_begin : valid_layout y ≡ true → from + y.q ≤ length v₀ → ForwardTurns y from v₀ v₀ 0
    forward_begin ok fits = record { within = omega arith; turn = rw (forward_none (blocks_at y from v₀)) (turn_none ok fits) }

    pub backward_begin : valid_layout y ≡ true → from + y.q ≤ length v₀ → BackwardTurns y from v₀ v₀ y.k
    backward_begin ok fits =
        let e : y.k - y.k ≡ 0 = omega arith in
        record { within = omega arith; turn = rw (e, backward_none y.k (blocks_at y from v₀) (sized_blocks y ok from v₀ fits).count) (turn_none ok fits) }

    module _ (is : y ≡ layout_of h) {v : List Float} where
      pub forward_turn : {i : ℕ} → ForwardTurns y from v₀ v i → i < y.k → {v' : List Float} → v' ≡ turned_forward h w y from i v → ForwardTurns y from v₀ v' (i + 1)
      forward_turn {i} e m then =
          let t = e.turn in
          let l : List (List Float) = blocks_at y from v₀ in
          let many = (sized_blocks y t.valid_layout from v₀ t.fits).count in
          let z : List (List Float) = forward_to l i in
          record {
            within = omega arith;
            turn = turn_more t i m (forward_made h w i) (forward_size y is i m z (block_in z i)) (ap (forward_to l) (add-one i) ∙ forward_set l i (omega arith)) then;
          }

      pub backward_turn : {i j : ℕ} → BackwardTurns y from v₀ v j → j ≡ suc i → {v' : List Float} → v' ≡ turned_backward h w y from i v → BackwardTurns y from v₀ v' i
      backward_turn {i} {j} e q then =
          let t = subst (λ (x : ℕ). InTurn y from v₀ (backward_to y.k (blocks_at y from v₀) (y.k - x)) v) q e.turn in
          let m : i < y.k = omega (arith, e.within) in
          let l : List (List Float) = blocks_at y from v₀ in
          let n : ℕ = y.k - suc i in
          let next : y.k - i ≡ suc n = omega arith in
          let z : List (List Float) = backward_to y.k l n in
          record {
            within = omega arith;
            turn =
                turn_more t i m (backward_made h w i n) (backward_size y is i m z (block_in z i) n)
                (ap (backward_to y.k l) next ∙ backward_set y is l (sized_blocks y t.valid_layout from v₀ t.fits).count i n (omega arith)) then;
          }

    module _ {v : List Float} {i : ℕ} where
      pub forward_result : ForwardTurns y from v₀ v i → y.k ≤ i → v ≡ with_vector y from (forward_solved h w (blocks_at y from v₀) y.k) v₀
      forward_result e m =
          let within = e.within in
          let t = e.turn in
          let l : List (List Float) = blocks_at y from v₀ in
          let all : i ≡ y.k = omega arith in
          t.same
          ∙ ap (λ (z : List (List Float)). with_vector y from z v₀) (ap (forward_to l) all ∙ forward_all l y.k (sized_blocks y t.valid_layout from v₀ t.fits).count)

      pub backward_result : BackwardTurns y from v₀ v i → i ≤ 0 → v ≡ with_vector y from (backward_solved h w (blocks_at y from v₀) y.k) v₀
      backward_result e m =
          let l : List (List Float) = blocks_at y from v₀ in
          let all : y.k - i ≡ y.k = omega arith in
          e.turn.same ∙ ap (λ (z : List (List Float)). with_vector y from z v₀) (ap (backward_to y.k l) all ∙ backward_all y.k l)

  -- ---- forward, then backward
  pub backsolved : (y : Layout) (is : y ≡ layout_of h) (ok : valid_layout y ≡ true) (from : ℕ) (v v₁ v₂ : List Float) → from + y.q ≤ length v
      → v₁ ≡ with_vector y from (forward_solved h w (blocks_at y from v) y.k) v → v₂ ≡ with_vector y from (backward_solved h w (blocks_at y from v₁) y.k) v₁
      → v₂ ≡ with_vector y from (solved_for h w (blocks_at y from v)) v
  backsolved y is ok from v v₁ v₂ fits p q =
      let l : List (List Float) = blocks_at y from v in
      let z : List (List Float) = forward_solved h w l y.k in
      let some : Sized y z = sized_forward y is ok l (sized_blocks y ok from v fits) in
      let read : blocks_at y from v₁ ≡ z = ap (blocks_at y from) p ∙ read_vector y ok from z some v fits in
      q ∙ ap₂ (λ (x : List (List Float)) (u : List Float). with_vector y from (backward_solved h w x y.k) u) read p
      ∙ vector_over y ok from v fits z (backward_solved h w z y.k) some (sized_backward y is ok z some)
      ∙ ap (λ (x : List (List Float)). with_vector y from x v) (sym (solved_as y is l))
