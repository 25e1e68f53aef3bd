-- The pivots that C leaves tell which radicand was not above 0.
use Prim.Native.Nat.{ℕ, zero, suc, ◌+◌, ◌-◌, ◌≤◌, ◌<◌}
use mathlib.Core.Path.{◌≡◌, refl, sym, ap, ap₂, subst, ◌∙◌}
use mathlib.Core.Bool.{Bool, true, false, not}
use mathlib.Core.List.{List, [], ◌++◌, append-nil}
use mathlib.Core.Option.{Option, none, some}
use mathlib.Core.Logic.{by_cases}
use native.Mathlib.Decide.{dec_lt}
use native.Mathlib.Nat.{add-zero}
use native.Mathlib.Numerals.{add-one}
use native.Mathlib.Omega.{arith}
use lib.ListN.{length, length-append, get_or}
use lib.Ieee.{Float, nan}
use lib.Seq.{take_all}
use Rattle.storage.specs.Runs.{start, triangle}
use Rattle.storage.specs.Shape.{packed, size_of, fill, cell}
use Rattle.storage.specs.Part.{part, store}
use Rattle.storage.specs.Placed.{block_of}
use Rattle.storage.proofs.Starts.{start_below, start_le}
use Rattle.storage.proofs.Parts.{part_in, part_left}
use Rattle.storage.proofs.Blocks.{length_fill, cell_fill}
use Rattle.rules.specs.Arithmetic.{ieee}
use Rattle.rules.specs.Cholesky.{left_of_pivot, factor, radicand, next, first_bad, pivots, finish_pivots}
use Rattle.rules.proofs.Rows.{pivot_root, none_bad, accepted_at, length_forward}
use Rattle.rules.proofs.Doubles.{Double, chain_fits, refused_not_above, above_not_refused, never_null, root_of_accepted, root_above_same}
use Rattle.std.specs.Prelude.{Ok, Err}
use Rattle.re_lower.specs.Lower.{Pivots, answer_of}
use Rattle.re_lower.specs.declared.RefusedPivot.{RefusedPivot}
use Rattle.re_lower.proofs.Blocks.{accepted_none, refused_some, row_below}
use Rattle.block_runs.specs.blocks.Blocks.{block}
use Rattle.block_runs.proofs.blocks.Laws.{has_packed, read_block}
use Rattle.re_factor.specs.Factor.{pivot_at, TriangleFactored}
use Rattle.re_factor.proofs.Pivotal.{Doubles}
use Rattle.solution_finish.specs.l_x.Factor.{triangle_at, not_above, first_not_above, FixedFactored}

-- ---- the first bad one of a list of numbers

-- looks at each number only by its test
pub first_same : (bad : Float → Bool) (f g : ℕ → Float) (n : ℕ) → ((r : ℕ) → r < n → bad (f r) ≡ bad (g r)) → first_bad ieee bad f n ≡ first_bad ieee bad g n
unfolding first_bad
first_same bad f g zero h = refl
first_same bad f g (suc n) h =
    ap₂ (λ (o : Option ℕ) (b : Bool). next ieee o b n) (first_same bad f g n (λ r l. h r (omega arith))) (h n (omega arith))

-- once found it stays
first_stays : (bad : Float → Bool) (g : ℕ → Float) (m n s : ℕ) → m ≤ n → first_bad ieee bad g m ≡ some s → first_bad ieee bad g n ≡ some s
unfolding first_bad
first_stays bad g m zero s h e = let z : m ≡ 0 = omega arith in rw z at e
first_stays bad g m (suc n) s h e =
    by_cases (dec_lt n m) (λ l. let z : m ≡ suc n = omega arith in rw z at e)
    (λ l. rw (first_stays bad g m n s (omega arith) e) refl)

-- one that is bad itself, and none before
first_here : (bad : Float → Bool) (g : ℕ → Float) (r : ℕ) → first_bad ieee bad g r ≡ none → bad (g r) ≡ true → first_bad ieee bad g (suc r) ≡ some r
unfolding first_bad
first_here bad g r e b = rw (e, b) refl

-- a pivot that was refused before, or else x
abbrev pub or_else : Pivots → RefusedPivot → Pivots
or_else (Ok u) x = Err x
or_else (Err y) x = Err y

-- the first of n, where number r is bad: that of the first r, or r
first_or : (bad : Float → Bool) (g : ℕ → Float) (r n : ℕ) → r < n → bad (g r) ≡ true → answer_of (first_bad ieee bad g n) ≡ or_else (answer_of (first_bad ieee bad g r)) (record { row = r })
first_or bad g r n h b = go (first_bad ieee bad g r) refl
  where
    go : (o : Option ℕ) → first_bad ieee bad g r ≡ o → answer_of (first_bad ieee bad g n) ≡ or_else (answer_of o) (record { row = r })
    go none e = ap answer_of (first_stays bad g (suc r) n r (omega arith) (first_here bad g r e b))
    go (some s) e = ap answer_of (first_stays bad g r n s (omega arith) e)

never_accepted : (p : Pivots) (x : RefusedPivot) → Ok tt ≡ or_else p x → ⊥
never_accepted (Ok u) x k = cc
never_accepted (Err y) x k = cc

-- the one that is found is bad
found_bad : (bad : Float → Bool) (g : ℕ → Float) (n r : ℕ) → first_bad ieee bad g n ≡ some r → bad (g r) ≡ true
unfolding first_bad
found_bad bad g zero r e = absurd (let z : ◌≡◌ {A = ℕ} 0 1 = cc in omega arith)
found_bad bad g (suc n) r e = step (λ k. found_bad bad g n r k) (first_bad ieee bad g n) refl (bad (g n)) refl e
  where
    step : (first_bad ieee bad g n ≡ some r → bad (g r) ≡ true) → (o : Option ℕ) → first_bad ieee bad g n ≡ o → (b : Bool) → bad (g n) ≡ b → next ieee o b n ≡ some r → bad (g r) ≡ true
    step before (some q) p b f e = before (p ∙ e)
    step before none p true f e = let z : n ≡ r = cc in subst (λ (x : ℕ). bad (g x) ≡ true) z f
    step before none p false f e = absurd (let z : ◌≡◌ {A = ℕ} 0 1 = cc in omega arith)

-- C: none is refused before the first one
none_before : (g : ℕ → Float) (n r : ℕ) → pivots ieee g n ≡ some r → pivots ieee g r ≡ none
none_before g n r e = go (pivots ieee g r) refl
  where
    go : (o : Option ℕ) → pivots ieee g r ≡ o → o ≡ none
    go none f = refl
    go (some s) f =
        let l : r < n = row_below ieee g n r e in
        let m : s < r = row_below ieee g r s f in
        let q : some r ≡ some s = sym e ∙ first_stays ieee.refused g r n s (omega arith) f in
        let z : r ≡ s = cc in
        absurd (omega arith)

-- what is not refused by the finish is not refused by C
not_refused_either : (x : Float) → not_above x ≡ false → ieee.refused x ≡ false
not_refused_either x e = above_not_refused x (unnegated (ieee.above x) e)
  where
    unnegated : (b : Bool) → not b ≡ false → b ≡ true
    unnegated true e = refl
    unnegated false e = sym e

-- Where the finish accepts, no pivot is 0, of either sign: no division by it is by 0.
pub pivots_never_null : (b : ℕ → ℕ → Float) (n : ℕ) → ((r : ℕ) → r < n → Double (b r r)) → finish_pivots ieee (radicand ieee b) n ≡ none
    → (r : ℕ) → r < n → ieee.null (factor ieee b n r r) ≡ false
pivots_never_null b n doubles e r h =
    ap ieee.null (pivot_root ieee b r n h)
    ∙ never_null (ieee.root (radicand ieee b r))
    (root_of_accepted (radicand ieee b r) (chain_fits (b r r) _ _ r (doubles r h)) (not_refused_either (radicand ieee b r) (none_bad ieee not_above (radicand ieee b) r n h e)))

-- ---- the pivots that stand

module _ (off n : ℕ) (v v' : List Float) (room : off + size_of (packed n) ≤ length v) (doubles : Doubles (triangle_at off n) n v) where
  abbrev b : ℕ → ℕ → Float
  b = block off (packed n) v

  abbrev g : ℕ → Float
  g = radicand ieee b

  radicand_fits : (r : ℕ) → r < n → Double (g r)
  radicand_fits r h = chain_fits (b r r) _ _ r (doubles r h)

  -- the first m rows of the factor stand at off, whatever follows them: their pivots are bad where their radicands are
  first_not_above_rows : (m : ℕ) → m ≤ n → (rest : List Float) → length rest ≤ start triangle n - start triangle m → v' ≡ store off (fill (packed m) (factor ieee b m) ++ rest) v
      → ((r : ℕ) → r < m → ieee.refused (g r) ≡ false) → first_not_above off m v' ≡ answer_of (first_bad ieee not_above g m)
  first_not_above_rows m h rest short e good =
      let l : List Float = fill (packed m) (factor ieee b m) in
      let k : length l ≡ start triangle m = length_fill (packed m) (factor ieee b m) in
      let le : start triangle m ≤ start triangle n = start_le triangle m n h in
      let t : length (l ++ rest) ≡ start triangle m + length rest = length-append l rest ∙ ap (λ (x : ℕ). x + length rest) k in
      let is : part off (size_of (packed m)) v' ≡ l =
      ap (part off (size_of (packed m))) e
      ∙ ap (λ (a : ℕ). part a (size_of (packed m)) (store off (l ++ rest) v)) (sym (add-zero off))
      ∙ part_in off (l ++ rest) v (omega arith) 0 (size_of (packed m)) (omega arith)
      ∙ part_left l rest 0 (size_of (packed m)) (omega arith) ∙ take_all (size_of (packed m)) l (omega arith) in
      ap answer_of
      (first_same not_above (pivot_at (triangle_at off m) v') g m
      (λ r q. ap not_above (ap (λ (x : List Float). cell ieee.zero (packed m) x r r) is ∙ cell_fill ieee.zero (packed m) (factor ieee b m) r r (has_packed m r r q (omega arith)) ∙ pivot_root ieee b r m q)
      ∙ ap not (root_above_same (g r) (radicand_fits r (omega arith)) (good r q))))

  -- C accepts
  pub accepted : (x : Pivots) → TriangleFactored (block_of off n n) v v' x → x ≡ Ok tt → (p : Pivots) → p ≡ first_not_above off n v' → FixedFactored off n v v' p
  accepted x done is_x p e =
      let c : TriangleFactored (block_of off n n) v v' (Ok tt) = subst (TriangleFactored (block_of off n n) v v') is_x done in
      record {
        answer = e ∙ first_not_above_rows n (omega arith) [] (omega arith) (c.exit ∙ ap (λ (l : List Float). store off l v) (sym (append-nil (fill (packed n) (factor ieee b n)))))
            (λ r h. accepted_at ieee g r n h (accepted_none (pivots ieee g n) c.answer));
        exit = λ q. c.exit;
      }

  -- C refuses row r
  pub refused : (x : Pivots) (y : RefusedPivot) → TriangleFactored (block_of off n n) v v' x → x ≡ Err y → (p q : Pivots) → p ≡ first_not_above off y.row v' → q ≡ or_else p y → FixedFactored off n v v' q
  refused x y done is_x p q e f =
      let r : ℕ = y.row in
      let c : TriangleFactored (block_of off n n) v v' (Err y) = subst (TriangleFactored (block_of off n n) v v') is_x done in
      let is : pivots ieee g n ≡ some r = refused_some (pivots ieee g n) r c.answer in
      let h : r < n = row_below ieee g n r is in
      let none_yet : pivots ieee g r ≡ none = none_before g n r is in
      let rest : List Float = left_of_pivot ieee b (factor ieee b r) r in
      let m : length rest ≡ r = length_forward ieee (b r) (factor ieee b r) r in
      let now : first_not_above off r v' ≡ answer_of (first_bad ieee not_above g r) =
      first_not_above_rows r (omega arith) rest (omega (arith, start_below triangle r n h)) c.exit (λ x l. accepted_at ieee g x r l none_yet) in
      record {
        answer = f ∙ ap (λ (z : Pivots). or_else z y) (e ∙ now) ∙ sym (first_or not_above g r n h (ap not (refused_not_above (g r) (found_bad ieee.refused g n r is))));
        exit = λ a. absurd (never_accepted (answer_of (first_bad ieee not_above g r)) y (sym a ∙ f ∙ ap (λ (z : Pivots). or_else z y) (e ∙ now)));
      }

  -- a refused row is one of the n, so the rows before it are there
  pub refused_room : (x : Pivots) (y : RefusedPivot) → TriangleFactored (block_of off n n) v v' x → x ≡ Err y → length v' ≡ length v → off + size_of (packed y.row) ≤ length v'
  refused_room x y c e long =
      let r : ℕ = y.row in
      let h : r < n = row_below ieee g n r (refused_some (pivots ieee g n) r (sym e ∙ c.answer)) in
      omega (arith, start_below triangle r n h)

-- ---- the scan: none of the first r pivots is bad, and pivot r lies at `at`

pub record Scanning (off n : ℕ) (v : List Float) (r at : ℕ) : Type 0 where
  pub within : r ≤ n
  pub fits : off + start triangle n ≤ length v
  pub place : at ≡ off + (start triangle r + r)
  pub none : first_bad ieee not_above (pivot_at (triangle_at off n) v) r ≡ none

pub scanning_none : (off n : ℕ) (v : List Float) → off + start triangle n ≤ length v → Scanning off n v 0 off
unfolding first_bad start
scanning_none off n v h = record { within = omega arith; fits = h; place = omega arith; none = refl }

module _ {off n : ℕ} {v : List Float} {r at : ℕ} (s : Scanning off n v r at) where
  pub scanning_all : n ≤ r → Ok tt ≡ first_not_above off n v
  scanning_all h = let e : n ≡ r = omega arith in sym (ap answer_of (ap (first_bad ieee not_above (pivot_at (triangle_at off n) v)) e ∙ s.none))

  module _ (more : r < n) where
    pub scanning_inside : at < length v
    scanning_inside = omega (arith, start_below triangle r n more, s.place, s.fits)

    pub scanning_cell : get_or v at nan ≡ pivot_at (triangle_at off n) v r
    scanning_cell = read_block (packed n) off v r r at (has_packed n r r more (omega arith)) s.fits s.place

    module _ (b : Bool) (test : b ≡ not_above (get_or v at nan)) where
      is_bad : not_above (pivot_at (triangle_at off n) v r) ≡ b
      is_bad = ap not_above (sym scanning_cell) ∙ sym test

      pub scanning_found : b ≡ true → Err (record { row = r }) ≡ first_not_above off n v
      scanning_found e =
          sym (ap answer_of (first_stays not_above (pivot_at (triangle_at off n) v) (suc r) n r more (first_here not_above (pivot_at (triangle_at off n) v) r s.none (is_bad ∙ e))))

      pub scanning_more : b ≡ false → Scanning off n v (r + 1) (at + (r + 2))
      unfolding start first_bad
      scanning_more e =
          record {
            within = omega arith;
            fits = s.fits;
            place = let e : start triangle (r + 1) ≡ start triangle r + suc r = rw add-one refl in omega (arith, s.place);
            none = rw (add-one, s.none, is_bad ∙ e) refl;
          }
