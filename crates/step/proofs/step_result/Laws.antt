-- A step that is ready: what it leaves of the doubles, and what it hands back.
use Prim.Native.Nat.{ℕ, suc, ◌+◌, ◌-◌, ◌≤◌, ◌<◌}
use mathlib.Core.Path.{◌≡◌, refl, sym, ap, ap₂, subst, ◌∙◌}
use mathlib.Core.Bool.{true}
use mathlib.Core.List.{List, [], ◌∷◌, ◌++◌, append_assoc}
use mathlib.Core.Logic.{inl}
use mathlib.Core.Option.{Option, none, some}
use native.Mathlib.Omega.{arith}
use native.Mathlib.Numerals.{add-one}
use lib.ListN.{length, get_or, take, drop, replicate, length-replicate}
use borrow.Rule.Slice.PartMut.{put_mid, Post-is}
use lib.Ieee.{Float}
use Rattle.refusal.specs.Numbers.{refuse}
use Rattle.storage.specs.Runs.{start, triangle}
use Rattle.storage.specs.Shape.{size_of}
use Rattle.storage.specs.Part.{part, store}
use Rattle.storage.proofs.Parts.{length_part, length_store, drop_store, part_else, store_behind}
use Rattle.storage.proofs.Blocks.{length_fill}
use Rattle.step_order.specs.Steps.{Step, S, C, T, row, col, index, IsStep}
use Rattle.rules.specs.Arithmetic.{ieee}
use Rattle.layout.specs.declared.Layout.{Layout}
use Rattle.heading_format.specs.declared.Progress.{Progress}
use Rattle.layout.specs.Shapes.{shape, sizes, theta_at, working_at, sum_at, doubles_needed, working_end}
use Rattle.heading_format.specs.Heading.{layout_of, progress_of, entry_row, valid_layout, idle}
use Rattle.heading_format.specs.Marked.{marked}
use Rattle.heading_format.proofs.Valid.{is_valid}
use Rattle.layout.proofs.Places.{size_working, working_behind, working_inside}
use Rattle.workspace.specs.Memory.{working_block, heading_with, working_zeros, cleared}
use Rattle.workspace.specs.Answers.{Outcome, workspace}
use Rattle.std.specs.Prelude.{Ok, Err}
use Rattle.re_lower.specs.declared.RefusedPivot.{RefusedPivot}
use Rattle.re_lower.specs.Lower.{Pivots}
use Rattle.re_lower.proofs.Blocks.{accepted_none, refused_some}
use Rattle.update.specs.declared.StepName.{StepName}
use Rattle.update.specs.Names.{step_of_name}
use Rattle.update.specs.Working.{subtracted}
use Rattle.update.specs.Calls.{advanced, made_by, sum_by, refused_by, stepped, on_pivot}
use Rattle.heading_format.specs.Fits.{Fits}
use Rattle.step_blocks.specs.factor_logs.Factors.{OwnBlock, Factors}
use Rattle.step_blocks.proofs.factor_logs.Sums.{kept}
use Rattle.step.specs.declared.step_result.StepResult.{StepResult}
use Rattle.step.specs.step_result.Applied.{moved_by, doubles_by, Applied}
use Rattle.update.proofs.Lengths.{length_solved}
use Rattle.std.specs.Prelude.{Result, Ok}
use Rattle.refusal.specs.declared.Refusal.{Refusal}

-- ---- stores

-- what is stored over a whole stored part stands alone
over : (w : List Float) (off : ℕ) (l : List Float) (off' : ℕ) (l' : List Float) → off + length l ≤ length w → off' ≤ off → off + length l ≤ off' + length l'
    → store off' l' (store off l w) ≡ store off' l' w
unfolding store
over w off l off' l' fits a b =
    ap₂ (λ (x y : List Float). x ++ l' ++ y) (part_else off l w fits 0 off' (inl (omega arith))) (drop_store off l w fits (off' + length l') b)

-- ---- +0.0 in every working double

-- a run that is filled
filled : (w : List Float) (a b : ℕ) → a ≤ b → b ≤ length w → {l : List Float} → l ≡ replicate (length (part a (b - a) w)) ieee.zero
    → put_mid a (b - a) w l ≡ store a (replicate (b - a) ieee.zero) w
unfolding store
filled w a b h g q =
    let n : length (part a (b - a) w) ≡ b - a = length_part a (b - a) w (omega arith) in
    let behind : b ≡ a + length (replicate (b - a) ieee.zero) = omega (arith, length-replicate (b - a) ieee.zero) in
    ap (put_mid a (b - a) w) (q ∙ ap (λ (k : ℕ). replicate k ieee.zero) n)
    ∙ ap (λ (l : List Float). take a w ++ (replicate (b - a) ieee.zero ++ l)) (Post-is a b w h ∙ ap (λ (k : ℕ). drop k w) behind)
    ∙ sym (append_assoc (take a w) (replicate (b - a) ieee.zero) (drop (a + length (replicate (b - a) ieee.zero)) w))

module _ (y : Layout) (ok : valid_layout y ≡ true) (w : List Float) (room : doubles_needed y ≤ length w) {from end : ℕ} (is-from : from ≡ theta_at y) (is-end : end ≡ working_end y) where
  pub theta_before : from < end
  unfolding sum_at
  theta_before = rw (is-from, is-end) (omega arith)

  pub working_fit : end ≤ length w
  working_fit = rw is-end room

  pub all_filled : {l : List Float} → l ≡ replicate (length (part from (end - from) w)) ieee.zero → put_mid from (end - from) w l ≡ cleared y w
  unfolding cleared working_zeros
  all_filled q = filled w from end (omega (arith, theta_before)) working_fit q ∙ ap₂ (λ (a b : ℕ). store a (replicate (b - a) ieee.zero) w) is-from is-end

abbrev both : Result Unit Refusal → Progress → StepResult
both a p = record { answer = a; progress = p }

module _ (h : List ℕ) (w : List Float) (y : Layout) (g : Progress) (fit : Fits y h (length w)) where
  pub few : y.k ≤ 8
  few = (is_valid y fit.valid).blocks.1

  -- ---- one step more

  one_more_lem : (s : Step) {place stage : ℕ} {p : Progress} → p ≡ marked g place stage → place ≡ start triangle (row s) + col s → stage ≡ suc (index s) → p ≡ advanced g s
  one_more_lem s e q r = rw (← q, ← r) e

  -- ---- S and T: their own block; the sum stands

  module _ (i j : ℕ) (below : j ≤ i) (last : i ≤ y.k) where
    own_inside : working_at y i j + sizes y i j ≤ sum_at y
    own_inside = working_inside y i j below last

    own_length : length (working_block h w i j) ≡ size_of (shape (layout_of h) (entry_row h) i j)
    own_length =
        length_part (working_at (layout_of h) i j) (size_of (shape (layout_of h) (entry_row h) i j)) w
        (rw (← fit.same) (omega (arith, size_working y (entry_row h) i j, own_inside, fit.room)))

    module _ (made : List Float) (long : length made ≡ size_of (shape (layout_of h) (entry_row h) i j)) where
      fits_own : length made ≡ sizes y i j
      fits_own = long ∙ rw (← fit.same) (size_working y (entry_row h) i j)

      sum_unchanged : store (sum_at y) (get_or w (sum_at y) ieee.zero ∷ []) (store (working_at y i j) made w) ≡ store (working_at y i j) made w
      sum_unchanged =
          let fits : working_at y i j + length made ≤ length w = omega (arith, fits_own, own_inside, fit.room) in
          ap (λ (x : Float). store (sum_at y) (x ∷ []) (store (working_at y i j) made w))
          (sym (store_behind (working_at y i j) made w fits ieee.zero (sum_at y) (omega (arith, fits_own, own_inside))))
          ∙ kept (store (working_at y i j) made w) (sum_at y) (omega (arith, length_store (working_at y i j) made w fits, fit.room))

  subtract_long : (i j x : ℕ) → length (made_by h w (S i j x)) ≡ size_of (shape (layout_of h) (entry_row h) i j)
  unfolding made_by subtracted
  subtract_long i j x = length_fill (shape (layout_of h) (entry_row h) i j) _

  solve_long : (i j : ℕ) → j ≤ i → i ≤ y.k → length (made_by h w (T i j)) ≡ size_of (shape (layout_of h) (entry_row h) i j)
  unfolding made_by
  solve_long i j a b =
      length_solved (shape (layout_of h) (entry_row h) i j) (shape (layout_of h) (entry_row h) j j) (working_block h w i j) (working_block h w j j) (own_length i j a b)

  module _ (w' : List Float) {place stage : ℕ} {p : Progress} (is-p : p ≡ marked g place stage) where
    pub subtract_applied : (i j x : ℕ) → IsStep y.k (S i j x) → place ≡ start triangle i + j → stage ≡ x + 1 → w' ≡ store (working_at y i j) (made_by h w (S i j x)) w
        → Applied y g h w w' (S i j x) (both (Ok tt) p)
    unfolding refused_by stepped sum_by
    subtract_applied i j x n e f q =
        record {
          moved = ap (both (Ok tt)) (one_more_lem (S i j x) is-p e (f ∙ add-one x));
          doubles = q ∙ sym (sum_unchanged i j n.1 n.2 (made_by h w (S i j x)) (subtract_long i j x)) ∙ rw fit.same refl;
        }

    pub solve_applied : (i j : ℕ) → IsStep y.k (T i j) → place ≡ start triangle i + j → stage ≡ j + 1 → w' ≡ store (working_at y i j) (made_by h w (T i j)) w
        → Applied y g h w w' (T i j) (both (Ok tt) p)
    unfolding refused_by stepped sum_by
    solve_applied i j n e f q =
        record {
          moved = ap (both (Ok tt)) (one_more_lem (T i j) is-p e (f ∙ add-one j));
          doubles = q ∙ sym (sum_unchanged i j below n.1 (made_by h w (T i j)) (solve_long i j below n.1)) ∙ rw fit.same refl;
        }
      where
        below : j ≤ i
        below = let a = n.0 in omega arith

    -- C: its own block and the sum
    pub factor_applied : (j : ℕ) → IsStep y.k (C j) → place ≡ start triangle j + j → stage ≡ j + 1 → (a : Pivots) → Factors y h w w' j a → a ≡ Ok tt
        → Applied y g h w w' (C j) (both (Ok tt) p)
    unfolding stepped
    factor_applied j n e f a t q =
        let o : refused_by h w (C j) ≡ none = accepted_none (refused_by h w (C j)) (sym q ∙ t.answer) in
        record {
          moved = ap (both (Ok tt)) (one_more_lem (C j) is-p e (f ∙ add-one j)) ∙ ap (moved_by y g (C j)) (sym o);
          doubles = t.accepted o ∙ after fit.same ∙ ap (doubles_by y h w (C j)) (sym o);
        }
      where
        after : y ≡ layout_of h → store (sum_at y) (sum_by h w (C j) ∷ []) (store (working_at y j j) (made_by h w (C j)) w) ≡ doubles_by y h w (C j) none
        after e = ap (λ (z : Layout). store (sum_at z) (sum_by h w (C j) ∷ []) (store (working_at z j j) (made_by h w (C j)) w)) e

  -- 26: what C left of its own block fit.same cleared with all else
  module _ (j : ℕ) (n : IsStep y.k (C j)) (w₁ : List Float) (a : Pivots) (t : Factors y h w w₁ j a) (x : RefusedPivot) (q : a ≡ Err x) where
    abbrev r : ℕ
    r = x.row

    row_is : refused_by h w (C j) ≡ some r
    row_is = refused_some (refused_by h w (C j)) r (sym q ∙ t.answer)

    kept_own : OwnBlock y w w₁ j
    kept_own = t.refused r row_is

    own_fits : working_at y j j + length kept_own.left ≤ length w
    own_fits = let f = kept_own.fits in omega (arith, own_inside j j (omega arith) n, fit.room)

    pub still_room : doubles_needed y ≤ length w₁
    still_room = rw kept_own.stands (omega (arith, length_store (working_at y j j) kept_own.left w own_fits, fit.room))

    cleared_same : cleared y w₁ ≡ cleared y w
    unfolding cleared working_zeros
    cleared_same =
        let f = kept_own.fits in
        ap (cleared y) kept_own.stands
        ∙ over w (working_at y j j) kept_own.left (theta_at y) (working_zeros y) own_fits (omega (arith, working_behind y j j (omega arith) n))
        (omega (arith, length-replicate (working_end y - theta_at y) ieee.zero, own_inside j j (omega arith) n))

    pub factor_refused : (w' : List Float) {p : Progress} → w' ≡ cleared y w₁ → p ≡ idle y.k → Applied y g h w w' (C j) (both (refuse 26 j r) p)
    factor_refused w' e f =
        record {
          moved = ap (both (refuse 26 j r)) f ∙ ap (moved_by y g (C j)) (sym row_is);
          doubles = e ∙ cleared_same ∙ ap (doubles_by y h w (C j)) (sym row_is);
        }

-- ---- the heading

module _ (h : List ℕ) (w : List Float) (y : Layout) (g : Progress) (s : Step) (is_y : y ≡ layout_of h) (is-g : g ≡ progress_of h) where
  abbrev written : StepResult → List Float → Outcome
  written n v = record { answer = n.answer; left = workspace (heading_with h n.progress) v }

  accepted_whole : written (moved_by y g s none) (doubles_by y h w s none) ≡ on_pivot h w none s
  unfolding stepped
  accepted_whole = ap (λ (z : Progress). written (moved_by y z s none) (doubles_by y h w s none)) is-g

  by_pivot : (m : StepResult) (w' : List Float) (o : Option ℕ) → m ≡ moved_by y g s o → w' ≡ doubles_by y h w s o → written m w' ≡ on_pivot h w o s
  by_pivot m w' none a b = ap₂ written a b ∙ accepted_whole
  by_pivot m w' (some r) a b = ap₂ written a b ∙ ap (λ (z : Layout). written (moved_by z g s (some r)) (doubles_by z h w s (some r))) is_y

  -- what fit.same left of a workspace
  pub ready_left : (h' : List ℕ) (w' : List Float) (m : StepResult) → Applied y g h w w' s m → h' ≡ heading_with h m.progress
      → record { answer = m.answer; left = workspace h' w' } ≡ on_pivot h w (refused_by h w s) s
  ready_left h' w' m t e =
      ap (λ (x : List ℕ). record { answer = m.answer; left = workspace x w' }) e ∙ by_pivot m w' (refused_by h w s) t.moved t.doubles

-- a step by its name
pub by_name : (y : Layout) (g : Progress) (h : List ℕ) (w : List Float) {w' : List Float} {m : StepResult} {name n : StepName} → name ≡ n → Applied y g h w w' (step_of_name n) m
    → Applied y g h w w' (step_of_name name) m
by_name y g h w {w'} {m} e t = subst (λ (x : StepName). Applied y g h w w' (step_of_name x) m) (sym e) t
