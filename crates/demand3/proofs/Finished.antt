-- "Whatever the steps' order and whatever was abandoned or refused before, a finished update leaves the factor and log determinant that document 01's begin
-- and the Rust's order give a freshly loaded workspace with the same loaded numbers and theta"; and no divisor is 0.
use Prim.Native.Nat.{ℕ, suc, ◌≤◌, ◌<◌}
use mathlib.Core.Path.{◌≡◌, refl, sym, ap, ap₂, subst, ◌∙◌}
use mathlib.Core.Bool.{Bool, true, false, true≢false}
use mathlib.Core.List.{List}
use mathlib.Core.Option.{Option, none, some}
use native.Mathlib.Omega.{arith}
use lib.Dec.{eqb}
use lib.Ieee.{Float}
use borrow.Author.Tests.{eqb-true, eq-eqb, ltb-true}
use Rattle.storage.specs.Shape.{Shape}
use Rattle.step_order.specs.Steps.{Step, C}
use Rattle.step_order.specs.Elimination.{value}
use Rattle.step_order.specs.Progress.{steps_left}
use Rattle.step_order.proofs.Left.{none_left}
use Rattle.rules.specs.Arithmetic.{ieee}
use Rattle.sheet.specs.Sheet.{Sheet}
use Rattle.layout.specs.declared.Layout.{Layout}
use Rattle.heading_format.specs.declared.State.TheVariants.{UnderWay, Finished}
use Rattle.layout.specs.Shapes.{pick, shape, last_shape, response_row}
use Rattle.layout.proofs.Rows.{shape_factor}
use Rattle.heading_format.specs.Heading.{layout_of, entry_row, stage_of}
use Rattle.workspace.specs.Memory.{Workspace, working_block, cell_of}
use Rattle.workspace.specs.Load.{heading_of}
use Rattle.update.specs.Working.{pivot_count}
use Rattle.book.specs.Book.{Book, book, layout, last, book_state, book_set}
use Rattle.book.specs.Values.{rules_here, start_here, final_value}
use Rattle.profile.specs.Deviance.{last_block_pivot}
use Rattle.demand3.specs.Demand.{factor_of, FinishedClaim}
use Rattle.rules.proofs.Doubles.{never_null, root_of_accepted, square_above}
use Rattle.demand3.proofs.pivot_laws.Final.{RootOf, factor_shape, final_pivot}
use Rattle.demand3.proofs.invariant.Invariant.{Site, Invariant}
use Rattle.demand3.proofs.invariant.Site.{layout_of_lem, alike, loaded_many}
use Rattle.demand3.proofs.step_laws.Finished.{finished_factor, finished_sum, finished_none}
use Rattle.demand3.proofs.step_laws.Rust.{rust_answer, answer_for, rust_factor, rust_sum}

module _ (sheet : Sheet) (h : List ℕ) (w : List Float) (here : Site sheet h w) (loaded theta : List Float) (d : Step → Bool) (v : Workspace)
    (s : Invariant sheet h w (book loaded theta (some d)) v) where
  same : layout_of v.heading ≡ layout sheet
  same = layout_of_lem sheet h w here (book loaded theta (some d)) v s

  -- the heading of a fresh workspace has the sheet's layout
  fresh_is : layout_of (heading_of sheet (layout sheet)) ≡ layout sheet
  fresh_is = (alike sheet h w here (book loaded theta (some d)) v s).fresh_layout

  -- the shape of factor j is the sheet's
  same_shape : (j : ℕ) → factor_of v j ≡ factor_shape sheet loaded theta here.layout_valid fresh_is j
  same_shape j =
      ap (λ (y : Layout). shape y (entry_row v.heading) j j) same
      ∙ shape_factor (layout sheet) (entry_row v.heading) (entry_row (heading_of sheet (layout sheet))) j

  -- where C(j) is done, each pivot of its factor is the root of a double that is not refused
  pivot_root : (j : ℕ) → j ≤ last sheet → d (C j) ≡ true → (r : ℕ) → r < pivot_count (factor_of v j) → RootOf (cell_of (factor_of v j) (working_block v.heading v.doubles j j) r r)
  pivot_root j l t r small =
      let H = s.updating.1.held in
      let a : j < stage_of s.progress j j = ltb-true j (stage_of s.progress j j) (sym (s.updating.1.represents (C j) l) ∙ t) in
      let e : stage_of s.progress j j ≡ suc j = omega (arith, H.most j j (omega arith) l) in
      let is : working_block v.heading v.doubles j j ≡ final_value sheet loaded theta j j =
      H.blocks j j (omega arith) l ∙ ap (λ (x : ℕ). value (rules_here sheet loaded theta) (start_here sheet loaded theta) x j j) e in
      let f =
      final_pivot sheet loaded theta here.layout_valid fresh_is j l (H.passed j ((H.counted j l).1 e)) r (subst (λ (x : Shape). r < pivot_count x) (same_shape j) small) in
      subst RootOf (sym (ap₂ (λ (x : Shape) (y : List Float). cell_of x y r r) (same_shape j) is)) f

  -- with no step left
  module _ (left : steps_left (last sheet) d ≡ 0) where
    -- the last triangle's shape
    last_shape_lem : factor_of v (last sheet) ≡ last_shape (layout_of v.heading)
    unfolding shape
    last_shape_lem = let q : last sheet ≡ (layout_of v.heading).k = ap (λ (y : Layout). y.k) (sym same) in rw (eq-eqb (last sheet) (layout_of v.heading).k q) refl

    -- its pivots are such roots, those of the fixed effects and the response's behind them
    pub last_pivot : (r : ℕ) → r ≤ response_row (layout sheet) → RootOf (last_block_pivot v.heading v.doubles false r)
    last_pivot r l =
        let q : (layout_of v.heading).k ≡ last sheet = ap (λ (y : Layout). y.k) same in
        let small : r < pivot_count (factor_of v (last sheet)) =
        subst (λ (x : Shape). r < pivot_count x) (sym last_shape_lem) (omega (arith, ap (λ (y : Layout). y.p) same)) in
        subst RootOf (ap₂ (λ (x : Shape) (k : ℕ). cell_of x (working_block v.heading v.doubles k k) r r) last_shape_lem (sym q))
        (pivot_root (last sheet) (omega arith) ((none_left (last sheet) d).0 left (C (last sheet)) (omega arith)) r small)

    pub claim : FinishedClaim sheet (book loaded theta (some d)) v
    claim =
        let g = s.updating.1 in
        let many = loaded_many sheet h w here (book loaded theta (some d)) v s in
        let not_refused = finished_none sheet h w loaded theta d v s left in
        record {
          accepts = rust_answer sheet h w here loaded theta many g.theta_many g.theta_finite ∙ ap answer_for not_refused;
          factor =
              λ i j m n. finished_factor sheet h w loaded theta d v s left i j m n
              ∙ sym (rust_factor sheet h w here loaded theta many g.theta_many g.theta_finite not_refused i j m n);
          determinant =
              ap (ieee.times ieee.two)
              (finished_sum sheet h w loaded theta d v s left ∙ sym (rust_sum sheet h w here loaded theta many g.theta_many g.theta_finite not_refused));
          scale =
              let p = last_pivot (response_row (layout sheet)) (omega arith) in
              ap (λ (x : Float). ieee.refused (ieee.times x x)) p.is ∙ square_above p.x p.double p.accepted;
        }

-- a set whose state is finished has no step left
pub no_step_left : (sheet : Sheet) (d : Step → Bool) → book_state sheet (some d) ≡ Finished → steps_left (last sheet) d ≡ 0
no_step_left sheet d = decide (eqb (steps_left (last sheet) d) 0) refl
  where
    decide : (t : Bool) → eqb (steps_left (last sheet) d) 0 ≡ t → pick t Finished UnderWay ≡ Finished → steps_left (last sheet) d ≡ 0
    decide true q f = eqb-true (steps_left (last sheet) d) 0 q
    decide false q f = absurd (let z : ◌≡◌ {A = ℕ} 0 1 = cc in omega arith)

module _ (sheet : Sheet) (h : List ℕ) (w : List Float) (here : Site sheet h w) (b : Book) (v : Workspace) where
  -- ---- no divisor is 0
  divisor : (o : Option (Step → Bool)) → Invariant sheet h w (book b.loaded b.theta o) v → (j r : ℕ) → j ≤ last sheet → book_set sheet o (C j) ≡ true → r < pivot_count (factor_of v j)
      → ieee.null (cell_of (factor_of v j) (working_block v.heading v.doubles j j) r r) ≡ false
  divisor none s j r l t small = absurd (true≢false (sym t))
  divisor (some d) s j r l t small =
      let p = pivot_root sheet h w here b.loaded b.theta d v s j l t r small in
      ap ieee.null p.is ∙ never_null (ieee.root p.x) (root_of_accepted p.x p.double p.accepted)

  pub divisors : Invariant sheet h w b v → (j r : ℕ) → j ≤ last sheet → book_set sheet b.done (C j) ≡ true → r < pivot_count (factor_of v j)
      → ieee.null (cell_of (factor_of v j) (working_block v.heading v.doubles j j) r r) ≡ false
  divisors = divisor b.done

  -- ---- a finished update
  finished_at : (o : Option (Step → Bool)) → Invariant sheet h w (book b.loaded b.theta o) v → book_state sheet o ≡ Finished → FinishedClaim sheet (book b.loaded b.theta o) v
  finished_at none s f = absurd (let z : ◌≡◌ {A = ℕ} 0 1 = cc in omega arith)
  finished_at (some d) s f = claim sheet h w here b.loaded b.theta d v s (no_step_left sheet d f)

  pub finished : Invariant sheet h w b v → book_state sheet b.done ≡ Finished → FinishedClaim sheet b v
  finished = finished_at b.done
