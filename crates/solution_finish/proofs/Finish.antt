-- The finish, step by step: what C asks and gives, and the two ways out.
use Prim.Native.Nat.{ℕ, ◌+◌, ◌≤◌}
use mathlib.Core.Path.{◌≡◌, sym, ap, ap₂, subst, ◌∙◌}
use mathlib.Core.Bool.{Bool, true}
use mathlib.Core.List.{List}
use mathlib.Core.Option.{none, some}
use native.Mathlib.Omega.{arith}
use lib.ListN.{length, replicate}
use lib.Ieee.{Float}
use Rattle.storage.specs.Shape.{packed, size_of}
use Rattle.rules.specs.Arithmetic.{ieee}
use Rattle.rules.specs.Sums.{dot}
use Rattle.rules.specs.Cholesky.{at}
use Rattle.std.specs.Prelude.{Ok, Err}
use Rattle.re_lower.specs.Lower.{Pivots}
use Rattle.re_lower.specs.declared.RefusedPivot.{RefusedPivot}
use Rattle.re_lower.proofs.Blocks.{accepted_none, refused_some}
use Rattle.re_factor.proofs.Pivotal.{Doubles}
use Rattle.layout.specs.declared.Layout.{Layout}
use Rattle.heading_format.specs.Heading.{layout_of, valid_layout}
use Rattle.refusal.specs.Numbers.{refusal}
use Rattle.profile.specs.declared.Solution.{Solution}
use Rattle.profile.specs.Finish.{cross_product, v_of, w_of, beta, fixed_rhs, sigma2, solution_of, result_list, refused_row}
use Rattle.solution_finish.specs.l_x.Factor.{triangle_at, FixedFactored}
use Rattle.solution_vectors.specs.result_places.Places.{lx_at, result_length_of, Products}
use Rattle.solution_vectors.proofs.result_places.Bounds.{few_effects}
use Rattle.solution_finish.specs.result_laws.Ready.{Ready}
use Rattle.solution_finish.proofs.result_laws.Factor.{factor_room, triangle_doubles, same_row, is_ready}
use Rattle.solution_finish.specs.result_parts.Finished.{Finished, scalars_with}
use Rattle.solution_finish.specs.Outcome.{finish_of}
use Rattle.std.specs.Prelude.{Result, Ok, Err}
use Rattle.refusal.specs.declared.Refusal.{Refusal}

-- ---- the two ways out
module _ (h : List ℕ) (w : List Float) (reml : Bool) (n : ℕ) where
  pub outcome_solved : none ≡ refused_row h w → (s : Solution) (v : List Float) → s ≡ solution_of h w reml → v ≡ result_list h w
      → (Ok s ≡ (finish_of h w reml n).answer) × (v ≡ (finish_of h w reml n).result)
  outcome_solved k s v a b = rw (← k) (ap Ok a, b)

  outcome_refused : (r : ℕ) → some r ≡ refused_row h w → (s : Result Solution Refusal) (v : List Float) → s ≡ Err (refusal 27 r 0) → v ≡ replicate n ieee.zero
      → (s ≡ (finish_of h w reml n).answer) × (v ≡ (finish_of h w reml n).result)
  outcome_refused r k s v a b = rw (← k) (a, b)

module _ (h : List ℕ) (w : List Float) (y : Layout) (e : y ≡ layout_of h) where
  -- the scalars with the residual are the solution's
  abbrev residual_by : Layout → Float
  residual_by z =
      ieee.minus (ieee.minus (cross_product h w z.p z.p) (dot ieee (at ieee (v_of h w z.p)) (at ieee (w_of h w z.p)) z.q))
      (dot ieee (at ieee (beta h w)) (fixed_rhs h w) z.p)

  pub solution_is : (reml : Bool) (rest r : Float) (s : Solution)
      → rest ≡ ieee.minus (cross_product h w y.p y.p) (dot ieee (at ieee (v_of h w y.p)) (at ieee (w_of h w y.p)) y.q)
      → (v : List Float) → Finished h w y v r → s ≡ scalars_with h w reml (ieee.minus rest r) → s ≡ solution_of h w reml
  unfolding solution_of sigma2
  solution_is reml rest r s is-rest v f q =
      q ∙ ap (scalars_with h w reml) (ap₂ ieee.minus is-rest f.answer ∙ ap residual_by e)

  module _ (v₁ : List Float) (long : length v₁ ≡ result_length_of y) (rest : Float) (c : Products h w y v₁ rest) (f : ℕ) (is_f : f ≡ lx_at y) where
    pub chol_ready : valid_layout y ≡ true → (y.p ≤ 316) × (f + size_of (packed y.p) ≤ length v₁) × Doubles (triangle_at f y.p) y.p v₁
    chol_ready ok =
        let k = few_effects y ok in
        (omega arith, rw is_f (factor_room h w y e v₁ long), rw is_f (triangle_doubles h w y e v₁ long c.triangle))

    module _ (v₂ : List Float) (p : Pivots) (d : FixedFactored f y.p v₁ v₂ p) where
      d' : FixedFactored (lx_at y) y.p v₁ v₂ p
      d' = subst (λ (k : ℕ). FixedFactored k y.p v₁ v₂ p) is_f d

      pub accept_ready : p ≡ Ok tt → Ready h w y v₂
      accept_ready a = is_ready h w y e v₁ long c.triangle c.solved c.right v₂ (d'.exit a)

      pub none_refused : p ≡ Ok tt → none ≡ refused_row h w
      none_refused a = sym (accepted_none _ (sym a ∙ d'.answer)) ∙ same_row h w y e v₁ long c.triangle

      -- the row of the first pivot that is not above 0
      pub finish_refused : (x : RefusedPivot) → p ≡ Err x → (reml : Bool) (n : ℕ) → length v₂ ≡ n → (s : Result Solution Refusal) (v : List Float) → s ≡ Err (refusal 27 x.row 0)
          → v ≡ replicate (length v₂) ieee.zero → (s ≡ (finish_of h w reml n).answer) × (v ≡ (finish_of h w reml n).result)
      finish_refused x a reml n m s v q z =
          outcome_refused h w reml n x.row (sym (refused_some _ x.row (sym a ∙ d'.answer)) ∙ same_row h w y e v₁ long c.triangle) s v q (z ∙ ap (λ (i : ℕ). replicate i ieee.zero) m)
