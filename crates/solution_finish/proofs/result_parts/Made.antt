-- beta, u and b made one after the other: the list is the definition's, and so are the scalars.
use Prim.Native.Nat.{ℕ, ◌+◌, ◌*◌, ◌≤◌}
use mathlib.Core.Path.{◌≡◌, ap, ap₂, subst, ◌∙◌}
use mathlib.Core.Bool.{Bool, true}
use mathlib.Core.List.{List}
use mathlib.Core.Logic.{inl, inr}
use native.Mathlib.Omega.{arith}
use lib.ListN.{length}
use lib.Ieee.{Float}
use Rattle.storage.specs.Runs.{start, triangle}
use Rattle.storage.specs.Shape.{packed, size_of}
use Rattle.storage.specs.Part.{part}
use Rattle.rules.specs.Arithmetic.{ieee}
use Rattle.rules.specs.Cholesky.{cell_of as entry_of}
use Rattle.rules.specs.Finish.{deviance_of}
use Rattle.re_factor.specs.Factor.{pivot_at}
use Rattle.layout.specs.declared.Layout.{Layout}
use Rattle.heading_format.specs.Heading.{layout_of, valid_layout}
use Rattle.profile.specs.declared.Solution.{Solution}
use Rattle.profile.specs.Deviance.{freedom}
use Rattle.profile.specs.Finish.{flattened, fixed_factor, u_vector}
use Rattle.solution_vectors.specs.Vectors.{with_vector}
use Rattle.deviance.specs.deviance_tail.Tail.{log_determinant_of}
use Rattle.deviance.proofs.deviance_value.Values.{value_same}
use Rattle.solution_finish.specs.l_x.Factor.{triangle_at}
use Rattle.solution_finish.specs.beta.Beta.{Effects}
use Rattle.solution_finish.specs.u_vector.Offsets.{offsets_left}
use Rattle.solution_finish.specs.b_vector.Effects.{effect_blocks}
use Rattle.solution_vectors.specs.result_places.Places.{b_at, u_at, lx_at, response_at, w_at, result_length_of, Solved}
use Rattle.solution_vectors.proofs.result_places.Bounds.{few_effects}
use Rattle.solution_vectors.proofs.result_places.Parts.{response_at_lem, solved_behind, whole}
use Rattle.solution_finish.specs.result_laws.Ready.{Ready}
use Rattle.solution_finish.proofs.result_laws.Beta.{same_pivots, beta_long, beta_part, beta_else, beta_right}
use Rattle.solution_finish.proofs.result_laws.Offsets.{u_length, u_else, u_are}
use Rattle.solution_finish.proofs.result_laws.Effects.{b_length, b_else, b_are}
use Rattle.solution_finish.specs.result_parts.Finished.{Finished, scalars_with}
use Rattle.layout.specs.Shapes.{last_rows}

module _ (h : List ℕ) (w : List Float) (y : Layout) (e : y ≡ layout_of h) (v : List Float) (ready : Ready h w y v) (v₁ : List Float) (r : Float)
    (b : Effects (lx_at y) y.p v v₁ r) where
  long₁ : length v₁ ≡ result_length_of y
  long₁ = beta_long h w y e v ready v₁ r b

  solved₁ : Solved h w y (last_rows y) v₁
  solved₁ x l = beta_else h w y e v ready v₁ r b (w_at y x) y.q (omega (arith, solved_behind y x (omega arith))) ∙ ready.solved x l

  module _ (ok : valid_layout y ≡ true) (v₂ v₃ : List Float) (u : v₂ ≡ offsets_left (u_at y) (response_at y) (response_at y + y.q) y.q y.p v₁)
      (x : v₃ ≡ with_vector y (b_at y) (effect_blocks h w y v₂) v₂) where
    long₂ : length v₂ ≡ result_length_of y
    long₂ = u_length y v₁ v₂ long₁ u ∙ long₁

    -- a part behind u is as it was before u and b were made
    behind : (off n : ℕ) → lx_at y ≤ off → part off n v₃ ≡ part off n v₁
    behind off n l = b_else h w y ok v₂ v₃ long₂ x off n (inr (omega arith)) ∙ u_else y v₁ v₂ long₁ u off n (inr l)

    factor₃ : part (lx_at y) (start triangle y.p) v₃ ≡ flattened (fixed_factor h w)
    factor₃ =
        behind (lx_at y) (start triangle y.p) (omega arith) ∙ beta_else h w y e v ready v₁ r b (lx_at y) (start triangle y.p) (omega arith)
        ∙ ready.factor

    offsets₂ : part (u_at y) y.q v₂ ≡ u_vector h w
    offsets₂ = u_are h w y e v₁ v₂ long₁ solved₁ (beta_part h w y e v ready v₁ r b) u

    made : Finished h w y v₃ r
    made =
        record {
          whole =
              whole h w y e v₃ (b_length h w y ok v₂ v₃ long₂ x ∙ long₂)
              (b_else h w y ok v₂ v₃ long₂ x 0 y.p (inl (omega arith)) ∙ u_else y v₁ v₂ long₁ u 0 y.p (inl (omega arith))
              ∙ beta_part h w y e v ready v₁ r b)
              (b_are h w y e ok v₂ v₃ long₂ offsets₂ x)
              (b_else h w y ok v₂ v₃ long₂ x (u_at y) y.q (inr (omega arith)) ∙ offsets₂)
              factor₃
              (λ z l. behind (w_at y z) y.q (omega (arith, solved_behind y z (omega arith))) ∙ solved₁ z l);
          factor = factor₃;
          answer = beta_right h w y e v ready v₁ r b;
        }

-- ---- at the places that the functions work out
pub beta_ready : (y : Layout) → valid_layout y ≡ true → (v : List Float) → length v ≡ result_length_of y → (f : ℕ) → f ≡ lx_at y
    → (y.p ≤ 32) × (y.p ≤ length v) × (f + size_of (packed y.p) ≤ length v)
beta_ready y ok v long f is_f = (few_effects y ok, omega arith, omega arith)

module _ (h : List ℕ) (w : List Float) (y : Layout) (v v₁ : List Float) (f t : ℕ) (is_f : f ≡ lx_at y) (is-t : t ≡ w_at y y.p) where
  -- there is room for u, behind it w of y, behind that the columns
  pub u_ready : y ≡ layout_of h → Ready h w y v → (r : Float) → Effects f y.p v v₁ r
      → (y.p ≤ y.p + y.q) × (y.p + y.q + y.q ≤ t) × (t + y.q ≤ t + y.q) × (t + y.q + y.p * y.q ≤ length v₁)
  u_ready e ready r b =
      let long : length v₁ ≡ result_length_of y = beta_long h w y e v ready v₁ r (subst (λ (k : ℕ). Effects k y.p v v₁ r) is_f b) in
      (omega arith, omega (arith, response_at_lem y), omega arith, omega (arith, response_at_lem y))

  pub finished : y ≡ layout_of h → valid_layout y ≡ true → Ready h w y v → (r : Float) → Effects f y.p v v₁ r → (v₂ v₃ : List Float)
      → v₂ ≡ offsets_left (y.p + y.q) t (t + y.q) y.q y.p v₁ → v₃ ≡ with_vector y (b_at y) (effect_blocks h w y v₂) v₂ → Finished h w y v₃ r
  finished e ok ready r b v₂ v₃ u x =
      made h w y e v ready v₁ r (subst (λ (k : ℕ). Effects k y.p v v₁ r) is_f b) ok v₂ v₃
      (u ∙ ap (λ (k : ℕ). offsets_left (u_at y) k (k + y.q) y.q y.p v₁) (is-t ∙ response_at_lem y)) x

-- ---- the scalars
module _ (h : List ℕ) (w : List Float) (reml : Bool) (r2 : Float) where
  abbrev pair : Float → Float → Solution
  pair a s = record { deviance = a; sigma2 = s }

  -- by a layout that equals the heading's
  abbrev scalars_by : Layout → Solution
  scalars_by z =
      let s = ieee.over r2 (freedom z reml) in
      pair (deviance_of ieee reml (freedom z reml) s (log_determinant_of z w) (λ i. entry_of ieee (fixed_factor h w) i i) z.p) s

  pub scaled : (y : Layout) → y ≡ layout_of h → (v : List Float) → part (lx_at y) (start triangle y.p) v ≡ flattened (fixed_factor h w) → (d logdet : Float) (f : ℕ)
      → d ≡ freedom y reml → logdet ≡ log_determinant_of y w → f ≡ lx_at y → (a : Float) → a ≡ deviance_of ieee reml d (ieee.over r2 d) logdet (pivot_at (triangle_at f y.p) v) y.p
      → record { deviance = a; sigma2 = ieee.over r2 d } ≡ scalars_with h w reml r2
  scaled y e v is d logdet f is-d is-l is_f a q =
      ap₂ pair
      (q ∙ ap (λ (k : ℕ). deviance_of ieee reml d (ieee.over r2 d) logdet (pivot_at (triangle_at k y.p) v) y.p) is_f
      ∙ value_same reml d (ieee.over r2 d) logdet y.p (pivot_at (triangle_at (lx_at y) y.p) v) (λ i. entry_of ieee (fixed_factor h w) i i) (same_pivots h w y e v is)
      ∙ ap₂ (λ (x z : Float). deviance_of ieee reml x (ieee.over r2 x) z (λ i. entry_of ieee (fixed_factor h w) i i) y.p) is-d is-l)
      (ap (ieee.over r2) is-d)
      ∙ ap scalars_by e
