-- Where a target's stage stands, and the tests of a step by its name.
use Prim.Native.Nat.{ℕ, zero, suc, ◌+◌, ◌*◌, ◌/◌, ◌≤◌, ◌<◌}
use mathlib.Core.Path.{◌≡◌, refl, sym, ap, subst, ◌∙◌}
use mathlib.Core.Bool.{Bool, true, false, ◌&&◌}
use native.Mathlib.Nat.{mul-le-mul}
use native.Mathlib.Omega.{arith}
use borrow.Author.Tests.{le-leb}
use lib.Dec.{ltb, leb}
use Rattle.storage.specs.Runs.{start, triangle}
use Rattle.storage.proofs.Starts.{start_triangle}
use Rattle.step_order.specs.Steps.{IsStep, forerunners}
use Rattle.step_order.specs.Progress.{all, done}
use Rattle.update.specs.declared.StepName.{StepName}
use Rattle.update.specs.declared.StepName.TheVariants.{S as Subtract, C as Factor, T as Solve}
use Rattle.update.specs.Names.{step_of_name}
use Rattle.heading_format.specs.Parts.{most_targets}

-- ---- the place of a target

pub row_product : (i : ℕ) → i ≤ 8 → i * (i + 1) ≤ 72
row_product i h = let g : i + 1 ≤ 9 = omega arith in omega (arith, mul-le-mul h g)

pub place_at : (i j : ℕ) → j ≤ i → i ≤ 8 → (i * (i + 1) / 2 + j ≡ start triangle i + j) × (i * (i + 1) / 2 + j < most_targets)
place_at i j g h = (omega (arith, start_triangle i), omega (arith, row_product i h))

-- ---- the tests

-- at least one more is more
more : (h s : ℕ) → leb (suc h) s ≡ ltb h s
more h s = refl

-- a last test that always passes
last : (b : Bool) → b ≡ (b && true)
last true = refl
last false = refl

both_last : (a b : Bool) → (a && b) ≡ (a && (b && true))
both_last a b = ap (λ (x : Bool). a && x) (last b)

-- S(i, j, h)
module _ {name : StepName} {i j h : ℕ} (e : name ≡ Subtract i j h) where
  pub subtract_named : IsStep 8 (step_of_name name) → (h < j) × (j ≤ i) × (i ≤ 8)
  subtract_named n = subst (λ (x : StepName). IsStep 8 (step_of_name x)) e n

  module _ (g : ℕ → ℕ → ℕ) {s : ℕ} (is : s ≡ g i j) where
    pub subtract_done : ltb h s ≡ done g (step_of_name name)
    subtract_done = ap (ltb h) is ∙ sym (ap (λ (x : StepName). done g (step_of_name x)) e)

    pub subtract_forerun : {a b : ℕ} → a ≡ g i h → b ≡ g j h → (leb h s && (ltb h a && ltb h b)) ≡ all (done g) (forerunners (step_of_name name))
    subtract_forerun {a} {b} is-a is_b =
        rw (is, is-a, is_b) (go h refl) ∙ sym (ap (λ (x : StepName). all (done g) (forerunners (step_of_name x))) e)
      where
        go : (x : ℕ) → x ≡ h → (leb h (g i j) && (ltb h (g i h) && ltb h (g j h))) ≡ all (done g) (forerunners (step_of_name (Subtract i j h)))
        go zero q = rw (← q) (ap (λ (x : Bool). x && (ltb 0 (g i 0) && ltb 0 (g j 0))) (le-leb 0 (g i j) (omega arith)) ∙ both_last (ltb 0 (g i 0)) (ltb 0 (g j 0)))
        go (suc x) q = rw (← q) (ap (λ (z : Bool). ltb x (g i j) && z) (both_last (ltb (suc x) (g i (suc x))) (ltb (suc x) (g j (suc x)))))

-- C(j)
module _ {name : StepName} {j : ℕ} (e : name ≡ Factor j) where
  pub factor_named : IsStep 8 (step_of_name name) → j ≤ 8
  factor_named n = subst (λ (x : StepName). IsStep 8 (step_of_name x)) e n

  module _ (g : ℕ → ℕ → ℕ) {s : ℕ} (is : s ≡ g j j) where
    pub factor_done : ltb j s ≡ done g (step_of_name name)
    factor_done = ap (ltb j) is ∙ sym (ap (λ (x : StepName). done g (step_of_name x)) e)

    pub factor_forerun : leb j s ≡ all (done g) (forerunners (step_of_name name))
    factor_forerun = ap (leb j) is ∙ go j refl ∙ sym (ap (λ (x : StepName). all (done g) (forerunners (step_of_name x))) e)
      where
        go : (x : ℕ) → x ≡ j → leb j (g j j) ≡ all (done g) (forerunners (step_of_name (Factor j)))
        go zero q = rw (← q) (le-leb 0 (g 0 0) (omega arith))
        go (suc x) q = rw (← q) (last (ltb x (g (suc x) (suc x))))

-- T(i, j)
module _ {name : StepName} {i j : ℕ} (e : name ≡ Solve i j) where
  pub solve_named : IsStep 8 (step_of_name name) → (j < i) × (i ≤ 8)
  solve_named n = subst (λ (x : StepName). IsStep 8 (step_of_name x)) e n

  module _ (g : ℕ → ℕ → ℕ) {s : ℕ} (is : s ≡ g i j) where
    pub solve_done : ltb j s ≡ done g (step_of_name name)
    solve_done = ap (ltb j) is ∙ sym (ap (λ (x : StepName). done g (step_of_name x)) e)

    pub solve_forerun : {d : ℕ} → d ≡ g j j → (ltb j d && leb j s) ≡ all (done g) (forerunners (step_of_name name))
    solve_forerun {d} is-d = rw (is, is-d) (go j refl) ∙ sym (ap (λ (x : StepName). all (done g) (forerunners (step_of_name x))) e)
      where
        go : (x : ℕ) → x ≡ j → (ltb j (g j j) && leb j (g i j)) ≡ all (done g) (forerunners (step_of_name (Solve i j)))
        go zero q = rw (← q) (ap (λ (z : Bool). ltb 0 (g 0 0) && z) (le-leb 0 (g i 0) (omega arith)))
        go (suc x) q = rw (← q) (both_last (ltb (suc x) (g (suc x) (suc x))) (ltb x (g i (suc x))))
