-- A walk over the steps of an update: what a step comes to, loops over runs of steps, and what a whole walk has found.
use Prim.Native.Nat.{ℕ, zero, suc, ◌+◌, ◌-◌, ◌≤◌, ◌<◌}
use mathlib.Core.Path.{◌≡◌, refl, sym, ap, ap₂, ◌∙◌}
use mathlib.Core.Bool.{Bool, true, false, not, ◌&&◌, ◌||◌, cond}
use mathlib.Core.List.{List, [], ◌∷◌, ◌++◌}
use native.Mathlib.Nat.{add-zero}
use native.Mathlib.Omega.{arith}
use native.Mathlib.Numerals.{add-one}
use borrow.Author.Tests.{ltb-true, lt-ltb}
use lib.Dec.{ltb}
use Rattle.step_order.specs.Steps.{Step, S, C, T, forerunners, each}
use Rattle.step_order.specs.Progress.{all, done, outside}
use Rattle.heading_format.specs.Heading.{forerunners_done}
use Rattle.heading_check.proofs.order_check.Sheets.{assoc}
use Rattle.heading_check.specs.declared.stage_check.Walk.{Walk}
use Rattle.heading_check.specs.stage_check.Walk.{step_with, stepped, walked}

abbrev found : ℕ → Bool → Walk
found left valid = record { left = left; valid = valid }

and-true : (b : Bool) → b ≡ (b && true)
and-true true = refl
and-true false = refl

-- ---- the forerunners of a step that its own target has are done with it

guarded : (w : Walk) (d p r : Bool) → (d ≡ true → p ≡ true) → step_with w d r ≡ step_with w d (p && r)
guarded w true p r h = rw (h refl)
guarded w false p r h = refl

module _ (g : ℕ → ℕ → ℕ) (w : Walk) where
  -- a step of a target that is done has the one before it done
  earlier : (x n : ℕ) → ltb (suc x) n ≡ true → ltb x n ≡ true
  earlier x n e = let h = ltb-true (suc x) n e in lt-ltb x n (omega arith)

  step_s : (i j x : ℕ) → step_with w (ltb x (g i j)) (ltb x (g i x) && ltb x (g j x)) ≡ stepped g w (S i j x)
  unfolding stepped
  step_s i j zero = ap (λ (b : Bool). step_with w (ltb 0 (g i j)) (ltb 0 (g i 0) && b)) (and-true (ltb 0 (g j 0)))
  step_s i j (suc x) =
      ap (λ (b : Bool). step_with w (ltb (suc x) (g i j)) (ltb (suc x) (g i (suc x)) && b)) (and-true (ltb (suc x) (g j (suc x))))
      ∙ guarded w (ltb (suc x) (g i j)) (ltb x (g i j)) _ (earlier x (g i j))

  step_c : (j : ℕ) → step_with w (ltb j (g j j)) true ≡ stepped g w (C j)
  unfolding stepped
  step_c zero = refl
  step_c (suc j) = guarded w (ltb (suc j) (g (suc j) (suc j))) (ltb j (g (suc j) (suc j))) true (earlier j (g (suc j) (suc j)))

  step_t : (i j : ℕ) → step_with w (ltb j (g i j)) (ltb j (g j j)) ≡ stepped g w (T i j)
  unfolding stepped
  step_t i zero = ap (step_with w (ltb 0 (g i 0))) (and-true (ltb 0 (g 0 0)))
  step_t i (suc j) =
      guarded w (ltb (suc j) (g i (suc j))) (ltb j (g i (suc j))) (ltb (suc j) (g (suc j) (suc j))) (earlier j (g i (suc j)))
      ∙ ap (step_with w (ltb (suc j) (g i (suc j)))) (swap (ltb j (g i (suc j))) (ltb (suc j) (g (suc j) (suc j))))
    where
      swap : (a b : Bool) → (a && b) ≡ (b && (a && true))
      swap true true = refl
      swap true false = refl
      swap false true = refl
      swap false false = refl

-- a step, by the stages that were read
module _ (g : ℕ → ℕ → ℕ) (w : Walk) {r : Walk} {s : ℕ} where
  pub factored : (j : ℕ) → r ≡ step_with w (ltb j s) true → s ≡ g j j → r ≡ stepped g w (C j)
  factored j e p = rw (e, p) (step_c g w j)

  pub solved : {a : ℕ} (i j : ℕ) → r ≡ step_with w (ltb j s) (ltb j a) → s ≡ g i j → a ≡ g j j → r ≡ stepped g w (T i j)
  solved i j e p q = rw (e, p, q) (step_t g w i j)

  pub subtracted : {a b : ℕ} (i j x : ℕ) → r ≡ step_with w (ltb x s) (ltb x a && ltb x b) → s ≡ g i j → a ≡ g i x → b ≡ g j x → r ≡ stepped g w (S i j x)
  subtracted i j x e p q z = rw (e, p, q, z) (step_s g w i j x)

-- ---- lists one after the other

module _ (g : ℕ → ℕ → ℕ) where
  pub walked_append : (w : Walk) (a b : List Step) → walked g w (a ++ b) ≡ walked g (walked g w a) b
  unfolding walked
  walked_append w [] b = refl
  walked_append w (s ∷ a) b = walked_append (stepped g w s) a b

  pub walked_one : (w : Walk) (s : Step) → stepped g w s ≡ walked g w (s ∷ [])
  unfolding walked
  walked_one w s = refl

  -- one list, and a step behind it
  pub walked_then : {u v : Walk} (w : Walk) (a : List Step) (s : Step) → u ≡ walked g w a → v ≡ stepped g u s → v ≡ walked g w (a ++ (s ∷ []))
  walked_then {u} {v} w a s e q = rw (walked_append w a (s ∷ []), q, e) (walked_one (walked g w a) s)

  -- and a list behind both
  pub walked_column : {u v r : Walk} (w : Walk) (a : List Step) (s : Step) (b : List Step) → u ≡ walked g w a → v ≡ stepped g u s → r ≡ walked g v b → r ≡ walked g w (a ++ (s ∷ []) ++ b)
  walked_column {u} {v} {r} w a s b e q z =
      z ∙ ap (λ (y : Walk). walked g y b) (walked_then w a s e q) ∙ sym (walked_append w (a ++ (s ∷ [])) b)

-- ---- a loop over f x, .., f (end - 1): walked from v on, they still end in X
pub record Going (g : ℕ → ℕ → ℕ) (X : Walk) (f : ℕ → List Step) (x end : ℕ) (v : Walk) : Type 0 where
  pub within : x ≤ end
  pub same : walked g v (each f x (end - x)) ≡ X

pub going_start : (g : ℕ → ℕ → ℕ) (w : Walk) (f : ℕ → List Step) (a n : ℕ) {x end : ℕ} → x ≡ a → end ≡ a + n → Going g (walked g w (each f a n)) f x end w
going_start g w f a n {x} {end} e q =
    let z : end - x ≡ n = omega arith in
    record { within = omega arith; same = rw (z, e) }

pub going_more : {g : ℕ → ℕ → ℕ} {X : Walk} {f : ℕ → List Step} {x end : ℕ} {v u : Walk} → Going g X f x end v → x < end → u ≡ walked g v (f x) → Going g X f (x + 1) end u
going_more {g} {X} {f} {x} {end} {v} {u} e h q =
    let z : end - x ≡ suc (end - (x + 1)) = omega arith in
    record {
      within = omega arith;
      same =
          ap (λ (y : Walk). walked g y (each f (x + 1) (end - (x + 1)))) q
          ∙ ap (λ (y : ℕ). walked g (walked g v (f x)) (each f y (end - (x + 1)))) (add-one x)
          ∙ sym (walked_append g v (f x) (each f (suc x) (end - (x + 1))))
          ∙ ap (λ (n : ℕ). walked g v (each f x n)) (sym z)
          ∙ e.same;
    }

pub going_done : {g : ℕ → ℕ → ℕ} {X : Walk} {f : ℕ → List Step} {x end : ℕ} {v : Walk} → Going g X f x end v → end ≤ x → v ≡ X
unfolding walked
going_done {g} {X} {f} {x} {end} {v} e h =
    let z : end - x ≡ 0 = omega arith in
    ap (λ (n : ℕ). walked g v (each f x n)) (sym z) ∙ e.same

-- ---- what a walk has found
module _ (g : ℕ → ℕ → ℕ) where
  pub walked_is : (w : Walk) (l : List Step) → walked g w l ≡ found (w.left + outside (done g) l) (w.valid && forerunners_done g l)
  unfolding walked stepped
  walked_is w [] = ap₂ found (sym (add-zero w.left)) (and-true w.valid)
  walked_is w (s ∷ l) =
      walked_is (stepped g w s) l
      ∙ ap₂ found (counted (done g s) w.left (outside (done g) l)) (assoc w.valid (not (done g s) || all (done g) (forerunners s)) (forerunners_done g l))
    where
      counted : (d : Bool) (a b : ℕ) → a + cond d 0 1 + b ≡ a + cond d b (suc b)
      counted true a b = omega arith
      counted false a b = omega arith
