-- Progress (document 01, Record 5): the set of done steps, the stages that a program keeps of it, and what a step does to an update.
use Rattle.std.specs.Prelude.{ℕ, suc, ◌≤◌, ◌<◌, ◌≡◌, Bool, true, false, cond, ◌&&◌, List, [], ◌∷◌, ltb, eqb}
use Rattle.std.proofs.Math.Option.{Option, none, some}
use Rattle.std.proofs.Math.Decide.{ℕ_discrete}
use Rattle.step_order.specs.Steps.{Step, S, C, T, step_discrete, row, col, index, IsStep, forerunners, rust_order}
use Rattle.step_order.specs.Elimination.{Rules, refused_at}

-- ---- the set of done steps, as Record 5's book has it

-- all steps of the list are in the set
abbrev pub all : (Step → Bool) → List Step → Bool
all d [] = true
all d (s ∷ l) = d s && all d l

-- the set with s in it
abbrev pub join : (Step → Bool) → Step → Step → Bool
join d s t = elim (step_discrete ℕ_discrete t s) [ yes e ↦ true | no e ↦ d t ]

-- the set with all steps of the list in it
abbrev pub join_all : (Step → Bool) → List Step → Step → Bool
join_all d [] = d
join_all d (s ∷ l) = join_all (join d s) l

-- how many steps of the list are outside the set
abbrev pub outside : (Step → Bool) → List Step → ℕ
outside d [] = 0
outside d (s ∷ l) = cond (d s) (outside d l) (suc (outside d l))

-- Steps left (Record 5): those outside the set. The Rust's order has every step once, so it counts them.
abbrev pub steps_left : ℕ → (Step → Bool) → ℕ
steps_left k d = outside d (rust_order k)

-- An order of steps, from the set d on: each, when its turn comes, is not in the set and its forerunners are (Record 5: it is ready).
abbrev pub Order : ℕ → (Step → Bool) → List Step → Type 0
Order k d [] = Unit
Order k d (s ∷ l) = IsStep k s × (d s ≡ false) × (all d (forerunners s) ≡ true) × Order k (join d s) l

-- ---- stages, as a program keeps them (Record 5): g i j is the number of subtractions done on block (i,j), and j + 1 when it is solved

-- one place of a table changed
abbrev pub put {ℓ} : {A : Type ℓ} → (ℕ → ℕ → A) → ℕ → ℕ → A → ℕ → ℕ → A
put f i j v a b = cond (eqb a i && eqb b j) v (f a b)

-- the stages once step s is done
abbrev pub advance : (ℕ → ℕ → ℕ) → Step → ℕ → ℕ → ℕ
advance g s = put g (row s) (col s) (suc (index s))

-- The set that the stages stand for.
abbrev pub done : (ℕ → ℕ → ℕ) → Step → Bool
done g s = ltb (index s) (g (row s) (col s))

-- The stages g stand for the set d.
abbrev pub Represents : ℕ → (ℕ → ℕ → ℕ) → (Step → Bool) → Type 0
Represents k g d = (s : Step) → IsStep k s → d s ≡ done g s

-- No block has more steps done than it has.
abbrev pub Bounded : ℕ → (ℕ → ℕ → ℕ) → Type 0
Bounded k g = (i j : ℕ) → j ≤ i → i ≤ k → g i j ≤ suc j

-- A step is ready by the stages: it is the next one of its target, and the blocks that it reads beside the target are finished.
abbrev pub ready : (ℕ → ℕ → ℕ) → Step → Bool
ready g (S i j h) = eqb (g i j) h && (eqb (g i h) (suc h) && eqb (g j h) (suc h))
ready g (C j) = eqb (g j j) j
ready g (T i j) = eqb (g i j) j && eqb (g j j) (suc j)

-- The same as a fact, alike for the three kinds: step h of block (i,j) reads (i,h) where h < j, which is S, and (j,h) where h < i, which is S or T.
abbrev pub Sources : (ℕ → ℕ → ℕ) → ℕ → ℕ → ℕ → Type 0
Sources g i j h = (h < j → g i h ≡ suc h) × (h < i → g j h ≡ suc h)

abbrev pub Ready : (ℕ → ℕ → ℕ) → Step → Type 0
Ready g s = (g (row s) (col s) ≡ index s) × Sources g (row s) (col s) (index s)

-- ---- an update

-- the row, where the pivot is one of block j
abbrev pub row_in : ℕ → Option (ℕ × ℕ) → Option ℕ
row_in j none = none
row_in j (some p) = cond (eqb p.0 j) (some p.1) none

module _ (R : Rules) where
  -- Where an update stands: the stages, the blocks, the logarithms' sum.
  pub record State : Type 0 where
    pub stage : ℕ → ℕ → ℕ
    pub block : ℕ → ℕ → R.Block
    pub sum : R.Total

  -- Begin: no step is done, and the blocks are those that it wrote.
  abbrev pub begun : (ℕ → ℕ → R.Block) → State
  begun start = record { stage = λ i j. 0; block = start; sum = R.empty_sum }

  -- What step s makes of its target, out of the blocks as they are then (Record 4).
  abbrev pub made : Step → State → R.Block
  made (S i j h) u = R.subtract i j h (u.block i j) (u.block i h) (u.block j h)
  made (C j) u = R.factor j (u.block j j)
  made (T i j) u = R.solve i j (u.block i j) (u.block j j)

  -- the logarithms' sum after step s: only C takes logarithms
  abbrev pub summed : Step → State → R.Total
  summed (S i j h) u = u.sum
  summed (C j) u = R.logs j u.sum (R.factor j (u.block j j))
  summed (T i j) u = u.sum

  -- The row of the pivot that step s refuses, if it does: only C looks at pivots.
  abbrev pub refused_now : Step → State → Option ℕ
  refused_now (S i j h) u = none
  refused_now (C j) u = R.pivots j (u.block j j)
  refused_now (T i j) u = none

  -- The row of the pivot that the Rust's order refuses in step s, if it refuses one there.
  abbrev pub refused_in : ℕ → (ℕ → ℕ → R.Block) → Step → Option ℕ
  refused_in k start (S i j h) = none
  refused_in k start (C j) = row_in j (refused_at R k start)
  refused_in k start (T i j) = none

  -- The update after an accepted step: its own block, its stage and the sum, nothing else.
  abbrev pub moved : Step → State → State
  moved s u = record { stage = advance u.stage s; block = put u.block (row s) (col s) (made s u); sum = summed s u }
