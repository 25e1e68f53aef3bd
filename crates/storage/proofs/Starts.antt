-- Where runs start.
use Prim.Native.Nat.{ℕ, zero, suc, ◌+◌, ◌*◌, ◌≤◌, ◌<◌}
use mathlib.Core.Path.{◌≡◌, refl, sym}
use mathlib.Core.Logic.{by_cases}
use native.Mathlib.Decide.{dec_lt}
use native.Mathlib.Nat.{zero-mul, suc-mul}
use native.Mathlib.Omega.{arith}
use Rattle.storage.specs.Runs.{start, triangle, dense, single}

-- column x of a dense block starts at x * rows
pub start_dense : (rows x : ℕ) → start (dense rows) x ≡ x * rows
unfolding start
start_dense rows zero = sym (zero-mul rows)
start_dense rows (suc x) = rw (suc-mul, start_dense rows x)

-- runs of one cell are counted by their cells
pub start_single : (x : ℕ) → start single x ≡ x
start_single x = omega (arith, start_dense 1 x)

-- row r of a packed triangle starts at r (r + 1) / 2
pub start_triangle : (r : ℕ) → 2 * start triangle r ≡ r * (r + 1)
unfolding start
start_triangle zero = refl
start_triangle (suc r) = omega (arith, start_triangle r)

-- a run ends where the next one starts, so it lies before every later one
pub start_below : (len : ℕ → ℕ) (j n : ℕ) → j < n → start len j + len j ≤ start len n
unfolding start
start_below len j zero h = absurd (omega arith)
start_below len j (suc n) h =
    by_cases (dec_lt j n) (λ l. omega (arith, start_below len j n l)) (λ l. let e : j ≡ n = omega arith in rw e (omega arith))

-- starts rise
pub start_le : (len : ℕ → ℕ) (j n : ℕ) → j ≤ n → start len j ≤ start len n
start_le len j n h = by_cases (dec_lt j n) (λ l. omega (arith, start_below len j n l)) (λ l. let e : j ≡ n = omega arith in rw e (omega arith))

module _ (len : ℕ → ℕ) (j i j' i' : ℕ) (h : i < len j) (h' : i' < len j') (e : start len j + i ≡ start len j' + i') where
  -- a place belongs to one run
  pub same_run : j ≡ j'
  same_run =
      by_cases (dec_lt j j') (λ l. absurd (omega (arith, start_below len j j' l)))
      (λ l. by_cases (dec_lt j' j) (λ m. absurd (omega (arith, start_below len j' j m))) (λ m. omega arith))

  -- and to one cell of it
  pub same_cell : i ≡ i'
  same_cell = let q : start len j ≡ start len j' = rw same_run in omega arith
