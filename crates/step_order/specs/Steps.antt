-- The steps of an update, the forerunners of each, and the Rust's order (document 01, Records 4 and 5).
use Rattle.std.specs.Prelude.{ℕ, zero, suc, ◌+◌, ◌-◌, ◌*◌, ◌/◌, ◌≤◌, ◌<◌, Bool, ◌&&◌, ltb, leb}
use mathlib.Core.List.{List, [], ◌∷◌, ◌++◌, Memᴰ}

-- A step's name (Record 4): S(i,j,h) subtracts, C(j) is a Cholesky factor, T(i,j) a forward substitution.
pub data Step : Type 0 where
  S : ℕ → ℕ → ℕ → Step
  C : ℕ → Step
  T : ℕ → ℕ → Step
  deriving Discrete as step_discrete

-- Step s writes block (row s, col s), its target. The steps of a target are numbered from 0: its subtractions by h, then C or T.
abbrev pub row : Step → ℕ
row (S i j h) = i
row (C j) = j
row (T i j) = i

abbrev pub col : Step → ℕ
col (S i j h) = j
col (C j) = j
col (T i j) = j

abbrev pub index : Step → ℕ
index (S i j h) = h
index (C j) = j
index (T i j) = j

-- The steps there are when the last block is k (Record 4): every other name is refusal 21.
abbrev pub IsStep : ℕ → Step → Type 0
IsStep k (S i j h) = (h < j) × (j ≤ i) × (i ≤ k)
IsStep k (C j) = j ≤ k
IsStep k (T i j) = (j < i) × (i ≤ k)

-- The same as a test.
abbrev pub is_step : ℕ → Step → Bool
is_step k (S i j h) = ltb h j && (leb j i && leb i k)
is_step k (C j) = leb j k
is_step k (T i j) = ltb j i && leb i k

-- A step's forerunners: Record 4's "After".
abbrev pub forerunners : Step → List Step
forerunners (S i j zero) = T i 0 ∷ T j 0 ∷ []
forerunners (S i j (suc h)) = S i j h ∷ T i (suc h) ∷ T j (suc h) ∷ []
forerunners (C zero) = []
forerunners (C (suc j)) = S (suc j) (suc j) j ∷ []
forerunners (T i zero) = C 0 ∷ []
forerunners (T i (suc j)) = C (suc j) ∷ S i (suc j) j ∷ []

-- f a, f (a + 1), .., n lists one after the other
abbrev pub each : (ℕ → List Step) → ℕ → ℕ → List Step
each f a zero = []
each f a (suc n) = f a ++ each f (suc a) n

-- all S(i,j,h), h rising
abbrev pub subtractions : ℕ → ℕ → List Step
subtractions i j = each (λ h. S i j h ∷ []) 0 j

-- The Rust's order (Record 5): j = 0 to k: all S(j,j,h), C(j), then per i > j all S(i,j,h), T(i,j), h and i rising.
abbrev pub column_steps : ℕ → ℕ → List Step
column_steps k j = subtractions j j ++ (C j ∷ []) ++ each (λ i. subtractions i j ++ (T i j ∷ [])) (suc j) (k - j)

unfoldable pub rust_order : ℕ → List Step
rust_order k = each (column_steps k) 0 (suc k)

-- The number of steps with K blocks (Record 4).
abbrev pub step_count : ℕ → ℕ
step_count K = K + K * (K - 1) / 2 + (K - 1) * K * (K + 1) / 6

-- The list has no step twice.
abbrev pub Distinct : List Step → Type 0
Distinct [] = Unit
Distinct (s ∷ l) = (Memᴰ s l → ⊥) × Distinct l
