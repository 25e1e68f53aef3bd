-- What a call answers and leaves, and the two tests of lent lists (document 01, refusals 13 and 14).
use Rattle.std.specs.Prelude.{ℕ, suc, Bool, true, false, List, [], ◌∷◌, eqb, length, Float, Result, Ok, Err}
use Rattle.std.proofs.Math.Option.{Option, none, some}
use Rattle.std.specs.Float.{nan, inf, fin}
use Rattle.refusal.specs.declared.Refusal.{Refusal}
use Rattle.refusal.specs.Numbers.{refusal, refuse}
use Rattle.layout.specs.Shapes.{pick}
use Rattle.workspace.specs.Memory.{Workspace}

-- an answer, and what it leaves
pub record Outcome : Type 0 where
  pub answer : Result Unit Refusal
  pub left : Workspace

abbrev pub workspace : List ℕ → List Float → Workspace
workspace h w = record { heading = h; doubles = w }

abbrev pub accept : List ℕ → List Float → Outcome
accept h w = record { answer = Ok tt; left = workspace h w }

-- a refusal that leaves all untouched
abbrev pub unchanged : List ℕ → List Float → Refusal → Outcome
unchanged h w f = record { answer = Err f; left = workspace h w }

abbrev pub untouched : List ℕ → List Float → ℕ → ℕ → ℕ → Outcome
untouched h w n a b = unchanged h w (refusal n a b)

-- ---- 14: the index of the first number that is infinite or NaN
abbrev pub is_finite : Float → Bool
is_finite nan = false
is_finite (inf s) = false
is_finite (fin s m e) = true

unfoldable pub first_infinite : ℕ → List Float → Option ℕ
first_infinite i [] = none
first_infinite i (x ∷ l) = let rest = first_infinite (suc i) l in pick (is_finite x) rest (some i)

-- go on, or refuse where there is an index
abbrev pub unless_at : {A : Type 0} → Option ℕ → (ℕ → A) → A → A
unless_at none bad good = good
unless_at (some i) bad good = bad i

-- ---- what is wrong with the lists that a call is lent; i is the number of the first list
-- 13: the first list whose length is not the prescribed one
abbrev pub lengths : List (List Float) → List ℕ
lengths [] = []
lengths (l ∷ lists) = length l ∷ lengths lists

unfoldable pub length_fault : ℕ → List ℕ → List ℕ → Result Unit Refusal
length_fault i [] actual = Ok tt
length_fault i (n ∷ prescribed) [] = refuse 13 i 0
length_fault i (n ∷ prescribed) (m ∷ actual) = let rest = length_fault (suc i) prescribed actual in pick (eqb m n) rest (refuse 13 i 0)

-- 14: the first list with a number that is infinite or NaN, and that number's index
unfoldable pub word_fault : ℕ → List (List Float) → Result Unit Refusal
unfolding first_infinite
word_fault i [] = Ok tt
word_fault i (l ∷ lists) = let rest = word_fault (suc i) lists in unless_at (first_infinite 0 l) (λ a. refuse 14 i a) rest

-- go on where nothing is wrong, or hand the refusal on
abbrev pub unless_refused : {A : Type 0} → Result Unit Refusal → (Refusal → A) → A → A
unless_refused (Ok tt) bad good = good
unless_refused (Err r) bad good = bad r

-- the first of two
abbrev pub first_of : Result Unit Refusal → Result Unit Refusal → Result Unit Refusal
first_of a b = unless_refused a Err b

-- every length comes before any word
abbrev pub list_fault : List ℕ → List (List Float) → Result Unit Refusal
list_fault prescribed lists = first_of (length_fault 0 prescribed (lengths lists)) (word_fault 0 lists)
