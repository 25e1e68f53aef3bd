-- Words in the answer list.
use Prim.Native.Nat.{ℕ, suc, ◌+◌, ◌-◌, ◌≤◌}
use mathlib.Core.Path.{◌≡◌, refl, ap, ap₂, ◌∙◌}
use mathlib.Core.Bool.{true, false, ◌||◌}
use mathlib.Core.List.{List, [], ◌∷◌, map}
use native.Mathlib.Omega.{arith}
use lib.Dec.{eqb}
use lib.ListN.{length, set, get_or}
use lib.Ieee.{Float, of_bits, to_bits}
use borrow.Rule.Slice.PartMut.{put_mid}
use Rattle.storage.specs.Part.{store}
use Rattle.storage.specs.Runs.{tab}
use Rattle.storage.proofs.Cells.{tab_front}
use Rattle.workspace.specs.Memory.{Workspace}
use Rattle.refusal.specs.declared.Numbers.{Numbers}
use Rattle.profile.specs.Deviance.{largest}
use Rattle.profile.specs.Finish.{SolveMeaning, Solving, solve_meaning}
use Rattle.capi.specs.Told.{Told, leaves, told, told_solve, word_of}
use Rattle.capi.specs.Calls.{Called, Solved, solved, words_left, of_solving}

-- what a call on a workspace tells, of what its answer means
abbrev both : Told → Workspace → Called
both t w = record { told = t; left = w }

abbrev all : Told → List Float → List ℕ → Solved
all t out words = record { told = t; out = out; words = words }

pub call_told : {M : Type 0} (tell : M → Told) {t : Told} {m m' : M} {w w' : Workspace} → m ≡ m' → t ≡ tell m → w ≡ w' → both t w ≡ both (tell m') w'
call_told tell e t w = ap₂ both (t ∙ ap tell e) w

-- what the solution tells, where the words of the result list are written and where not
module _ (o : Solving) (words answer : List ℕ) {n : ℕ} {answer' : List ℕ} {out' : List Float} {m : SolveMeaning} (e : m ≡ solve_meaning o.answer)
    (t : leaves n answer' ≡ told_solve m answer) (q : out' ≡ o.result) where
  solve_told : {words' : List ℕ} → words' ≡ words_left n out' words → solved n answer' out' words' ≡ of_solving o words answer
  solve_told {words'} w =
      let number = ap (λ (x : Told). x.number) t ∙ ap (λ (x : SolveMeaning). x.refusal.number) e in
      ap (λ (x : Told). all x out' words') (t ∙ ap (λ (x : SolveMeaning). told_solve x answer) e)
      ∙ ap₂ (λ (x : List Float) (y : List ℕ). all (told_solve (solve_meaning o.answer) answer) x y) q
      (w ∙ ap₂ (λ (k : ℕ) (r : List Float). words_left k r words) number q)

  pub solve_written : {words' : List ℕ} → (eqb n 0 || eqb n 27) ≡ true → words' ≡ map word_of out' → solved n answer' out' words' ≡ of_solving o words answer
  solve_written b w = solve_told (rw b w)

  pub solve_kept : (eqb n 0 || eqb n 27) ≡ false → solved n answer' out' words ≡ of_solving o words answer
  solve_kept b = solve_told (rw b refl)

-- ---- the answer list: two places, and the values behind them
pub words_told : (a b n : ℕ) (values l : List ℕ) {new : List ℕ} → new ≡ values → length values ≡ n → 2 + n ≤ length l
    → put_mid 2 (2 + n - 2) (set (set l 0 a) 1 b) new ≡ store 0 (a ∷ b ∷ values) l
unfolding store
words_told a b n values [] e q h = absurd (omega arith)
words_told a b n values (x ∷ []) e q h = absurd (omega arith)
words_told a b n values (x ∷ y ∷ l) e q h =
    let k : 2 + n - 2 ≡ n = omega arith in
    let m : 0 + length (a ∷ b ∷ values) ≡ suc (suc n) = omega (arith, q) in
    rw (k, e, m) refl

pub told_same : (l : List ℕ) {r r' : Numbers} {values values' : List ℕ} → r ≡ r' → values ≡ values' → told r values l ≡ told r' values' l
told_same l e q = ap₂ (λ (r : Numbers) (values : List ℕ). told r values l) e q

pub largest_word : word_of largest ≡ 0x7fefffffffffffff
unfolding of_bits to_bits
largest_word = refl

-- ---- the word of each double of a list
pub map_tab : {A B : Type 0} (f : A → B) (l : List A) (d : A) → tab (length l) (λ i. f (get_or l i d)) ≡ map f l
unfolding tab
map_tab f [] d = refl
map_tab {B = B} f (x ∷ l) d = tab_front (length l) (λ i. f (get_or (x ∷ l) i d)) ∙ ap (λ (r : List B). f x ∷ r) (map_tab f l d)
