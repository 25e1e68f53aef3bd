-- Where nothing is wrong with the lists of a response, each has its prescribed length and only finite numbers, and a finite double has a finite word.
use Prim.Native.Nat.{ℕ, zero, suc, ◌+◌, ◌/◌, ◌%◌}
use mathlib.Core.Path.{◌≡◌, refl, sym, ap₂}
use mathlib.Core.Bool.{Bool, true, false, not, cond}
use mathlib.Core.List.{List, [], ◌∷◌}
use mathlib.Core.Option.{Option, none, some}
use native.Mathlib.Omega.{arith}
use lib.Dec.{eqb}
use lib.ListN.{length}
use lib.Ieee.{Float, nan, inf, binary64, odd, of_fields, of_bits, ones}
use borrow.Author.Tests.{eqb-true, eqb-false}
use Rattle.refusal.specs.declared.Refusal.{Refusal}
use Rattle.refusal.specs.Numbers.{refuse}
use Rattle.refusal.proofs.Meaning.{differ}
use Rattle.std.specs.Prelude.{Result, Ok, Err}
use Rattle.sheet.specs.Field as Field
use Rattle.sheet.specs.Whole.{Each, Finite}
use Rattle.layout.specs.declared.Layout.{Layout}
use Rattle.layout.specs.Shapes.{pick}
use Rattle.workspace.specs.Answers.{is_finite, first_infinite, unless_at, lengths, length_fault, word_fault, first_of, list_fault}
use Rattle.workspace.specs.Loaded.{double}
use Rattle.workspace.specs.Response.{Response, lists_of, response_lengths, Prescribed}

-- where the first of two is no refusal, neither is
neither : (f g : Result Unit Refusal) → first_of f g ≡ Ok tt → (f ≡ Ok tt) × (g ≡ Ok tt)
neither (Ok tt) g e = (refl, e)
neither (Err r) g e = absurd (differ (sym e))

-- no fault: every list has its length
all_right : (i : ℕ) (prescribed actual : List ℕ) → length prescribed ≡ length actual → length_fault i prescribed actual ≡ Ok tt → actual ≡ prescribed
unfolding length_fault
all_right i [] [] m e = refl
all_right i [] (x ∷ actual) m e = absurd (omega arith)
all_right i (n ∷ prescribed) [] m e = absurd (omega arith)
all_right i (n ∷ prescribed) (x ∷ actual) m e = go (all_right (suc i) prescribed actual (omega arith)) (eqb x n) refl e
  where
    go : (length_fault (suc i) prescribed actual ≡ Ok tt → actual ≡ prescribed) → (b : Bool) → eqb x n ≡ b
        → pick b (length_fault (suc i) prescribed actual) (refuse 13 i 0) ≡ Ok tt → x ∷ actual ≡ n ∷ prescribed
    go rest true q e = ap₂ (λ (a : ℕ) (l : List ℕ). a ∷ l) (eqb-true x n q) (rest e)
    go rest false q e = absurd (differ (sym e))

-- every number of a list is finite
abbrev pub AllFinite : List Float → Type 0
AllFinite l = Each (λ (x : Float). is_finite x ≡ true) l

-- where no index is found
none_infinite : (i : ℕ) (l : List Float) → first_infinite i l ≡ none → AllFinite l
unfolding first_infinite
none_infinite i [] e = tt
none_infinite i (x ∷ l) e = go (none_infinite (suc i) l) (is_finite x) refl e
  where
    go : (first_infinite (suc i) l ≡ none → AllFinite l) → (b : Bool) → is_finite x ≡ b → pick b (first_infinite (suc i) l) (some i) ≡ none → AllFinite (x ∷ l)
    go rest true q e = (q, rest e)
    go rest false q e = absurd (let z : ◌≡◌ {A = ℕ} 0 1 = cc in omega arith)

-- no fault: every number of every list is finite
no_infinite : (i : ℕ) (lists : List (List Float)) → word_fault i lists ≡ Ok tt → Each AllFinite lists
unfolding word_fault
no_infinite i [] e = tt
no_infinite i (l ∷ lists) e = go (no_infinite (suc i) lists) (first_infinite 0 l) refl e
  where
    go : (word_fault (suc i) lists ≡ Ok tt → Each AllFinite lists) → (o : Option ℕ) → first_infinite 0 l ≡ o
        → unless_at o (λ a. refuse 14 i a) (word_fault (suc i) lists) ≡ Ok tt → Each AllFinite (l ∷ lists)
    go rest none q e = (none_infinite 0 l q, rest e)
    go rest (some a) q e = absurd (differ (sym e))

-- a response without a fault
pub no_fault : (y : Layout) (r : Response) → list_fault (response_lengths y) (lists_of r) ≡ Ok tt → Prescribed y r × Each AllFinite (lists_of r)
no_fault y r e =
    let n = neither (length_fault 0 (response_lengths y) (lengths (lists_of r))) (word_fault 0 (lists_of r)) e in
    (all_right 0 (response_lengths y) (lengths (lists_of r)) refl n.0, no_infinite 0 (lists_of r) n.1)

-- the exponent's bits of a finite double are not all ones
finite_fields : (s : Bool) (x t : ℕ) → is_finite (of_fields binary64 s x t) ≡ true → not (eqb x (ones binary64)) ≡ true
unfolding of_fields
finite_fields s zero t e = refl
finite_fields s (suc x) t e = go (eqb (suc x) (ones binary64)) (eqb t 0) e
  where
    go : (b c : Bool) → is_finite (cond b (cond c (inf s) nan) (odd 53 s (4503599627370496 + t) x 1074)) ≡ true → not b ≡ true
    go true true e = e
    go true false e = e
    go false c e = refl

-- a finite double has a finite word
pub finite_word : (w : ℕ) → is_finite (double w) ≡ true → Finite w
unfolding of_bits Field.is_finite
finite_word w e = finite_fields _ (w % 9223372036854775808 / 4503599627370496) (w % 4503599627370496) e
