-- Number and places of a refused and of an accepted answer, computed. 11 names a pair j, jj: here pair 2, 1.
use Prim.Native.Nat.{ℕ}
use mathlib.Core.Path.{◌≡◌, refl}
use Rattle.std.specs.Prelude.{Ok}
use Rattle.refusal.specs.Numbers.{numbers, numbers_of, refusal, refuse, refusal_of}

refused : refusal_of (refuse 11 2 1) ≡ record { number = 11; first = 2; second = 1 }
refused = refl

accepted : refusal_of (Ok tt) ≡ record { number = 0; first = 0; second = 0 }
accepted = refl

-- document 01's two tables, row by row: what is refused with a number has that number and the places that the row names, and 0 for any other
input_rows : (a b : ℕ)
    → (numbers_of (refusal 1 a b) ≡ numbers 1 0 0)
    × (numbers_of (refusal 2 a b) ≡ numbers 2 a 0)
    × (numbers_of (refusal 3 a b) ≡ numbers 3 a 0)
    × (numbers_of (refusal 4 a b) ≡ numbers 4 a 0)
    × (numbers_of (refusal 5 a b) ≡ numbers 5 0 0)
    × (numbers_of (refusal 6 a b) ≡ numbers 6 0 0)
    × (numbers_of (refusal 7 a b) ≡ numbers 7 0 0)
    × (numbers_of (refusal 8 a b) ≡ numbers 8 0 0)
    × (numbers_of (refusal 9 a b) ≡ numbers 9 a 0)
    × (numbers_of (refusal 10 a b) ≡ numbers 10 a b)
    × (numbers_of (refusal 11 a b) ≡ numbers 11 a b)
    × (numbers_of (refusal 12 a b) ≡ numbers 12 0 0)
    × (numbers_of (refusal 13 a b) ≡ numbers 13 a 0)
    × (numbers_of (refusal 14 a b) ≡ numbers 14 a b)
input_rows a b = (refl, refl, refl, refl, refl, refl, refl, refl, refl, refl, refl, refl, refl, refl)

state_rows : (a b : ℕ)
    → (numbers_of (refusal 20 a b) ≡ numbers 20 0 0)
    × (numbers_of (refusal 21 a b) ≡ numbers 21 0 0)
    × (numbers_of (refusal 22 a b) ≡ numbers 22 0 0)
    × (numbers_of (refusal 23 a b) ≡ numbers 23 0 0)
    × (numbers_of (refusal 24 a b) ≡ numbers 24 0 0)
    × (numbers_of (refusal 25 a b) ≡ numbers 25 0 0)
    × (numbers_of (refusal 26 a b) ≡ numbers 26 a b)
    × (numbers_of (refusal 27 a b) ≡ numbers 27 a 0)
state_rows a b = (refl, refl, refl, refl, refl, refl, refl, refl)
