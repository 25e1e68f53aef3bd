-- Tests of whole numbers.
use mathlib.Core.Path.{◌≡◌, refl, sym, ◌∙◌}
use mathlib.Core.Bool.{Bool, true, false}
use Prim.Native.Nat.{ℕ, ◌<◌}
use borrow.Author.Tests.{lt-ltb, ltb-true}
use lib.Dec.{ltb}

-- two tests that follow from each other have the same answer
pub same_test : (x y z w : ℕ) → (x < y → z < w) → (z < w → x < y) → ltb x y ≡ ltb z w
same_test x y z w f g = go (ltb x y) refl (ltb z w) refl
  where
    go : (b : Bool) → ltb x y ≡ b → (c : Bool) → ltb z w ≡ c → ltb x y ≡ ltb z w
    go true p c q = p ∙ sym (lt-ltb z w (f (ltb-true x y p)))
    go false p true q = lt-ltb x y (g (ltb-true z w q)) ∙ sym q
    go false p false q = p ∙ sym q
