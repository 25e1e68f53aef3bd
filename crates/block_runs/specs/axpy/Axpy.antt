-- What the loops over one run of doubles leave, whole list by whole list. Every rule of Records 4 and 7 on dense blocks is a start,
-- these sums, and an end.
use Rattle.std.specs.Prelude.{ℕ, zero, suc, ◌+◌, ◌<◌, ◌≡◌, List, get_or, Bool, true, false, Float}
use Rattle.std.specs.Float.{nan}
use Rattle.std.specs.Float.Ieee.{neg}
use Rattle.storage.specs.Runs.{tab}
use Rattle.storage.specs.Shape.{columns}
use Rattle.storage.specs.Part.{store}
use Rattle.rules.specs.Arithmetic.{ieee}
use Rattle.block_runs.specs.blocks.Blocks.{block}

-- double i of a list
abbrev pub at : List Float → ℕ → Float
at l i = get_or l i nan

-- n doubles from `to` on become g 0, .., g (n - 1); all else stays
abbrev pub run : (to n : ℕ) → (ℕ → Float) → List Float → List Float
run to n g w = store to (tab n g) w

-- double i of the n doubles from `to` on is what `post` says of i and of what it was: that is a run by g, if g is what `post` says
abbrev pub Changed : (n : ℕ) (post : ℕ → Float → Float → Type 0) (to : ℕ) → List Float → List Float → Type 0
Changed n post to w w' =
    (g : ℕ → Float → Float) → ((i : ℕ) (x r : Float) → i < n → post i x r → r ≡ g i x) → w' ≡ run to n (λ i. g i (at w (to + i))) w

-- s and n products, one by one, each taken in by f, which is plus or minus
unfoldable pub along : (Float → Float → Float) → Float → (ℕ → Float) → (ℕ → Float) → ℕ → Float
along f s a b zero = s
along f s a b (suc n) = f (along f s a b n) (ieee.times (a n) (b n))

-- how a product is taken in: added, or subtracted
abbrev pub add_or_subtract : Bool → Float → Float → Float
add_or_subtract false = ieee.plus
add_or_subtract true = ieee.minus

-- a factor, negated where the product is subtracted
abbrev pub signed_of : Bool → Float → Float
signed_of false x = x
signed_of true x = neg x

-- each of the first n doubles with the products of row i of the block at a of w, whose columns have `rows` cells, and row r of the block at b of v
abbrev pub products : (Float → Float → Float) → (acc : List Float) (n : ℕ) (w : List Float) (a rows : ℕ) (v : List Float) (b step r inner : ℕ) → List Float
products f acc n w a rows v b step r inner =
    run 0 n (λ i. along f (at acc i) (block a (columns rows inner) w i) (block b (columns step inner) v r) inner) acc
