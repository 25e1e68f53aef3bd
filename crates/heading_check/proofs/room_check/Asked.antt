-- What the tests of a workspace come to.
use Prim.Native.Nat.{ℕ, ◌+◌, ◌≤◌, ◌<◌}
use mathlib.Core.Path.{◌≡◌, refl, sym, ◌∙◌}
use mathlib.Core.Bool.{Bool, true, false, not, ◌&&◌, ◌||◌}
use mathlib.Core.List.{List}
use native.Mathlib.Omega.{arith}
use borrow.Author.Tests.{le-leb, lt-leb}
use lib.Dec.{ltb, leb}
use lib.ListN.{length, get_or}
use Rattle.layout.specs.declared.Layout.{Layout}
use Rattle.layout.specs.Shapes.{levels, doubles_needed}
use Rattle.heading_format.specs.Heading.{every, entry_row, layout_of, progress_of, valid_layout, valid_progress, valid_heading, numbers_needed}
use Rattle.heading_format.proofs.Valid.{is_valid}
use Rattle.heading_format.specs.Parts.{sparse_at, diagonal_at, progress_at, heading_length}

abbrev flags : List ℕ → Bool
flags h = leb (get_or h sparse_at 0) 1 && leb (get_or h diagonal_at 0) 1 && leb (get_or h progress_at 0) 2

abbrev rows : List ℕ → Layout → Bool
rows h y = not y.sparse || every (λ c. ltb (entry_row h c) (levels y 1)) (levels y 0)

abbrev room : List ℕ → Layout → ℕ → Bool
room h y doubles = leb (numbers_needed y) (length h) && leb (doubles_needed y) doubles && rows h y

-- ---- the room
module _ (h : List ℕ) (y : Layout) (doubles : ℕ) {d : ℕ} (is-d : d ≡ doubles_needed y) where
  pub room_dense : y.sparse ≡ false → (leb heading_length (length h) && leb d doubles) ≡ room h y doubles
  room_dense s = rw (← is-d, s) (last (leb heading_length (length h) && leb d doubles))
    where
      last : (b : Bool) → b ≡ (b && true)
      last true = refl
      last false = refl

  module _ (s : y.sparse ≡ true) {cols : ℕ} (is_c : cols ≡ levels y 0) where
    pub room_sparse : {r : ℕ} {w : Bool} → heading_length + cols ≤ length h → r ≡ levels y 1 → w ≡ every (λ c. ltb (entry_row h c) r) cols → (leb d doubles && w) ≡ room h y doubles
    room_sparse {r} n is-r is-w = rw (← is-d, ← is_c, ← is-r, s, le-leb (heading_length + cols) (length h) n, is-w)

    pub room_short : length h < heading_length + cols → false ≡ room h y doubles
    room_short n = rw (← is_c, s, lt-leb (heading_length + cols) (length h) n)

-- ---- the whole
chain : (a b c d e f g h i : Bool) → (a && b && c && d && e && f && g && h && i) ≡ (a && (b && c && d) && e && f && (g && h && i))
chain false b c d e f g h i = refl
chain true false c d e f g h i = refl
chain true true false d e f g h i = refl
chain true true true false e f g h i = refl
chain true true true true false f g h i = refl
chain true true true true true false g h i = refl
chain true true true true true true g h i = refl

module _ (h : List ℕ) (doubles : ℕ) where
  valid_heading_is : valid_heading h doubles ≡ (leb heading_length (length h) && flags h && valid_layout (layout_of h) && valid_progress (layout_of h).k (progress_of h) && room h (layout_of h) doubles)
  unfolding valid_heading
  valid_heading_is =
      chain (leb heading_length (length h)) (leb (get_or h sparse_at 0) 1) (leb (get_or h diagonal_at 0) 1) (leb (get_or h progress_at 0) 2) (valid_layout (layout_of h)) (valid_progress (layout_of h).k (progress_of h))
      (leb (numbers_needed (layout_of h)) (length h)) (leb (doubles_needed (layout_of h)) doubles) (rows h (layout_of h))

  pub too_short : length h < heading_length → false ≡ valid_heading h doubles
  too_short n = rw (valid_heading_is, lt-leb heading_length (length h) n)

  module _ (n : heading_length ≤ length h) {f : Bool} (is_f : f ≡ flags h) where
    pub no_flags : f ≡ false → false ≡ valid_heading h doubles
    no_flags z = rw (valid_heading_is, le-leb heading_length (length h) n, ← is_f, z)

    module _ (p : f ≡ true) {y : Layout} (is_y : y ≡ layout_of h) {l : Bool} (is-l : l ≡ valid_layout y) where
      pub not_valid : l ≡ false → false ≡ valid_heading h doubles
      not_valid z = rw (valid_heading_is, le-leb heading_length (length h) n, ← is_f, p, ← is_y, ← is-l, z)

      module _ (q : l ≡ true) {g : Bool} (is-g : g ≡ valid_progress y.k (progress_of h)) where
        pub not_going : g ≡ false → false ≡ valid_heading h doubles
        not_going z = rw (valid_heading_is, le-leb heading_length (length h) n, ← is_f, p, ← is_y, ← is-l, q, ← is-g, z)

        pub all_asked : {r : Bool} → g ≡ true → r ≡ room h y doubles → r ≡ valid_heading h doubles
        all_asked z e = rw (valid_heading_is, le-leb heading_length (length h) n, ← is_f, p, ← is_y, ← is-l, q, ← is-g, z) e

pub few_blocks : (y : Layout) {l : Bool} → l ≡ valid_layout y → l ≡ true → y.k ≤ 8
few_blocks y e q = (is_valid y (sym e ∙ q)).blocks.1

pub is_true : (y : Layout) {l : Bool} → l ≡ valid_layout y → l ≡ true → valid_layout y ≡ true
is_true y e q = sym e ∙ q

pub level_most : (y : Layout) → valid_layout y ≡ true → y.sparse ≡ true → (levels y 0 ≤ 65535) × (levels y 1 ≤ 65535)
level_most y ok s =
    let k = ((is_valid y ok).sparse s).1 in
    (((is_valid y ok).level 0 (omega arith)).1, ((is_valid y ok).level 1 (omega arith)).1)
