-- A heading with a new progress: its layout is the old one, the progress is read back, and it is refused with 20 no more than the old one.
use Prim.Native.Nat.{ℕ, ◌+◌, ◌<◌, ◌≤◌}
use mathlib.Core.Path.{◌≡◌, refl, sym, ap, ap₂, fun_ext, ◌∙◌}
use mathlib.Core.Bool.{Bool, true, not, ◌&&◌, ◌||◌, and-eq-true_iff}
use mathlib.Core.List.{List, []}
use mathlib.Core.Logic.{inl, inr}
use native.Mathlib.Omega.{arith}
use lib.Dec.{leb, ltb, eqb}
use lib.ListN.{length, get_or}
use Rattle.storage.specs.Part.{part}
use Rattle.storage.proofs.Parts.{length_store, part_in, part_else, store_else, store_in}
use Rattle.layout.specs.declared.Layout.{Layout}
use Rattle.heading_format.specs.declared.Progress.{Progress}
use Rattle.heading_format.specs.declared.State.{State}
use Rattle.heading_format.specs.declared.State.TheVariants.{Idle, UnderWay, Finished}
use Rattle.layout.specs.Blocks.{padded}
use Rattle.layout.specs.Shapes.{levels, doubles_needed}
use Rattle.heading_format.specs.Heading.{state_number, state_of, layout_numbers, progress_numbers, written, layout_of, progress_of, entry_row, every, valid_layout, valid_progress, valid_heading, numbers_needed}
use Rattle.heading_format.proofs.Fits.{fits}
use Rattle.heading_format.proofs.Heading.{state_back, progress_back, progress_with}
use Rattle.workspace.specs.Memory.{heading_with}
use Rattle.heading_format.specs.Parts.{sparse_at, diagonal_at, progress_at, steps_left_at, stages_at, most_targets, progress_end, heading_length, levels_at, order_at}
use Rattle.layout.proofs.Made.{layout_with}

-- a progress is the state, the steps left and the stages
pub numbers_many : (g : Progress) → ◌≡◌ {A = ℕ} (length (progress_numbers g)) (2 + most_targets)
unfolding progress_numbers padded
numbers_many g = refl

stored_state : (g : Progress) → get_or (progress_numbers g) 0 0 ≡ state_number g.state
unfolding progress_numbers padded
stored_state g = refl

stored_left : (g : Progress) → get_or (progress_numbers g) 1 0 ≡ g.left
unfolding progress_numbers padded
stored_left g = refl

stored_stages : (y : Layout) (g : Progress) → length g.stages ≡ most_targets → part 2 most_targets (progress_numbers g) ≡ g.stages
unfolding progress_of written layout_numbers progress_numbers padded
stored_stages y g e = ap (λ (x : Progress). x.stages) (progress_back y g [] e)

state_small : (s : State) → leb (state_number s) 2 ≡ true
state_small Idle = refl
state_small UnderWay = refl
state_small Finished = refl

-- records out of equal fields
abbrev Four : Type 0
Four = ℕ × ℕ × ℕ × ℕ

abbrev Rest : Type 0
Rest = List ℕ × List ℕ × ℕ × ℕ

abbrev layout_from : Four → Rest → Layout
layout_from a b =
    layout_with a.0 a.1 a.2 a.3 b.0 b.1 (eqb b.2 1) (eqb b.3 1)

quartet : {a b c d a' b' c' d' : ℕ} → a ≡ a' → b ≡ b' → c ≡ c' → d ≡ d' → ◌≡◌ {A = Four} (a, b, c, d) (a', b', c', d')
quartet p q r t = cc

quartet' : {a b a' b' : List ℕ} {c d c' d' : ℕ} → a ≡ a' → b ≡ b' → c ≡ c' → d ≡ d' → ◌≡◌ {A = Rest} (a, b, c, d) (a', b', c', d')
quartet' p q r t = cc

progress_of_lem : {g : Progress} {a : State} {b : ℕ} {c : List ℕ} → a ≡ g.state → b ≡ g.left → c ≡ g.stages → progress_with a b c ≡ g
progress_of_lem p q r = ap₂ (λ (x : State × ℕ) (z : List ℕ). progress_with x.0 x.1 z) (both p q) r
  where
    both : {a a' : State} {b b' : ℕ} → a ≡ a' → b ≡ b' → ◌≡◌ {A = State × ℕ} (a, b) (a', b')
    both p q = cc

module _ (h : List ℕ) (long : heading_length ≤ length h) (g : Progress) where
  room : progress_at + length (progress_numbers g) ≤ length h
  room = omega (arith, numbers_many g)

  -- a number outside the progress stays
  number_kept : (i : ℕ) → i < progress_at → get_or (heading_with h g) i 0 ≡ get_or h i 0
  number_kept i b = store_else progress_at (progress_numbers g) h room 0 i (inl b)

  number_behind : (i : ℕ) → progress_end ≤ i → get_or (heading_with h g) i 0 ≡ get_or h i 0
  number_behind i b = store_else progress_at (progress_numbers g) h room 0 i (inr (omega (arith, numbers_many g)))

  -- a part before the progress stays
  part_kept : (at n : ℕ) → at + n ≤ progress_at → part at n (heading_with h g) ≡ part at n h
  part_kept at n b = part_else progress_at (progress_numbers g) h room at n (inl b)

  -- the layout does
  pub layout_kept : layout_of (heading_with h g) ≡ layout_of h
  unfolding layout_of
  layout_kept =
      ap₂ layout_from (quartet (number_kept 0 (omega arith)) (number_kept 1 (omega arith)) (number_kept 2 (omega arith)) (number_kept 3 (omega arith)))
      (quartet' (part_kept levels_at 8 (omega arith)) (part_kept order_at 8 (omega arith)) (number_kept sparse_at (omega arith)) (number_kept diagonal_at (omega arith)))

  -- the progress is read as it was stored
  pub progress_read : length g.stages ≡ most_targets → progress_of (heading_with h g) ≡ g
  unfolding progress_of
  progress_read e =
      let r = room in
      let a : get_or (heading_with h g) progress_at 0 ≡ state_number g.state = store_in progress_at (progress_numbers g) h r 0 0 (omega (arith, numbers_many g)) ∙ stored_state g in
      let b : get_or (heading_with h g) steps_left_at 0 ≡ g.left = store_in progress_at (progress_numbers g) h r 0 1 (omega (arith, numbers_many g)) ∙ stored_left g in
      let c : part stages_at most_targets (heading_with h g) ≡ g.stages = part_in progress_at (progress_numbers g) h r 2 most_targets (omega (arith, numbers_many g)) ∙ stored_stages (layout_of h) g e in
      progress_of_lem (ap state_of a ∙ state_back g.state) b c

  -- and the rows of a sparse pair stay
  pub row_kept : (c : ℕ) → entry_row (heading_with h g) c ≡ entry_row h c
  row_kept c = number_behind (heading_length + c) (omega arith)

  pub length_kept : length (heading_with h g) ≡ length h
  length_kept = length_store progress_at (progress_numbers g) h room

-- ---- 20 of a heading with another valid progress
-- what `valid_heading` asks, of what is read from a heading
nine : Layout → Progress → (n a b c : ℕ) (row : ℕ → ℕ) (doubles : ℕ) → Bool
nine y g n a b c row doubles =
    leb heading_length n
    && leb a 1
    && leb b 1
    && leb c 2
    && valid_layout y
    && valid_progress y.k g
    && leb (numbers_needed y) n
    && leb (doubles_needed y) doubles
    && (not y.sparse || every (λ c. ltb (row c) (levels y 1)) (levels y 0))

valid_heading_nine : (h : List ℕ) (doubles : ℕ) → valid_heading h doubles ≡ nine (layout_of h) (progress_of h) (length h) (get_or h sparse_at 0) (get_or h diagonal_at 0) (get_or h progress_at 0) (entry_row h) doubles
unfolding valid_heading nine
valid_heading_nine h doubles = refl

-- two of nine tests exchanged for others that pass
exchanged : (a b c d e f g h i d' f' : Bool) → d' ≡ true → f' ≡ true → (a && b && c && d && e && f && g && h && i) ≡ true → (a && b && c && d' && e && f' && g && h && i) ≡ true
exchanged a b c d e f g h i d' f' p q t =
    let t₈ = (and-eq-true_iff (a && b && c && d && e && f && g && h) i).0 t in
    let t₇ = (and-eq-true_iff (a && b && c && d && e && f && g) h).0 t₈.0 in
    let t₆ = (and-eq-true_iff (a && b && c && d && e && f) g).0 t₇.0 in
    let t₅ = (and-eq-true_iff (a && b && c && d && e) f).0 t₆.0 in
    let t₄ = (and-eq-true_iff (a && b && c && d) e).0 t₅.0 in
    let t₃ = (and-eq-true_iff (a && b && c) d).0 t₄.0 in
    let t₂ = (and-eq-true_iff (a && b) c).0 t₃.0 in
    let t₁ = (and-eq-true_iff a b).0 t₂.0 in
    rw (t₁.0, t₁.1, t₂.1, p, t₄.1, q, t₆.1, t₇.1, t₈.1) refl

-- another progress and its state, both valid
nine_exchanged : (y : Layout) (g : Progress) (n a b c : ℕ) (row : ℕ → ℕ) (doubles : ℕ) (g' : Progress) (c' : ℕ) → leb c' 2 ≡ true → valid_progress y.k g' ≡ true
    → nine y g n a b c row doubles ≡ true → nine y g' n a b c' row doubles ≡ true
unfolding nine
nine_exchanged y g n a b c row doubles g' c' =
    exchanged (leb heading_length n) (leb a 1) (leb b 1) (leb c 2) (valid_layout y) (valid_progress y.k g) (leb (numbers_needed y) n) (leb (doubles_needed y) doubles)
    (not y.sparse || every (λ c. ltb (row c) (levels y 1)) (levels y 0)) (leb c' 2) (valid_progress y.k g')

module _ (h : List ℕ) (doubles : ℕ) (ok : valid_heading h doubles ≡ true) (g : Progress) (many : length g.stages ≡ most_targets) (stays-valid' : valid_progress (layout_of h).k g ≡ true) where
  pub valid_heading_with : valid_heading (heading_with h g) doubles ≡ true
  valid_heading_with =
      let long : heading_length ≤ length h = (fits h doubles ok).long in
      let v : List ℕ = heading_with h g in
      let a : get_or v progress_at 0 ≡ state_number g.state = store_in progress_at (progress_numbers g) h (room h long g) 0 0 (omega (arith, numbers_many g)) ∙ stored_state g in
      let r : entry_row v ≡ entry_row h = fun_ext (row_kept h long g) in
      valid_heading_nine v doubles
      ∙ rw (layout_kept h long g, progress_read h long g many, length_kept h long g, number_kept h long g sparse_at (omega arith), number_kept h long g diagonal_at (omega arith), a, r)
      (nine_exchanged (layout_of h) (progress_of h) (length h) (get_or h sparse_at 0) (get_or h diagonal_at 0) (get_or h progress_at 0) (entry_row h) doubles g (state_number g.state) (state_small g.state) stays-valid'
      (sym (valid_heading_nine h doubles) ∙ ok))
