-- What a new response leaves of the doubles: the loaded numbers with the new response, whatever stands behind them; all behind them stays.
use Prim.Native.Nat.{ℕ, zero, suc, ◌+◌, ◌≤◌, ◌<◌}
use mathlib.Core.Path.{◌≡◌, refl, sym, ap, subst, ◌∙◌}
use mathlib.Core.Bool.{cond}
use mathlib.Core.List.Memᴰ
use mathlib.Core.List.{
  List,
  [],
  ◌∷◌,
  ◌++◌,
  Memᴰ,
}
use mathlib.Core.Logic.{◌⊎◌, inl, inr, ⊎_elim, by_cases}
use native.Mathlib.Decide.{dec_lt}
use native.Mathlib.Omega.{arith}
use lib.Dec.{eqb}
use borrow.Author.Tests.{eq-eqb}
use lib.ListN.{length, take, drop, take-append-drop}
use lib.Seq.{take_at, length-take-le}
use lib.Ieee.{Float}
use Rattle.storage.specs.Shape.{Shape, size_of, fill}
use Rattle.storage.specs.Part.{part, store}
use Rattle.storage.proofs.Parts.{part_left}
use Rattle.storage.proofs.Blocks.{length_fill}
use Rattle.layout.specs.declared.Layout.{Layout}
use Rattle.layout.specs.Shapes.{Target, target, across, shape, loaded_shape, loaded_sizes, loaded_length, loaded_at}
use Rattle.heading_format.specs.Heading.{layout_of, entry_row}
use Rattle.layout.proofs.Places.{in_across, loaded_inside, loaded_apart, size_loaded}
use Rattle.workspace.specs.Memory.{cell_of}
use Rattle.workspace.specs.Response.{Response, response_cell, responded_block, store_response, responded}
use Rattle.demand3.proofs.frame.Stored.{same_or_other, Alone, run_length_lem, run_part, run_own, run_drop, run_left}

-- ---- the targets of a response

-- a target of a row is in that row, before its end
across_range : (i n : ℕ) (t : Target) → Memᴰ t (across i n) → (t.row ≡ i) × (t.col < n)
unfolding across
across_range i zero t m = absurd (Memᴰ.not-nil m)
across_range i (suc n) t m =
    ⊎_elim (λ a. let z = across_range i n t a in (z.0, omega arith))
    (λ a. let e : t ≡ target i n = Memᴰ.eq_of_singleton a in
    let c : t.col ≡ n = ap (λ (s : Target). s.col) e in
    (ap (λ (s : Target). s.row) e, omega arith))
    (Memᴰ.append_cases (across i n) m)

-- blocks (k, 0), .., (k, k)
abbrev last : ℕ → List Target
last k = across k k ++ (target k k ∷ [])

-- each is in row k, at column k at most
last_range : (k : ℕ) (t : Target) → Memᴰ t (last k) → (t.row ≡ k) × (t.col ≤ k)
last_range k t m =
    ⊎_elim (λ a. let z = across_range k k t a in (z.0, omega arith))
    (λ a. let e : t ≡ target k k = Memᴰ.eq_of_singleton a in
    let c : t.col ≡ k = ap (λ (s : Target). s.col) e in
    (ap (λ (s : Target). s.row) e, omega arith))
    (Memᴰ.append_cases (across k k) m)

-- and all of these are there
last_member : (k j : ℕ) → j ≤ k → Memᴰ (target k j) (last k)
last_member k j l =
    by_cases (dec_lt j k) (λ g. Memᴰ.append_left (target k k ∷ []) (in_across k k j g))
    (λ g. let q : j ≡ k = omega arith in Memᴰ.append_right (across k k) (Memᴰ.head (ap (target k) q)))

-- ---- a block (k, j) asks no rows of entries, and lies in the loaded numbers

-- its shape is the same whatever the rows
pub rows_unasked : (y : Layout) (row row' : ℕ → ℕ) (j : ℕ) → loaded_shape y row y.k j ≡ loaded_shape y row' y.k j
unfolding loaded_shape shape
rows_unasked y row row' j = rw (eq-eqb y.k y.k refl) refl

-- a part of the first n numbers
part_take : (n off many : ℕ) (w : List Float) → off + many ≤ n → n ≤ length w → part off many w ≡ part off many (take n w)
part_take n off many w l room =
    ap (part off many) (sym (take-append-drop n w)) ∙ part_left (take n w) (drop n w) off many (omega (arith, length-take-le n w room))

module _ (r : Response) where
  -- block (k, j) of a layout, with the new response
  abbrev renewed : Layout → Shape → List Float → ℕ → List Float
  renewed y s b j = fill s (λ i c. cond (eqb i y.p) (response_cell y r j c) (cell_of s b i c))

  -- the same block of another heading of that layout, from the loaded numbers alone
  renewed_same : (h h' : List ℕ) (w : List Float) → loaded_length (layout_of h) ≤ length w → layout_of h' ≡ layout_of h → (j : ℕ) → j ≤ (layout_of h).k
      → responded_block h w r j ≡ responded_block h' (take (loaded_length (layout_of h)) w) r j
  unfolding responded_block
  renewed_same h h' w room e j l =
      let y : Layout = layout_of h in
      let s : Shape = loaded_shape y (entry_row h) y.k j in
      let v : List Float = take (loaded_length y) w in
      ap (λ (b : List Float). renewed y s b j)
      (part_take (loaded_length y) (loaded_at y y.k j) (size_of s) w (omega (arith, size_loaded y (entry_row h) y.k j, loaded_inside y y.k j l (omega arith))) room)
      ∙ ap (λ (s' : Shape). renewed y s' (part (loaded_at y y.k j) (size_of s') v) j) (rows_unasked y (entry_row h) (entry_row h') j)
      ∙ ap (λ (y' : Layout). renewed y' (loaded_shape y' (entry_row h') y'.k j) (part (loaded_at y' y'.k j) (size_of (loaded_shape y' (entry_row h') y'.k j)) v) j) (sym e)

  -- ---- all of them

  module _ (h : List ℕ) (w : List Float) where
    -- where each lies, and what is made of it
    abbrev place : Target → ℕ
    place t = loaded_at (layout_of h) t.row t.col

    abbrev made : Target → List Float
    made t = responded_block h w r t.col

    -- the blocks of a list, one after the other
    abbrev run : List Target → List Float → List Float
    run = store_response h w r

    ends : (v : List Float) → run [] v ≡ v
    unfolding store_response
    ends v = refl

    goes_on : (t : Target) (l : List Target) (v : List Float) → run (t ∷ l) v ≡ run l (store (place t) (made t) v)
    unfolding store_response
    goes_on t l v = refl

    -- each is as long as it was
    made_length : (j : ℕ) → length (responded_block h w r j) ≡ loaded_sizes (layout_of h) (layout_of h).k j
    unfolding responded_block
    made_length j = length_fill (loaded_shape (layout_of h) (entry_row h) (layout_of h).k j) _ ∙ size_loaded (layout_of h) (entry_row h) (layout_of h).k j

    -- each lies inside the loaded numbers
    made_inside : (t : Target) → Memᴰ t (last (layout_of h).k) → place t + length (made t) ≤ loaded_length (layout_of h)
    made_inside t m =
        let z = last_range (layout_of h).k t m in
        let e : place t ≡ loaded_at (layout_of h) (layout_of h).k t.col = ap (λ (i : ℕ). loaded_at (layout_of h) i t.col) z.0 in
        omega (arith, e, made_length t.col, loaded_inside (layout_of h) (layout_of h).k t.col z.1 (omega arith))

    -- another block lies apart from each
    other_apart : (i j : ℕ) → j ≤ i → i ≤ (layout_of h).k → (t : Target) → Memᴰ t (last (layout_of h).k) → (i ≡ t.row → j ≡ t.col → ⊥)
        → (loaded_at (layout_of h) i j + loaded_sizes (layout_of h) i j ≤ place t) ⊎ (place t + length (made t) ≤ loaded_at (layout_of h) i j)
    other_apart i j a b t m other =
        let z = last_range (layout_of h).k t m in
        let e : t.row ≡ (layout_of h).k = z.0 in
        let g : t.col ≤ (layout_of h).k = z.1 in
        let n : length (made t) ≡ loaded_sizes (layout_of h) t.row t.col = made_length t.col ∙ ap (λ (x : ℕ). loaded_sizes (layout_of h) x t.col) (sym e) in
        subst (λ (x : ℕ). (loaded_at (layout_of h) i j + loaded_sizes (layout_of h) i j ≤ place t) ⊎ (place t + x ≤ loaded_at (layout_of h) i j)) (sym n)
        (loaded_apart (layout_of h) i j a b t.row t.col (omega arith) (omega arith) other)

    -- and each from the others
    own_alone : (j : ℕ) → j ≤ (layout_of h).k → Alone place made run ends goes_on (target (layout_of h).k j) (last (layout_of h).k)
    own_alone j l s m =
        ⊎_elim (λ e. inl e)
        (λ other. inr
        (subst (λ (x : ℕ). (loaded_at (layout_of h) (layout_of h).k j + x ≤ place s) ⊎ (place s + length (made s) ≤ loaded_at (layout_of h) (layout_of h).k j)) (sym (made_length j))
        (other_apart (layout_of h).k j l (omega arith) s m (λ a b. other (sym a) (sym b)))))
        (same_or_other s (target (layout_of h).k j))

    -- on any list that has the loaded numbers
    module _ (v : List Float) (room : loaded_length (layout_of h) ≤ length v) where
      -- each fits
      fits : (t : Target) → Memᴰ t (last (layout_of h).k) → place t + length (made t) ≤ length v
      fits t m = omega (arith, made_inside t m)

      -- the length stays
      all_length : length (run (last (layout_of h).k) v) ≡ length v
      all_length = run_length_lem place made run ends goes_on (last (layout_of h).k) v fits

      -- what lies behind the loaded numbers stays
      all_behind : (n : ℕ) → loaded_length (layout_of h) ≤ n → drop n (run (last (layout_of h).k) v) ≡ drop n v
      all_behind n l = run_drop place made run ends goes_on (last (layout_of h).k) v fits n (λ t m. omega (arith, made_inside t m))

module _ (h : List ℕ) (w : List Float) (r : Response) (room : loaded_length (layout_of h) ≤ length w) where
  -- the length stays
  pub responded_length : length (responded h w r).left.doubles ≡ length w
  unfolding responded
  responded_length = all_length r h w w room

  -- what lies behind the loaded numbers stays
  pub responded_behind : (n : ℕ) → loaded_length (layout_of h) ≤ n → drop n (responded h w r).left.doubles ≡ drop n w
  unfolding responded
  responded_behind n l = all_behind r h w w room n l

  -- a block before row k stays
  pub responded_else : (i j : ℕ) → j ≤ i → i < (layout_of h).k
      → part (loaded_at (layout_of h) i j) (loaded_sizes (layout_of h) i j) (responded h w r).left.doubles ≡ part (loaded_at (layout_of h) i j) (loaded_sizes (layout_of h) i j) w
  unfolding responded
  responded_else i j a b =
      run_part (place r h w) (made r h w) (run r h w) (ends r h w) (goes_on r h w) (last (layout_of h).k) w (fits r h w w room)
      (loaded_at (layout_of h) i j) (loaded_sizes (layout_of h) i j)
      (λ t m. let z : t.row ≡ (layout_of h).k = (last_range (layout_of h).k t m).0 in other_apart r h w i j a (omega arith) t m (λ e g. omega arith))

  -- a block of row k is the one with the new response
  pub responded_own : (j : ℕ) → j ≤ (layout_of h).k
      → part (loaded_at (layout_of h) (layout_of h).k j) (loaded_sizes (layout_of h) (layout_of h).k j) (responded h w r).left.doubles ≡ responded_block h w r j
  unfolding responded
  responded_own j l =
      ap (λ (n : ℕ). part (loaded_at (layout_of h) (layout_of h).k j) n (run r h w (last (layout_of h).k) w)) (sym (made_length r h w j))
      ∙ run_own (place r h w) (made r h w) (run r h w) (ends r h w) (goes_on r h w) (last (layout_of h).k) w (fits r h w w room)
      (target (layout_of h).k j) (own_alone r h w j l) (last_member (layout_of h).k j l)

  -- the same as on the loaded numbers alone, with any heading of the same layout
  pub responded_loaded : (h' : List ℕ) → layout_of h' ≡ layout_of h
      → take (loaded_length (layout_of h)) (responded h w r).left.doubles ≡ (responded h' (take (loaded_length (layout_of h)) w) r).left.doubles
  unfolding responded
  responded_loaded h' e =
      let n : ℕ = loaded_length (layout_of h) in
      let a : List Float = take n w in
      let b : List Float = drop n w in
      let old : List Target → List Float → List Float = run r h w in
      let new : List Target → List Float → List Float = run r h' a in
      let many : length a ≡ n = length-take-le n w room in
      let same : n ≡ loaded_length (layout_of h') = ap loaded_length (sym e) in
      ap (λ (x : List Float). take n (old (last (layout_of h).k) x)) (sym (take-append-drop n w))
      ∙ ap (take n)
      (run_left (place r h w) (made r h w) old (ends r h w) (goes_on r h w) (place r h' a) (made r h' a) new
      (ends r h' a) (goes_on r h' a) (last (layout_of h).k) a b (fits r h w a (omega arith))
      (λ t m. (ap (λ (y : Layout). loaded_at y t.row t.col) (sym e), renewed_same r h h' w room e t.col (last_range (layout_of h).k t m).1)))
      ∙ ap (λ (y : Layout). take n (new (last y.k) a ++ b)) (sym e)
      ∙ take_at (new (last (layout_of h').k) a) b n (all_length r h' a a (omega arith) ∙ many)
