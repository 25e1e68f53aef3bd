-- All runs of a sheet over doubles that are +0: each loaded cell has its word, and what lies behind the loaded doubles stays.
use Prim.Native.Nat.{ℕ, ◌+◌, ◌≤◌, ◌<◌}
use mathlib.Core.Path.{◌≡◌, refl, sym, ap, ap₂, subst, ◌∙◌}
use mathlib.Core.Bool.{true, and-eq-true_iff}
use mathlib.Core.List.{List}
use mathlib.Core.Logic.{by_cases}
use native.Mathlib.Decide.{dec_lt}
use native.Mathlib.Omega.{arith}
use lib.Dec.{ltb, leb}
use lib.ListN.{length, get_or}
use lib.Ieee.{Float}
use borrow.Author.Tests.{ltb-true, leb-true, eq-eqb, ne_eqb}
use Rattle.storage.specs.Runs.{start, triangle}
use Rattle.storage.specs.Shape.{Shape, has_cell, place_of as cell_at}
use Rattle.storage.proofs.Starts.{start_below}
use Rattle.sheet.specs.declared.Starts.{Starts}
use Rattle.sheet.specs.Field.{nowhere}
use Rattle.sheet.specs.Sheet.{Sheet}
use Rattle.sheet.specs.Whole.{Whole}
use Rattle.layout.specs.declared.Layout.{Layout}
use Rattle.layout.specs.Shapes.{levels, loaded_sizes, loaded_at, loaded_length, last_rows}
use Rattle.layout.proofs.Places.{loaded_inside}
use Rattle.workspace.specs.Loaded.{entry_row_in, double, fixed_word, last_word, loaded_word}
use Rattle.load_numbers.specs.declared.word_address.Run.TheVariants.{Zz, Zx, Zy, Xx, Xy, Yy}
use Rattle.load_numbers.proofs.sheet_words.Lands.{address, Cell, In, cell_is_in, in_one, shape_fixed, shape_last}
use Rattle.load_numbers.proofs.sheet_words.Facts.{Known}
use Rattle.load_numbers.proofs.sheet_words.Values.{
  zzed,
  zxed,
  zyed,
  xxed,
  xyed,
  yyed,
  run_length_lem,
  run_missed,
  zz_missed,
  zx_missed,
  zy_missed,
  xyy_missed,
  xx_long,
  xy_long,
  low,
  zz_value,
  zx_value,
  zy_value,
  zy_other,
  xx_value,
  xy_value,
  yy_value,
}

module _ (s : List ℕ) (sheet : Sheet) (z : Starts) (y : Layout) (k : Known sheet y) (h : Whole s sheet z) where
  abbrev row : ℕ → ℕ
  row = entry_row_in sheet y

  abbrev d : Float
  d = double 0

  -- the fixed rows and what is left of them, and all runs
  abbrev pub fixed_of : List Float → List Float
  fixed_of w = zyed s sheet z y k h (zxed s sheet z y k h (zzed s sheet z y k h w))

  abbrev pub last_of : List Float → List Float
  last_of w = yyed s sheet z y k h (xyed s sheet z y k h (xxed s sheet z y k h w))

  pub fixed_length : (w : List Float) → length (fixed_of w) ≡ length w
  fixed_length w =
      run_length_lem s sheet z y k h Zy _ _ _ _ ∙ run_length_lem s sheet z y k h Zx _ _ _ _ ∙ run_length_lem s sheet z y k h Zz _ _ _ _

  pub all_length : (w : List Float) → length (last_of (fixed_of w)) ≡ length w
  all_length w =
      run_length_lem s sheet z y k h Yy _ _ _ _ ∙ run_length_lem s sheet z y k h Xy _ _ _ _ ∙ run_length_lem s sheet z y k h Xx _ _ _ _ ∙ fixed_length w

  -- behind the loaded doubles nothing is written
  pub behind : (w : List Float) (P : ℕ) → loaded_length y ≤ P → P < nowhere → get_or (last_of (fixed_of w)) P d ≡ get_or w P d
  behind w P g b =
      let out : (i j : ℕ) → In y row i j P → ⊥ = λ i j a. omega (arith, a.ends, loaded_inside y i j a.below a.few) in
      xyy_missed s sheet z y k h (fixed_of w) P (out y.k y.k)
      ∙ zy_missed s sheet z y k h _ P b (λ j l. out y.k j) ∙ zx_missed s sheet z y k h _ P b (λ j l. out y.k j)
      ∙ zz_missed s sheet z y k h w P b (λ i j l. out i j)

  module _ (w : List Float) (fits : loaded_length y ≤ length w) (clean : (P : ℕ) → P < loaded_length y → get_or w P d ≡ d) where
    inside : (i j P : ℕ) → In y row i j P → P < loaded_length y
    inside i j P a = omega (arith, a.ends, loaded_inside y i j a.below a.few)

    -- Z'Z
    pair_value : (i j r c : ℕ) → i < y.k → Cell y row i j r c → get_or (last_of (fixed_of w)) (address y row i j r c) d ≡ double (loaded_word sheet y i j r c)
    pair_value i j r c g a =
        let P : ℕ = address y row i j r c in
        let here : In y row i j P = cell_is_in y row i j r c a in
        let b : P < nowhere = low s sheet z y k h i j P here in
        let in_fixed : (t : ℕ) → In y row y.k t P → ⊥ = λ t u. let e : i ≡ y.k = (in_one y row i j y.k t P here u).0 in omega arith in
        xyy_missed s sheet z y k h (fixed_of w) P (in_fixed y.k)
        ∙ zy_missed s sheet z y k h _ P b (λ t l. in_fixed t) ∙ zx_missed s sheet z y k h _ P b (λ t l. in_fixed t)
        ∙ zz_value s sheet z y k h w i j r c g a (omega (arith, inside i j P here)) (clean P (inside i j P here))
        ∙ rw (ne_eqb i y.k (λ e. omega arith))

    fixed_is : (j r c : ℕ) → j < y.k → loaded_word sheet y y.k j r c ≡ fixed_word sheet y j r c
    fixed_is j r c g = rw (eq-eqb y.k y.k refl, ne_eqb j y.k (λ e. omega arith))

    -- Z'X and Z'y
    fixed_value : (j r c : ℕ) → j < y.k → Cell y row y.k j r c → get_or (last_of (fixed_of w)) (address y row y.k j r c) d ≡ double (loaded_word sheet y y.k j r c)
    fixed_value j r c g a =
        let P : ℕ = address y row y.k j r c in
        let here : In y row y.k j P = cell_is_in y row y.k j r c a in
        let t = (and-eq-true_iff (ltb c (levels y j)) (ltb r (last_rows y))).0 (subst (λ (x : Shape). has_cell x r c ≡ true) (shape_fixed y row j g) a.has) in
        let f : c < levels y j = ltb-true c (levels y j) t.0 in
        let u : r < last_rows y = ltb-true r (last_rows y) t.1 in
        let not_last : In y row y.k y.k P → ⊥ = λ v. let e : j ≡ y.k = (in_one y row y.k j y.k y.k P here v).1 in omega arith in
        let long : P < length (zzed s sheet z y k h w) = omega (arith, inside y.k j P here, run_length_lem s sheet z y k h Zz (length sheet.zz) 0 z.zz w) in
        xyy_missed s sheet z y k h (fixed_of w) P not_last
        ∙ by_cases (dec_lt r y.p)
        (λ v. zy_other s sheet z y k h _ j r c g f v ∙ zx_value s sheet z y k h (zzed s sheet z y k h w) j r c g f v long ∙ ap double (sym (fixed_is j r c g ∙ rw (ne_eqb r y.p (λ e. omega arith)))))
        (λ v. let e : y.p ≡ r = omega arith in
        subst (λ (x : ℕ). P ≡ address y row y.k j x c → get_or (fixed_of w) P d ≡ double (loaded_word sheet y y.k j x c)) e
        (λ q. ap (λ (x : ℕ). get_or (fixed_of w) x d) q
        ∙ zy_value s sheet z y k h (zxed s sheet z y k h (zzed s sheet z y k h w)) j c g f
        (omega (arith, q, long, run_length_lem s sheet z y k h Zx (length sheet.zx) 0 z.zx (zzed s sheet z y k h w)))
        ∙ ap double (sym (fixed_is j y.p c g ∙ rw (eq-eqb y.p y.p refl))))
        refl)

    last_is : (r c : ℕ) → loaded_word sheet y y.k y.k r c ≡ last_word sheet y r c
    last_is r c = rw (eq-eqb y.k y.k refl)

    last_in : (o : ℕ) → o < loaded_sizes y y.k y.k → loaded_at y y.k y.k + o < length w
    last_in o g = omega (arith, loaded_inside y y.k y.k (omega arith) (omega arith))

    -- place o of the last triangle
    last_place : (o : ℕ) → o < loaded_sizes y y.k y.k → loaded_at y y.k y.k + o < length (fixed_of w)
    last_place o g = omega (arith, last_in o g, fixed_length w)

    triangle_value : (r c : ℕ) → r ≤ y.p → c ≤ r → start triangle r + c < loaded_sizes y y.k y.k
        → get_or (last_of (fixed_of w)) (loaded_at y y.k y.k + (start triangle r + c)) d ≡ double (last_word sheet y r c)
    triangle_value r c a b g =
        by_cases (dec_lt r y.p) upper (λ v. let e : y.p ≡ r = omega arith in by_cases (dec_lt c y.p) (middle e) (λ u. let f : y.p ≡ c = omega arith in lower e f))
      where
        at : ℕ
        at = loaded_at y y.k y.k

        upper : r < y.p → get_or (last_of (fixed_of w)) (at + (start triangle r + c)) d ≡ double (last_word sheet y r c)
        upper v =
            let o : ℕ = start triangle r + c in
            let small : o < length sheet.xx = omega (arith, start_below triangle r y.p v, xx_long s sheet z y k h) in
            run_missed s sheet z y k h Yy 1 (length sheet.xx + length sheet.xy) z.yy (xyed s sheet z y k h (xxed s sheet z y k h (fixed_of w))) (at + o) (λ t l m n q. omega arith)
            ∙ run_missed s sheet z y k h Xy (length sheet.xy) (length sheet.xx) z.xy (xxed s sheet z y k h (fixed_of w)) (at + o) (λ t l m n q. omega arith)
            ∙ xx_value s sheet z y k h (fixed_of w) o small (last_place o g)
            ∙ ap double (sym (rw (ne_eqb r y.p (λ e. omega arith))))

        middle : y.p ≡ r → c < y.p → get_or (last_of (fixed_of w)) (at + (start triangle r + c)) d ≡ double (last_word sheet y r c)
        middle e u =
            let o : ℕ = length sheet.xx + c in
            let q : start triangle r + c ≡ o = ap (λ (x : ℕ). start triangle x + c) (sym e) ∙ ap (λ (x : ℕ). x + c) (sym (xx_long s sheet z y k h)) in
            let long : length (xxed s sheet z y k h (fixed_of w)) ≡ length (fixed_of w) = run_length_lem s sheet z y k h Xx (length sheet.xx) 0 z.xx (fixed_of w) in
            let small : c < length sheet.xy = omega (arith, xy_long s sheet z y k h) in
            ap (λ (x : ℕ). get_or (last_of (fixed_of w)) (at + x) d) q
            ∙ run_missed s sheet z y k h Yy 1 (length sheet.xx + length sheet.xy) z.yy (xyed s sheet z y k h (xxed s sheet z y k h (fixed_of w))) (at + o) (λ t l m n p. omega arith)
            ∙ xy_value s sheet z y k h (xxed s sheet z y k h (fixed_of w)) c small (omega (arith, long, q, last_place (start triangle r + c) g))
            ∙ ap double (sym (rw (eq-eqb r y.p (sym e), ne_eqb c y.p (λ f. omega arith))))

        lower : y.p ≡ r → y.p ≡ c → get_or (last_of (fixed_of w)) (at + (start triangle r + c)) d ≡ double (last_word sheet y r c)
        lower e f =
            let o : ℕ = length sheet.xx + length sheet.xy in
            let q : start triangle r + c ≡ o = ap₂ (λ (x u : ℕ). start triangle x + u) (sym e) (sym f) ∙ ap₂ (λ (x u : ℕ). x + u) (sym (xx_long s sheet z y k h)) (sym (xy_long s sheet z y k h)) in
            let long : length (xxed s sheet z y k h (fixed_of w)) ≡ length (fixed_of w) = run_length_lem s sheet z y k h Xx (length sheet.xx) 0 z.xx (fixed_of w) in
            let long₂ : length (xyed s sheet z y k h (xxed s sheet z y k h (fixed_of w))) ≡ length (xxed s sheet z y k h (fixed_of w)) =
            run_length_lem s sheet z y k h Xy (length sheet.xy) (length sheet.xx) z.xy (xxed s sheet z y k h (fixed_of w)) in
            ap (λ (x : ℕ). get_or (last_of (fixed_of w)) (at + x) d) q
            ∙ yy_value s sheet z y k h (xyed s sheet z y k h (xxed s sheet z y k h (fixed_of w))) (omega (arith, long, long₂, q, last_place (start triangle r + c) g))
            ∙ ap double (sym (rw (eq-eqb r y.p (sym e), eq-eqb c y.p (sym f))))

    -- X'X, X'y and y'y
    last_value : (r c : ℕ) → Cell y row y.k y.k r c → get_or (last_of (fixed_of w)) (address y row y.k y.k r c) d ≡ double (loaded_word sheet y y.k y.k r c)
    last_value r c a =
        let t = (and-eq-true_iff (ltb r (last_rows y)) (leb c r)).0 (subst (λ (x : Shape). has_cell x r c ≡ true) (shape_last y row) a.has) in
        let u : r < last_rows y = ltb-true r (last_rows y) t.0 in
        let e : address y row y.k y.k r c ≡ loaded_at y y.k y.k + (start triangle r + c) = ap (λ (x : Shape). loaded_at y y.k y.k + cell_at x r c) (shape_last y row) in
        let here = cell_is_in y row y.k y.k r c a in
        ap (λ (x : ℕ). get_or (last_of (fixed_of w)) x d) e
        ∙ triangle_value r c (omega arith) (leb-true c r t.1) (omega (arith, here.ends, e))
        ∙ ap double (sym (last_is r c))

    -- each loaded cell has its word
    pub cell_value : (i j r c : ℕ) → Cell y row i j r c → get_or (last_of (fixed_of w)) (address y row i j r c) d ≡ double (loaded_word sheet y i j r c)
    cell_value i j r c a =
        by_cases (dec_lt i y.k) (λ l. pair_value i j r c l a)
        (λ l. let e : y.k ≡ i = omega (arith, a.few) in
        subst (λ (x : ℕ). Cell y row x j r c → get_or (last_of (fixed_of w)) (address y row x j r c) d ≡ double (loaded_word sheet y x j r c)) e
        (λ a. by_cases (dec_lt j y.k) (λ m. fixed_value j r c m a)
        (λ m. let f : y.k ≡ j = omega (arith, a.below) in
        subst (λ (x : ℕ). Cell y row y.k x r c → get_or (last_of (fixed_of w)) (address y row y.k x r c) d ≡ double (loaded_word sheet y y.k x r c)) f (last_value r c) a))
        a)
