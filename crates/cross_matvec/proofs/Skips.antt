-- A sparse block times a vector, going forward: each source changes one entry, or none if it is ±0.
use Prim.Native.Nat.{ℕ, suc, ◌+◌, ◌-◌, ◌≤◌, ◌<◌}
use mathlib.Core.Path.{◌≡◌, refl, sym, ap, ap₂, ◌∙◌}
use mathlib.Core.Bool.{Bool, true, false, not, ◌&&◌, cond}
use mathlib.Core.List.{List}
use mathlib.Core.Logic.{◌⊎◌, inl, inr, by_cases}
use native.Mathlib.Decide.{dec_lt}
use native.Mathlib.Omega.{arith}
use borrow.Author.Tests.{eq-eqb, ne_eqb}
use lib.Dec.{eqb}
use lib.ListN.{length, set, length-set}
use lib.Seq.{take_all, ext_get_or, get_or-set_same, get_or-set_other}
use lib.Ieee.{Float, nan}
use Rattle.storage.specs.Runs.{tab}
use Rattle.storage.specs.Part.{part, store}
use Rattle.storage.proofs.Cells.{length_tab, take_tab, tab_ext}
use Rattle.storage.proofs.Parts.{length_part, length_store, store_part}
use Rattle.rules.specs.Arithmetic.{ieee}
use Rattle.rules.specs.Sums.{subtract_from}
use Rattle.rules.specs.Solves.{sparse_matvec_sub}
use Rattle.block_runs.specs.blocks.Blocks.{entry}
use Rattle.block_runs.specs.axpy.Axpy.{at, run}
use Rattle.block_runs.proofs.axpy.Sums.{read_run}
use Rattle.storage.specs.declared.Block.{Block}
use Rattle.cross_matvec.specs.Products.{Sides, subtract_entry}
use Rattle.cross_matvec.proofs.Vectors.{read_entry, run_else, same_entry}

-- one cell of a run written anew
module _ (to n : ℕ) (f f' : ℕ → Float) (w : List Float) (fits : to + n ≤ length w) (r : ℕ) (here : r < n)
    (old : (i : ℕ) → (i ≡ r → ⊥) → f i ≡ f' i) where
  other : (k : ℕ) → (k ≡ to + r → ⊥) → at (run to n f w) k ≡ at (run to n f' w) k
  other k h = by_cases (dec_lt k to) (λ y. outside (inl y))
      (λ y. by_cases (dec_lt k (to + n))
      (λ z. let i : ℕ = k - to in
      read_run to n f w fits i k (omega arith) (omega arith) ∙ old i (λ q. h (omega arith)) ∙ sym (read_run to n f' w fits i k (omega arith) (omega arith)))
      (λ z. outside (inr (omega arith))))
    where
      outside : (k < to) ⊎ (to + n ≤ k) → at (run to n f w) k ≡ at (run to n f' w) k
      outside p = run_else to n f w fits k p ∙ sym (run_else to n f' w fits k p)

  pub cell_anew : (v : Float) → v ≡ f' r → set (run to n f w) (to + r) v ≡ run to n f' w
  cell_anew v new =
      let long : length (run to n f w) ≡ length w = length_store to (tab n f) w (omega (arith, length_tab n f)) in
      let long' : length (run to n f' w) ≡ length w = length_store to (tab n f') w (omega (arith, length_tab n f')) in
      ext_get_or nan (set (run to n f w) (to + r) v) (run to n f' w) (simp length-set (omega arith))
      (λ k l. by_cases (dec_lt k (to + r)) (λ y. away k (λ q. absurd (omega arith)))
      (λ y. by_cases (dec_lt (to + r) k) (λ z. away k (λ q. absurd (omega arith)))
      (λ z. let e : k ≡ to + r = omega arith in
      ap (at (set (run to n f w) (to + r) v)) e ∙ get_or-set_same (run to n f w) (to + r) v nan (omega arith) ∙ new
      ∙ sym (read_run to n f' w fits r k here e))))
    where
      away : (k : ℕ) → (k ≡ to + r → ⊥) → at (set (run to n f w) (to + r) v) k ≡ at (run to n f' w) k
      away k h = get_or-set_other (run to n f w) (to + r) k v nan h ∙ other k h

-- a source of ±0 counts nowhere
skipped : (b : Bool) (p q : Float) → cond (b && not true) p q ≡ q
skipped true p q = refl
skipped false p q = refl

module _ (to z : ℕ) (a : Block) (row : ℕ → ℕ) (w v₀ : List Float) (sides : Sides (length v₀) to z a) where
  abbrev rule : ℕ → ℕ → Float
  rule c = sparse_matvec_sub ieee row (entry a.at a.cols w) (entry z a.cols v₀) (entry to a.rows v₀) c

  pub skip_none : v₀ ≡ run to a.rows (rule 0) v₀
  unfolding subtract_from
  skip_none =
      let long = length_part to a.rows v₀ sides.rows in
      sym
      (ap (λ (l : List Float). store to l v₀)
      (sym
      (sym (take_all a.rows (part to a.rows v₀) (omega arith))
      ∙ take_tab ieee.zero a.rows (entry to a.rows v₀) (part to a.rows v₀) (omega arith) (λ i p. refl)))
      ∙ store_part to a.rows v₀ sides.rows)

  module _ (c : ℕ) (more : c < a.cols) (v : List Float) (so : v ≡ run to a.rows (rule c) v₀) (r : ℕ) (here : r < a.rows) (e : r ≡ row c) where
    -- the entry of column c times its source, and entry i after c products when this one counts there if b is true
    abbrev source : Float
    source = entry z a.cols v₀ c

    abbrev product : Float
    product = ieee.times (entry a.at a.cols w c) source

    abbrev less : Bool → ℕ → Float
    less b i = cond b (ieee.minus (rule c i) product) (rule c i)

    -- what the turn makes of the list, by whether the source is ±0
    made : (b : Bool) → ieee.null source ≡ b → cond b v (set v (to + r) (ieee.minus (at v (to + r)) product)) ≡ run to a.rows (rule (suc c)) v₀
    unfolding subtract_from
    made true h =
        so
        ∙ ap (λ (l : List Float). store to l v₀)
        (tab_ext a.rows (rule c) (rule (suc c))
        (λ i p. sym (ap (λ (b : Bool). less (eqb (row c) i && not b) i) h ∙ skipped (eqb (row c) i) (ieee.minus (rule c i) product) (rule c i))))
    made false h =
        ap (λ (l : List Float). set l (to + r) (ieee.minus (at l (to + r)) product)) so
        ∙ cell_anew to a.rows (rule c) (rule (suc c)) v₀ sides.rows r here
        (λ i p. ap (λ (b : Bool). less (b && not (ieee.null source)) i) (sym (ne_eqb (row c) i (λ k. p (sym k ∙ sym e)))))
        _
        (ap (λ (x : Float). ieee.minus x product) (read_run to a.rows (rule c) v₀ sides.rows r (to + r) here refl)
        ∙ ap₂ (λ (b d : Bool). less (b && not d) r) (sym (eq-eqb (row c) r (sym e))) (sym h))

    pub skip_more : a.at + a.cols ≤ length w → (v' : List Float) → v' ≡ subtract_entry (to + r) (at w (a.at + c)) (at v (z + c)) v → v' ≡ run to a.rows (rule (suc c)) v₀
    skip_more fits v' g =
        g
        ∙ ap₂ (λ (y s : Float). subtract_entry (to + r) y s v) (read_entry a.at a.cols w c more fits)
        (same_entry to a.rows (rule c) v₀ sides.rows a.rows (omega arith) v so z a.cols sides.apart c more sides.cols)
        ∙ made (ieee.null source) refl

-- the test of the code is the rule's
pub by_test : (k : ℕ) (x e : Float) (v : List Float) (b : Bool) → ieee.null e ≡ b → cond b v (set v k (ieee.minus (at v k) (ieee.times x e))) ≡ subtract_entry k x e v
by_test k x e v b h = ap (λ (d : Bool). cond d v (set v k (ieee.minus (at v k) (ieee.times x e)))) (sym h)
