-- What the tests of a layout come to.
use Prim.Native.Nat.{ℕ, ◌≤◌}
use mathlib.Core.Path.{◌≡◌, refl, sym, ap, ◌∙◌}
use mathlib.Core.Bool.{Bool, true, false, not, ◌&&◌, ◌||◌, cond, and-eq-true_iff}
use lib.Dec.{leb, eqb}
use lib.ListN.{take}
use borrow.Author.Tests.{leb-true, eq-eqb, ne_eqb}
use Rattle.std.specs.Prelude.{Ok, Err}
use Rattle.layout.specs.declared.Layout.{Layout}
use Rattle.layout.specs.declared.Storage.{Storage}
use Rattle.layout.specs.declared.Storage.TheVariants.{Dense, Sparse}
use Rattle.layout.specs.declared.GateRefusal.{GateRefusal}
use Rattle.layout.specs.Blocks.{sorted, sum}
use Rattle.layout.specs.Gate.{Verdict, pair_of}
use Rattle.layout.specs.Shapes.{levels}
use Rattle.heading_format.specs.Heading.{every, within, same, sheet_levels, is_dense, is_sparse, valid_pair, valid_layout}
use Rattle.heading_format.proofs.Valid.{every_at}
use Rattle.heading_check.specs.layout_check.Ranged.{Ranged}
use Rattle.heading_check.proofs.order_check.Sheets.{assoc}

-- ---- a pair, by the gate's answer
module _ (y : Layout) (i j : ℕ) {p : Verdict} {rows cols : ℕ} (e : p ≡ pair_of y.k rows cols y.diagonal cols) (a : rows ≡ levels y i) (b : cols ≡ levels y j) where
  like : {x : Verdict} → p ≡ x → cond y.sparse (is_sparse x) (is_dense x) ≡ valid_pair y i j
  like {x} z = rw (← a, ← b, ← e, z)

  pub pair_dense : {x : Storage} → p ≡ Ok x → x ≡ Dense → not y.sparse ≡ valid_pair y i j
  pair_dense z w = flag y.sparse ∙ like (z ∙ ap Ok w)
    where
      flag : (b : Bool) → not b ≡ cond b false true
      flag true = refl
      flag false = refl

  pub pair_sparse : {x : Storage} → p ≡ Ok x → x ≡ Sparse → y.sparse ≡ valid_pair y i j
  pair_sparse z w = flag y.sparse ∙ like (z ∙ ap Ok w)
    where
      flag : (b : Bool) → b ≡ cond b true false
      flag true = refl
      flag false = refl

  pub pair_refused : {x : GateRefusal} → p ≡ Err x → false ≡ valid_pair y i j
  pair_refused z = flag y.sparse ∙ like z
    where
      flag : (b : Bool) → false ≡ cond b false false
      flag true = refl
      flag false = refl

-- ---- the nine tests
abbrev counts : Layout → Bool
counts y = within 1 1000000000 y.n && within 1 32 y.p && within 1 8 y.k

abbrev many_levels : Layout → Bool
many_levels y = every (λ j. within 1 65535 (levels y j)) y.k

abbrev in_order : Layout → Bool
in_order y = same (take y.k y.order) (sorted (sheet_levels y y.k) y.k)

abbrev flags : Layout → Bool
flags y = (not y.diagonal || eqb y.k 2) && (not y.sparse || (y.diagonal && eqb y.k 2))

abbrev pairs_pass : Layout → Bool
pairs_pass y = every (λ i. every (λ j. valid_pair y i j) i) y.k

chain : (a b c d e f g : Bool) → (a && b && c && d && e && f && g) ≡ (a && b && c && d && (e && f) && g)
chain a b c d e f g = rw (assoc (a && b && c && d) e f)

valid_is : (y : Layout) → valid_layout y ≡ (counts y && many_levels y && in_order y && eqb y.q (sum (levels y) y.k) && flags y && pairs_pass y)
unfolding valid_layout
valid_is y =
    chain (counts y) (many_levels y) (in_order y) (eqb y.q (sum (levels y) y.k)) (not y.diagonal || eqb y.k 2) (not y.sparse || (y.diagonal && eqb y.k 2)) (pairs_pass y)

module _ (y : Layout) {a : Bool} (is-a : a ≡ counts y) where
  pub no_counts : a ≡ false → false ≡ valid_layout y
  no_counts z = rw (valid_is y, ← is-a, z)

  module _ (p : a ≡ true) where
    pub few_blocks : y.k ≤ 8
    few_blocks =
        let q = (and-eq-true_iff (within 1 1000000000 y.n && within 1 32 y.p) (within 1 8 y.k)).0 (sym is-a ∙ p) in
        leb-true y.k 8 ((and-eq-true_iff (leb 1 y.k) (leb y.k 8)).0 q.1).1

    module _ {b : Bool} (is_b : b ≡ many_levels y) where
      pub no_levels : b ≡ false → false ≡ valid_layout y
      no_levels z = rw (valid_is y, ← is-a, p, ← is_b, z)

      module _ (q : b ≡ true) where
        pub ranged : Ranged y
        ranged =
            record {
              blocks = few_blocks;
              level = λ j h. leb-true (levels y j) 65535 ((and-eq-true_iff (leb 1 (levels y j)) (leb (levels y j) 65535)).0 (every_at (λ i. within 1 65535 (levels y i)) y.k (sym is_b ∙ q) j h)).1;
            }

        module _ {c : Bool} (is_c : c ≡ in_order y) where
          pub no_order : c ≡ false → false ≡ valid_layout y
          no_order z = rw (valid_is y, ← is-a, p, ← is_b, q, ← is_c, z)

          module _ (s : c ≡ true) {t : ℕ} (is-t : t ≡ sum (levels y) y.k) where
            pub no_total : (y.q ≡ t → ⊥) → false ≡ valid_layout y
            no_total z = rw (valid_is y, ← is-a, p, ← is_b, q, ← is_c, s, ← is-t, ne_eqb y.q t z)

            pub all_tests : {w : Bool} → y.q ≡ t → w ≡ pairs_pass y → (flags y && w) ≡ valid_layout y
            all_tests z is-w = rw (valid_is y, ← is-a, p, ← is_b, q, ← is_c, s, ← is-t, eq-eqb y.q t z, is-w)
