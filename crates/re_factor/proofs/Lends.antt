-- The doubles of w from off to off + k, lent to a call: what it writes at their start is written at off, and nothing else changes.
use Prim.Native.Nat.{ℕ, zero, suc, ◌+◌, ◌-◌, ◌≤◌}
use mathlib.Core.Path.{◌≡◌, refl, sym, ap, subst, ◌∙◌}
use mathlib.Core.List.{List, ◌∷◌}
use mathlib.Core.Option.{Option}
use native.Mathlib.Nat.{add-zero}
use native.Mathlib.Omega.{arith}
use lib.ListN.{length, replicate}
use lib.Ieee.{Float}
use borrow.Rule.Slice.PartMut.{put_mid}
use Rattle.storage.specs.Runs.{tab}
use Rattle.storage.specs.Shape.{packed, size_of, cell}
use Rattle.storage.specs.Part.{part, store}
use Rattle.storage.specs.Placed.{Placed}
use Rattle.storage.proofs.Cells.{length_tab, tab_front}
use Rattle.storage.proofs.Parts.{length_part, store_lent}
use Rattle.rules.specs.Arithmetic.{ieee}
use Rattle.rules.specs.Sums.{logs_from}
use Rattle.rules.specs.Cholesky.{at}
use Rattle.re_lower.specs.Lower.{Pivots, answer_of}
use Rattle.re_lower.proofs.Blocks.{store_whole}
use Rattle.block_runs.specs.blocks.Blocks.{block, entry}
use Rattle.re_factor.specs.Factor.{Factored, logs_first}

-- the lent cells, as a lend counts them
abbrev pub between : ℕ → ℕ → List Float → List Float
between off k w = part off (off + k - off) w

-- n times the same
tab_same : (n : ℕ) (x : Float) → replicate n x ≡ tab n (λ i. x)
unfolding tab
tab_same zero x = refl
tab_same (suc n) x = ap (λ (l : List Float). x ∷ l) (tab_same n x) ∙ sym (tab_front n (λ i. x))

module _ (w : List Float) (off k m : ℕ) (e : k ≡ m) where
  count : off + k - off ≡ m
  count = omega arith

  -- the lent part is the block of m doubles
  is_part : between off k w ≡ part off m w
  is_part = ap (λ (i : ℕ). part off i w) count

  module _ (fits : off + m ≤ length w) (y : List Float) where
    -- f is what the call makes of the part
    pub lent : (f : List Float → List Float) → length (f (part off m w)) ≤ m → y ≡ store 0 (f (between off k w)) (between off k w)
        → put_mid off (off + k - off) w y ≡ store off (f (part off m w)) w
    lent f room q =
        let l : List Float = f (part off m w) in
        ap (λ (i : ℕ). put_mid off i w y) count
        ∙ ap (put_mid off m w) (subst (λ (x : List Float). y ≡ store 0 (f x) x) is_part q)
        ∙ store_lent w off m 0 l fits (omega arith)
        ∙ ap (λ (i : ℕ). store i l w) (add-zero off)

    -- the whole part becomes 0
    pub cleared : y ≡ replicate (length (between off k w)) ieee.zero → put_mid off (off + k - off) w y ≡ store off (tab m (λ i. ieee.zero)) w
    cleared q =
        let l : List Float = tab m (λ i. ieee.zero) in
        let long : length (between off k w) ≡ m = ap length is_part ∙ length_part off m w fits in
        lent (λ x. l) (omega (arith, length_tab m (λ i. ieee.zero)))
        (q ∙ ap (λ (i : ℕ). replicate i ieee.zero) long ∙ tab_same m ieee.zero ∙ sym (store_whole l (between off k w) (length_tab m (λ i. ieee.zero) ∙ sym long)))

    -- C: `first` is the row of the first refused pivot, `left` what stands there afterwards, both by the part
    pub lent_factor : (first : List Float → Option ℕ) (left : List Float → Pivots → List Float) (p : Pivots)
        → (p ≡ answer_of (first (part off m w)) → length (left (part off m w) p) ≤ m)
        → p ≡ answer_of (first (between off k w)) → y ≡ store 0 (left (between off k w) p) (between off k w)
        → Factored (first (part off m w)) (left (part off m w)) off w (put_mid off (off + k - off) w y) p
    lent_factor first left p room a q =
        let b : p ≡ answer_of (first (part off m w)) = subst (λ (x : List Float). p ≡ answer_of (first x)) is_part a in
        record { answer = b; exit = lent (λ x. left x p) (room b) q }

-- a solve: `rule` makes n entries of those that are lent and of the packed factor of n rows in the part that is lent of w
pub lent_solve : (rule : (ℕ → Float) → (ℕ → ℕ → Float) → List Float) (n : ℕ) → ((b : ℕ → Float) (f : ℕ → ℕ → Float) → length (rule b f) ≡ n)
    → (v : List Float) (z : ℕ) → z + n ≤ length v → (w : List Float) (off k : ℕ) → k ≡ size_of (packed n)
    → (y : List Float) → y ≡ store 0 (rule (at ieee (between z n v)) (cell ieee.zero (packed n) (between off k w))) (between z n v)
    → put_mid z (z + n - z) v y ≡ store z (rule (entry z n v) (block off (packed n) w)) v
lent_solve rule n many v z fits w off k e y q =
    let f : ℕ → ℕ → Float = cell ieee.zero (packed n) (between off k w) in
    lent v z n n refl fits y (λ x. rule (at ieee x) f) (omega (arith, many (at ieee (part z n v)) f)) q
    ∙ ap (λ (x : List Float). store z (rule (entry z n v) (cell ieee.zero (packed n) x)) v) (is_part w off k (size_of (packed n)) e)

-- the logarithms of a block that is lent
pub lent_logs : (p : Placed) (w : List Float) (k n : ℕ) (x v : Float) → k ≡ size_of p.shape
    → v ≡ logs_from ieee x (λ r. cell ieee.zero p.shape (between p.at k w) r r) n → v ≡ logs_first p n x w
lent_logs p w k n x v e q =
    subst (λ (l : List Float). v ≡ logs_from ieee x (λ r. cell ieee.zero p.shape l r r) n) (is_part w p.at k (size_of p.shape) e) q
