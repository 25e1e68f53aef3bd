-- Every pivot that an accepted C leaves is above 0 or NaN, and so never 0 (document 01, Record 4): the root of a radicand that was not refused.
use Prim.Native.Nat.{ℕ, ◌+◌, ◌≤◌, ◌<◌}
use mathlib.Core.Path.{◌≡◌, sym, ap, ap₂, subst, ◌∙◌}
use mathlib.Core.Bool.{false}
use mathlib.Core.List.{List}
use native.Mathlib.Omega.{arith}
use lib.ListN.{length}
use lib.Ieee.{Float}
use Rattle.square_root.specs.Root.{sqrt_of}
use Rattle.storage.specs.Runs.{start, triangle, single, tab, cells}
use Rattle.storage.specs.Part.{store}
use Rattle.storage.proofs.Starts.{start_below, start_single}
use Rattle.storage.proofs.Cells.{length_cells, get_or_cells, length_tab, get_or_tab}
use Rattle.storage.proofs.Blocks.{fill_packed, fill_diagonal}
use Rattle.rules.specs.Arithmetic.{ieee}
use Rattle.rules.specs.Cholesky.{at, left_of_pivot, factor, radicand, pivots}
use Rattle.re_lower.specs.Lower.{lower, pivot, TriangleDone, DiagonalDone}
use Rattle.std.specs.Prelude.{Ok}
use Rattle.rules.proofs.Rows.{pivot_root, accepted_at}
use Rattle.rules.proofs.Doubles.{Double, chain_fits, AboveOrNaN, root_of_accepted, never_null}
use Rattle.re_lower.proofs.Turns.{first_in}
use Rattle.re_lower.proofs.Blocks.{accepted_none}

-- Of a triangle whose pivots are doubles, every pivot that an accepted C leaves is above 0 or NaN.
pub triangle_pivots :
    (t t' : List Float) (n : ℕ) → start triangle n ≤ length t → ((r : ℕ) → r < n → Double (lower t r r)) → TriangleDone t t' n (Ok tt)
    → (r : ℕ) → r < n → AboveOrNaN (lower t' r r)
triangle_pivots t t' n fits' doubles c r h =
    let l : List Float = cells triangle n (factor ieee (lower t) n) in
    let k : length l ≡ start triangle n = length_cells triangle n (factor ieee (lower t) n) in
    let e : lower t' r r ≡ sqrt_of (radicand ieee (lower t) r) =
    ap (λ (y : List Float). at ieee y (start triangle r + r)) (c.left ∙ ap (λ (y : List Float). store 0 y t) (fill_packed n (factor ieee (lower t) n)))
    ∙ first_in t l (omega arith) ieee.zero (start triangle r + r) (omega (arith, start_below triangle r n h))
    ∙ get_or_cells triangle n (factor ieee (lower t) n) r r ieee.zero h (omega arith)
    ∙ pivot_root ieee (lower t) r n h in
    subst AboveOrNaN (sym e)
    (root_of_accepted (radicand ieee (lower t) r)
    (chain_fits (lower t r r) (at ieee (left_of_pivot ieee (lower t) (factor ieee (lower t) r) r)) (at ieee (left_of_pivot ieee (lower t) (factor ieee (lower t) r) r)) r (doubles r h))
    (accepted_at ieee (radicand ieee (lower t)) r n h (accepted_none (pivots ieee (radicand ieee (lower t)) n) c.answer)))

-- So is every one of a diagonal.
pub diagonal_pivots :
    (t t' : List Float) (n : ℕ) → n ≤ length t → ((r : ℕ) → r < n → Double (pivot t r)) → DiagonalDone t t' n (Ok tt)
    → (r : ℕ) → r < n → AboveOrNaN (pivot t' r)
diagonal_pivots t t' n fits' doubles c r h =
    let l : List Float = tab n (λ q. sqrt_of (pivot t q)) in
    let k : length l ≡ n = length_tab n (λ q. sqrt_of (pivot t q)) in
    let j : start single r + 0 ≡ r = omega (arith, start_single r) in
    let e : pivot t' r ≡ sqrt_of (pivot t r) =
    ap₂ (at ieee) (c.left ∙ ap (λ (y : List Float). store 0 y t) (fill_diagonal n (λ q x. sqrt_of (pivot t q)))) j
    ∙ first_in t l (omega arith) ieee.zero r (omega arith)
    ∙ get_or_tab n (λ q. sqrt_of (pivot t q)) r ieee.zero h in
    subst AboveOrNaN (sym e)
    (root_of_accepted (pivot t r) (doubles r h) (accepted_at ieee (pivot t) r n h (accepted_none (pivots ieee (pivot t) n) c.answer)))

-- No pivot of an accepted triangle is 0, of either sign: a division by it is never one by 0.
pub triangle_never_null :
    (t t' : List Float) (n : ℕ) → start triangle n ≤ length t → ((r : ℕ) → r < n → Double (lower t r r)) → TriangleDone t t' n (Ok tt)
    → (r : ℕ) → r < n → ieee.null (lower t' r r) ≡ false
triangle_never_null t t' n fits' doubles c r h = never_null (lower t' r r) (triangle_pivots t t' n fits' doubles c r h)

pub diagonal_never_null :
    (t t' : List Float) (n : ℕ) → n ≤ length t → ((r : ℕ) → r < n → Double (pivot t r)) → DiagonalDone t t' n (Ok tt)
    → (r : ℕ) → r < n → ieee.null (pivot t' r) ≡ false
diagonal_never_null t t' n fits' doubles c r h = never_null (pivot t' r) (diagonal_pivots t t' n fits' doubles c r h)
