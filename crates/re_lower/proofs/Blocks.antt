-- For callers: C on a block that is lent, and on a list that is the block and nothing else.
use Prim.Native.Nat.{ℕ, zero, suc, ◌+◌, ◌≤◌, ◌<◌}
use mathlib.Core.Path.{◌≡◌, refl, sym, ap, ◌∙◌}
use mathlib.Core.Bool.{Bool, true, false}
use mathlib.Core.List.{List, ◌++◌, append-nil}
use mathlib.Core.Option.{Option, none, some}
use Rattle.std.specs.Prelude.{Ok, Err}
use native.Mathlib.Nat.{add-zero}
use native.Mathlib.Omega.{arith}
use lib.ListN.{length, length-append, drop_of_length-le}
use lib.Ieee.{Float}
use borrow.Rule.Slice.PartMut.{put_mid}
use Rattle.storage.specs.Runs.{start, triangle}
use Rattle.storage.specs.Shape.{packed, diagonal, fill, cell}
use Rattle.storage.specs.Part.{part, store}
use Rattle.storage.proofs.Starts.{start_below, start_single}
use Rattle.storage.proofs.Parts.{store_lent}
use Rattle.storage.proofs.Blocks.{length_fill}
use Rattle.rules.specs.Arithmetic.{Arithmetic, ieee}
use Rattle.rules.specs.Cholesky.{at, forward, factor, radicand, left_of_pivot, next, first_bad, pivots}
use Rattle.rules.specs.Solves.{backward}
use Rattle.re_lower.specs.Lower.{Pivots, answer_of, left_of_triangle, TriangleDone, left_of_diagonal, DiagonalDone, row_solved, back_solved}
use Rattle.rules.proofs.Rows.{length_forward}
use Rattle.re_lower.proofs.Back.{length_backward}

-- ---- the answer, and the rule's
-- accepted where no pivot is refused, and only there
pub accepted_none : (o : Option ℕ) → Ok tt ≡ answer_of o → o ≡ none
accepted_none none e = refl
accepted_none (some r) e = absurd (let z : ◌≡◌ {A = ℕ} 0 1 = cc in omega arith)

-- the row of an answer that refuses
row_refused : Pivots → ℕ
row_refused (Ok x) = 0
row_refused (Err x) = x.row

-- refused with the row of the first refused pivot
pub refused_some : (o : Option ℕ) (r : ℕ) → Err (record { row = r }) ≡ answer_of o → o ≡ some r
unfolding row_refused
refused_some none r e = absurd (let z : ◌≡◌ {A = ℕ} 0 1 = cc in omega arith)
refused_some (some q) r e = ap some (sym (ap row_refused e))

one_more_lem : (A : Arithmetic) (p : Option ℕ) (b : Bool) (r q : ℕ) → next A p b r ≡ some q → (p ≡ some q → q < r) → q < suc r
one_more_lem A (some x) b r q e h = omega (arith, h e)
one_more_lem A none true r q e h = let k : r ≡ q = cc in omega arith
one_more_lem A none false r q e h = absurd (let z : ◌≡◌ {A = ℕ} 0 1 = cc in omega arith)

-- a refused row is one of the n
pub row_below : (A : Arithmetic) (g : ℕ → A.Num) (n q : ℕ) → pivots A g n ≡ some q → q < n
unfolding first_bad
row_below A g zero q e = absurd (let z : ◌≡◌ {A = ℕ} 0 1 = cc in omega arith)
row_below A g (suc n) q e = one_more_lem A (pivots A g n) (A.refused (g n)) n q e (row_below A g n q)

-- ---- what is left has room where the block was
pub triangle_room : (b : ℕ → ℕ → Float) (n : ℕ) (p : Pivots) → p ≡ answer_of (pivots ieee (radicand ieee b) n) → length (left_of_triangle b n p) ≤ start triangle n
triangle_room b n (Ok x) e = omega (arith, length_fill (packed n) (factor ieee b n))
triangle_room b n (Err x) e =
    let r : ℕ = x.row in
    let h : r < n = row_below ieee (radicand ieee b) n r (refused_some (pivots ieee (radicand ieee b) n) r e) in
    let m : List Float = left_of_pivot ieee b (factor ieee b r) r in
    omega
    (arith, length-append (fill (packed r) (factor ieee b r)) m, length_fill (packed r) (factor ieee b r), length_forward ieee (b r) (factor ieee b r) r, start_below triangle r n h)

pub diagonal_room : (d : ℕ → Float) (n : ℕ) (p : Pivots) → p ≡ answer_of (pivots ieee d n) → length (left_of_diagonal d n p) ≤ n
diagonal_room d n (Ok x) e = omega (arith, length_fill (diagonal n) (λ r c. ieee.root (d r)), start_single n)
diagonal_room d n (Err x) e =
    let r : ℕ = x.row in
    let h : r < n = row_below ieee d n r (refused_some (pivots ieee d n) r e) in
    omega (arith, length_fill (diagonal r) (λ q c. ieee.root (d q)), start_single r)

-- ---- a block that is lent out of a longer list: nothing else changes there
pub triangle_lent : (w : List Float) (off n : ℕ) → off + start triangle n ≤ length w → (y : List Float) (p : Pivots)
    → TriangleDone (part off (start triangle n) w) y n p
    → put_mid off (start triangle n) w y ≡ store off (left_of_triangle (cell ieee.zero (packed n) (part off (start triangle n) w)) n p) w
triangle_lent w off n h y p c =
    let b : ℕ → ℕ → Float = cell ieee.zero (packed n) (part off (start triangle n) w) in
    ap (put_mid off (start triangle n) w) c.left
    ∙ store_lent w off (start triangle n) 0 (left_of_triangle b n p) h (omega (arith, triangle_room b n p c.answer))
    ∙ ap (λ (i : ℕ). store i (left_of_triangle b n p) w) (add-zero off)

pub diagonal_lent : (w : List Float) (off n : ℕ) → off + n ≤ length w → (y : List Float) (p : Pivots) → DiagonalDone (part off n w) y n p
    → put_mid off n w y ≡ store off (left_of_diagonal (λ r. cell ieee.zero (diagonal n) (part off n w) r r) n p) w
diagonal_lent w off n h y p c =
    let d : ℕ → Float = λ r. cell ieee.zero (diagonal n) (part off n w) r r in
    ap (put_mid off n w) c.left
    ∙ store_lent w off n 0 (left_of_diagonal d n p) h (omega (arith, diagonal_room d n p c.answer))
    ∙ ap (λ (i : ℕ). store i (left_of_diagonal d n p) w) (add-zero off)

-- ---- a list that is the block and nothing else
pub store_whole : {A : Type 0} (l w : List A) → length l ≡ length w → store 0 l w ≡ l
unfolding store
store_whole {A} l w e = ap (λ (x : List A). l ++ x) (drop_of_length-le w {i = 0 + length l} (omega arith)) ∙ append-nil l

-- the factor alone is left
pub triangle_whole : (b b' : List Float) (n : ℕ) → length b ≡ start triangle n → TriangleDone b b' n (Ok tt)
    → b' ≡ fill (packed n) (factor ieee (cell ieee.zero (packed n) b) n)
triangle_whole b b' n e c =
    let f : ℕ → ℕ → Float = factor ieee (cell ieee.zero (packed n) b) n in
    c.left ∙ store_whole (fill (packed n) f) b (omega (arith, length_fill (packed n) f))

pub diagonal_whole : (b b' : List Float) (n : ℕ) → length b ≡ n → DiagonalDone b b' n (Ok tt)
    → b' ≡ fill (diagonal n) (λ r c. ieee.root (cell ieee.zero (diagonal n) b r r))
diagonal_whole b b' n e c =
    let f : ℕ → ℕ → Float = λ r x. ieee.root (cell ieee.zero (diagonal n) b r r) in
    c.left ∙ store_whole (fill (diagonal n) f) b (omega (arith, length_fill (diagonal n) f, start_single n))

pub row_whole : (t l : List Float) (n : ℕ) → length t ≡ n → row_solved t l n ≡ forward ieee (at ieee t) (cell ieee.zero (packed n) l) n
row_whole t l n e =
    store_whole (forward ieee (at ieee t) (cell ieee.zero (packed n) l) n) t (omega (arith, length_forward ieee (at ieee t) (cell ieee.zero (packed n) l) n))

pub back_whole : (t l : List Float) (n : ℕ) → length t ≡ n → back_solved t l n ≡ backward ieee (at ieee t) (cell ieee.zero (packed n) l) n n
back_whole t l n e =
    store_whole (backward ieee (at ieee t) (cell ieee.zero (packed n) l) n n) t
    (omega (arith, length_backward ieee (at ieee t) (cell ieee.zero (packed n) l) n n))
