-- A run written in a part that is lent is a run written in the whole.
use Prim.Native.Nat.{ℕ, zero, suc, ◌+◌, ◌-◌, ◌≤◌}
use mathlib.Core.Path.{◌≡◌, refl, sym, ap, ap₂, ◌∙◌}
use mathlib.Core.List.{List, ◌∷◌, ◌++◌, append_assoc}
use native.Mathlib.Omega.{arith}
use borrow.Rule.Slice.PartMut.{put_mid}
use lib.ListN.{length, take, drop, replicate}
use lib.Seq.{drop-drop, length-take-le}
use lib.Ieee.{Float, nan}
use Rattle.storage.specs.Runs.{tab}
use Rattle.storage.specs.Part.{part, store}
use Rattle.storage.proofs.Cells.{length_tab, tab_ext, tab_front}
use Rattle.storage.proofs.Parts.{store_lent, get_or_part}
use Rattle.block_runs.specs.axpy.Axpy.{at, run}

-- h is what the loop makes of a double's number and of what it was
pub lent_run : (w y : List Float) (off to n : ℕ) (h : ℕ → Float → Float) → off ≤ to → to + n ≤ length w
    → y ≡ run (to - off) n (λ i. h i (at (part off (to + n - off) w) (to - off + i))) (part off (to + n - off) w)
    → put_mid off (to + n - off) w y ≡ run to n (λ i. h i (at w (to + i))) w
lent_run w y off to n h before room so =
    let g : ℕ → Float = λ i. h i (at (part off (to + n - off) w) (to - off + i)) in
    let place : off + (to - off) ≡ to = omega arith in
    ap (put_mid off (to + n - off) w) so
    ∙ store_lent w off (to + n - off) (to - off) (tab n g) (omega arith) (omega (arith, length_tab n g))
    ∙ ap₂ (λ (k : ℕ) (l : List Float). store k l w) place
    (tab_ext n g _ (λ i l. ap (h i) (get_or_part off (to + n - off) w (to - off + i) nan (omega arith) ∙ ap (at w) (omega arith))))

-- the run itself is the part, and is written whole
pub whole_run : (w y : List Float) (to k n : ℕ) (g : ℕ → Float) → k ≡ n → y ≡ tab n g → put_mid to k w y ≡ run to n g w
unfolding store
whole_run w y to k n g e so =
    rw (so, e, length_tab n g) (sym (append_assoc (take to w) (tab n g) (drop n (drop to w))) ∙ ap (λ (x : List Float). take to w ++ tab n g ++ x) (drop-drop n to w))

-- n times the same
tab_same : (n : ℕ) (x : Float) → replicate n x ≡ tab n (λ i. x)
unfolding tab
tab_same zero x = refl
tab_same (suc n) x = ap (λ (l : List Float). x ∷ l) (tab_same n x) ∙ sym (tab_front n (λ i. x))

pub tab_filled : (w : List Float) (n : ℕ) (x : Float) → n ≤ length w → replicate (length (take n w)) x ≡ tab n (λ i. x)
tab_filled w n x h = rw (length-take-le n w h) (tab_same n x)
