-- Sums that are broken off and taken up again, for plus and minus alike.
use Prim.Native.Nat.{ℕ, zero, suc, ◌+◌, ◌-◌, ◌*◌, ◌/◌, ◌≤◌, ◌<◌}
use mathlib.Core.Path.{◌≡◌, refl, sym, ap, ap₂, ◌∙◌}
use mathlib.Core.Bool.{Bool, true, false}
use mathlib.Core.List.{List}
use mathlib.Core.Logic.{inr}
use native.Mathlib.Nat.{add-zero, add-suc, mul-le-mul_left}
use native.Mathlib.Numerals.{add-one}
use native.Mathlib.Omega.{arith}
use lib.ListN.{length}
use lib.Ieee.{Float, nan, sub}
use Rattle.std.proofs.Math.Nat.{div-mul-le_self}
use Rattle.storage.specs.Runs.{start, dense, tab}
use Rattle.storage.specs.Shape.{columns, size_of}
use Rattle.storage.specs.Part.{store}
use Rattle.storage.proofs.Starts.{start_dense, start_below, start_le}
use Rattle.storage.proofs.Cells.{length_tab, get_or_tab, tab_ext, take_tab}
use Rattle.storage.proofs.Parts.{length_store, store_in, store_store, store_part}
use Rattle.storage.proofs.Filling.{Filling, filling_else}
use Rattle.rules.specs.Arithmetic.{ieee}
use Rattle.rules.specs.Sums.{all, sum_from, subtract_from}
use Rattle.rules.proofs.Products.{times_swap, times_negated}
use Rattle.block_runs.specs.blocks.Blocks.{block}
use Rattle.block_runs.proofs.blocks.Laws.{read_block, has_dense}
use Rattle.block_runs.specs.axpy.Axpy.{at, run, along, products, add_or_subtract, signed_of}

-- the sums of the rules
pub sum_along : (s : Float) (a b : ℕ → Float) (n : ℕ) → along ieee.plus s a b n ≡ sum_from ieee s (all ieee) a b n
unfolding along sum_from
sum_along s a b zero = refl
sum_along s a b (suc n) = ap (λ (x : Float). ieee.plus x (ieee.times (a n) (b n))) (sum_along s a b n)

pub subtract_along : (s : Float) (a b : ℕ → Float) (n : ℕ) → along ieee.minus s a b n ≡ subtract_from ieee s (all ieee) a b n
unfolding along subtract_from
subtract_along s a b zero = refl
subtract_along s a b (suc n) = ap (λ (x : Float). ieee.minus x (ieee.times (a n) (b n))) (subtract_along s a b n)

module _ (f : Float → Float → Float) where
  pub along_ext : (s s' : Float) (a a' b b' : ℕ → Float) (n : ℕ) → s ≡ s' → ((x : ℕ) → x < n → a x ≡ a' x) → ((x : ℕ) → x < n → b x ≡ b' x)
      → along f s a b n ≡ along f s' a' b' n
  unfolding along
  along_ext s s' a a' b b' zero e h k = e
  along_ext s s' a a' b b' (suc n) e h k =
      ap₂ f (along_ext s s' a a' b b' n e (λ x l. h x (omega arith)) (λ x l. k x (omega arith))) (ap₂ ieee.times (h n (omega arith)) (k n (omega arith)))

  -- x products and k more
  pub along_split : (s : Float) (a b : ℕ → Float) (x k : ℕ) → along f (along f s a b x) (λ y. a (x + y)) (λ y. b (x + y)) k ≡ along f s a b (x + k)
  unfolding along
  along_split s a b x zero = ap (along f s a b) (sym (add-zero x))
  along_split s a b x (suc k) =
      ap (λ (z : Float). f z (ieee.times (a (x + k)) (b (x + k)))) (along_split s a b x k) ∙ ap (along f s a b) (sym (add-suc x k))

pub start_add : (rows x y : ℕ) → start (dense rows) (x + y) ≡ start (dense rows) x + start (dense rows) y
start_add rows x y = omega (arith, start_dense rows (x + y), start_dense rows x, start_dense rows y)

-- column x + y of a block is column y of the block that starts at column x
pub from_column : (a rows : ℕ) (w : List Float) (x k p : ℕ) → p ≡ a + start (dense rows) x → a + size_of (columns rows (x + k)) ≤ length w
    → (i y : ℕ) → i < rows → y < k → block p (columns rows k) w i y ≡ block a (columns rows (x + k)) w i (x + y)
from_column a rows w x k p e fits i y h l =
    sym (read_block (columns rows k) p w i y (p + (start (dense rows) y + i)) (has_dense rows k i y h l) (omega (arith, start_add rows x k)) refl)
    ∙ read_block (columns rows (x + k)) a w i (x + y) (p + (start (dense rows) y + i)) (has_dense rows (x + k) i (x + y) h (omega arith)) fits
    (omega (arith, start_add rows x y))

-- a run written over a run
run_run : (n : ℕ) (g h : ℕ → Float) (w : List Float) → n ≤ length w → run 0 n h (run 0 n g w) ≡ run 0 n h w
run_run n g h w fits = store_store 0 (tab n g) w (omega (arith, length_tab n g)) (tab n h) (omega (arith, length_tab n g, length_tab n h))

-- a double of a run that is written
pub read_run : (to n : ℕ) (g : ℕ → Float) (w : List Float) → to + n ≤ length w → (i k : ℕ) → i < n → k ≡ to + i → at (run to n g w) k ≡ g i
read_run to n g w fits i k l e =
    ap (at (run to n g w)) e ∙ store_in to (tab n g) w (omega (arith, length_tab n g)) nan i (omega (arith, length_tab n g)) ∙ get_or_tab n g i nan l

module _ (f : Float → Float → Float) (acc : List Float) (n : ℕ) (w : List Float) (a rows : ℕ) (v : List Float) (b step r : ℕ)
    (room : n ≤ length acc) (narrow : n ≤ rows) (one : r < step) where
  none_added : acc ≡ products f acc n w a rows v b step r 0
  unfolding along
  none_added =
      sym (store_part 0 n acc (omega arith)) ∙ ap (λ (l : List Float). store 0 l acc)
      (take_tab nan n (at acc) acc room (λ i l. refl))

  -- x products and k more
  more_added : (x k p q : ℕ) (acc₁ acc₂ : List Float) → p ≡ a + start (dense rows) x → q ≡ b + start (dense step) x
      → a + size_of (columns rows (x + k)) ≤ length w → b + size_of (columns step (x + k)) ≤ length v
      → acc₁ ≡ products f acc n w a rows v b step r x → acc₂ ≡ products f acc₁ n w p rows v q step r k
      → acc₂ ≡ products f acc n w a rows v b step r (x + k)
  more_added x k p q acc₁ acc₂ e d fits fits' so then =
      let g : ℕ → Float = λ i. along f (at acc i) (block a (columns rows x) w i) (block b (columns step x) v r) x in
      then ∙ ap (λ (l : List Float). run 0 n (λ i. along f (at l i) (block p (columns rows k) w i) (block q (columns step k) v r) k) l) so
      ∙ run_run n g (λ i. along f (at (run 0 n g acc) i) (block p (columns rows k) w i) (block q (columns step k) v r) k) acc room
      ∙ ap (λ (l : List Float). store 0 l acc)
      (tab_ext n _ _
      (λ i l.
      along_ext f _ _ _ _ _ _ k
      (read_run 0 n g acc (omega arith) i i l (omega arith)
      ∙ along_ext f _ _ _ _ _ _ x refl
      (λ y m. wider a rows w x k fits i y (omega arith) m)
      (λ y m. wider b step v x k fits' r y one m))
      (λ y m. from_column a rows w x k p e fits i y (omega arith) m)
      (λ y m. from_column b step v x k q d fits' r y one m)
      ∙ along_split f (at acc i) (block a (columns rows (x + k)) w i) (block b (columns step (x + k)) v r) x k))
    where
      wider : (a rows : ℕ) (w : List Float) (x k : ℕ) → a + size_of (columns rows (x + k)) ≤ length w → (i y : ℕ) → i < rows → y < x
          → block a (columns rows x) w i y ≡ block a (columns rows (x + k)) w i y
      wider a rows w x k fits i y h l =
          sym (read_block (columns rows x) a w i y (a + (start (dense rows) y + i)) (has_dense rows x i y h l) (omega (arith, start_le (dense rows) x (x + k) (omega arith))) refl)
          ∙ read_block (columns rows (x + k)) a w i y (a + (start (dense rows) y + i)) (has_dense rows (x + k) i y h (omega arith)) fits refl

-- ---- the columns as the loops take them
-- double i of column j, and that it is there
pub column_read : (p rows n : ℕ) (w : List Float) (i j : ℕ) → i < rows → j < n → p + size_of (columns rows n) ≤ length w
    → at w (p + j * rows + i) ≡ block p (columns rows n) w i j
column_read p rows n w i j h l fits = read_block (columns rows n) p w i j (p + j * rows + i) (has_dense rows n i j h l) fits (omega (arith, start_dense rows j))

pub column_room : (p rows n top i j : ℕ) → i < rows → j < n → p + size_of (columns rows n) ≤ top → p + j * rows + i < top
column_room p rows n top i j h l fits = omega (arith, start_dense rows j, start_below (dense rows) j n l)

-- one product more
pub next_product : (f : Float → Float → Float) (s s' : Float) (a b : ℕ → Float) (n : ℕ) {x y : Float} → s' ≡ along f s a b n → x ≡ a n → y ≡ b n
    → f s' (ieee.times x y) ≡ along f s a b (n + 1)
unfolding along
next_product f s s' a b n so e d = rw add-one (ap₂ f so (ap₂ ieee.times e d))

-- the sum that starts with a cell that is not written yet
pub sum_with : {g : ℕ → Float} {n : ℕ} {acc now : List Float} {i : ℕ} (a b : ℕ → Float) (N : ℕ) {s : Float}
    → Filling g 0 n acc now i → s ≡ along ieee.plus (at now i) a b N → s ≡ along ieee.plus (at acc i) a b N
sum_with {i = i} a b N e so = so ∙ ap (λ (x : Float). along ieee.plus x a b N) (filling_else e nan i (inr (omega arith)))

-- room for k of the columns that are left
pub some_fit : (p rows k left top : ℕ) → k ≤ left → p + size_of (columns rows left) ≤ top → p + size_of (columns rows k) ≤ top
some_fit p rows k left top some h = omega (arith, start_le (dense rows) k left some)

-- whole groups of N columns among the inner ones
pub group_fits : (k N inner : ℕ) → 0 < N → k < inner / N → k * N + N ≤ inner
group_fits k N inner h l = omega (arith, div-mul-le_self inner N, mul-le-mul_left N l)

-- room for the columns that are left, and where the next of them start
pub left_fits : (a rows x inner p top : ℕ) → x ≤ inner → p ≡ a + start (dense rows) x → a + size_of (columns rows inner) ≤ top → p + size_of (columns rows (inner - x)) ≤ top
left_fits a rows x inner p top l e h =
    let g : x + (inner - x) ≡ inner = omega arith in
    omega (arith, start_add rows x (inner - x), ap (start (dense rows)) g)

pub next_start : (a rows x k inner p top : ℕ) → x + k ≤ inner → p ≡ a + start (dense rows) x → a + size_of (columns rows inner) ≤ top
    → (p + k * rows ≤ top) × (p + k * rows ≡ a + start (dense rows) (x + k))
next_start a rows x k inner p top l e h =
    let s : start (dense rows) (x + k) ≤ start (dense rows) inner = start_le (dense rows) (x + k) inner l in
    (omega (arith, start_add rows x k, start_dense rows k), omega (arith, start_add rows x k, start_dense rows k))

-- n sums have their first x products: row i of block a of w, row r of block b of v; the next columns start at p and at q
pub record Adding (f : Float → Float → Float) (acc : List Float) (n : ℕ) (w : List Float) (a rows : ℕ) (v : List Float) (b step r inner x p q : ℕ) (now : List Float) : Type 0 where
  pub within : x ≤ inner
  pub room : n ≤ length acc
  pub narrow : n ≤ rows
  pub one : r < step
  pub fits : a + size_of (columns rows inner) ≤ length w
  pub fits' : b + size_of (columns step inner) ≤ length v
  pub place : p ≡ a + start (dense rows) x
  pub place' : q ≡ b + start (dense step) x
  pub long : length now ≡ length acc
  pub so : now ≡ products f acc n w a rows v b step r x

pub adding_none : (f : Float → Float → Float) (acc : List Float) (n : ℕ) (w : List Float) (a rows : ℕ) (v : List Float) (b step r inner x : ℕ) → x ≡ 0
    → n ≤ length acc → n ≤ rows → r < step → a + size_of (columns rows inner) ≤ length w → b + size_of (columns step inner) ≤ length v
    → Adding f acc n w a rows v b step r inner x a b acc
adding_none f acc n w a rows v b step r inner x none room narrow one fits fits' =
    record {
      within = omega arith;
      room = room;
      narrow = narrow;
      one = one;
      fits = fits;
      fits' = fits';
      place = rw none (omega (arith, start_dense rows 0));
      place' = rw none (omega (arith, start_dense step 0));
      long = refl;
      so = rw none (none_added f acc n w a rows v b step r room narrow one);
    }

module _ {f : Float → Float → Float} {acc : List Float} {n : ℕ} {w : List Float} {a rows : ℕ} {v : List Float} {b step r inner x p q : ℕ} {now : List Float}
    (e : Adding f acc n w a rows v b step r inner x p q now) where
  -- room for the columns that are left
  pub adding_left : (p + size_of (columns rows (inner - x)) ≤ length w) × (q + size_of (columns step (inner - x)) ≤ length v)
  adding_left = (
    left_fits a rows x inner p (length w) e.within e.place e.fits,
    left_fits b step x inner q (length v) e.within e.place' e.fits',
  )

  module _ (k : ℕ) (more : x + k ≤ inner) where
    -- room for k of them
    pub adding_room : (p + size_of (columns rows k) ≤ length w) × (q + size_of (columns step k) ≤ length v) × (p + k * rows ≤ length w) × (q + k * step ≤ length v)
    adding_room =
        let u = (next_start a rows x k inner p (length w) more e.place e.fits).0 in
        let v = (next_start b step x k inner q (length v) more e.place' e.fits').0 in
        (omega (arith, start_dense rows k), omega (arith, start_dense step k), u, v)

    -- their products
    pub adding_more : {now' : List Float} {x' p' q' : ℕ} → now' ≡ products f now n w p rows v q step r k → x' ≡ x + k → p' ≡ p + k * rows → q' ≡ q + k * step
        → Adding f acc n w a rows v b step r inner x' p' q' now'
    adding_more {now'} next d u z =
        record {
          within = omega arith;
          room = e.room;
          narrow = e.narrow;
          one = e.one;
          fits = e.fits;
          fits' = e.fits';
          place = rw (d, u) (next_start a rows x k inner p (length w) more e.place e.fits).1;
          place' = rw (d, z) (next_start b step x k inner q (length v) more e.place' e.fits').1;
          long = ap length next ∙ length_store 0 (tab n _) now (omega (arith, length_tab {A = Float} n, e.room, e.long)) ∙ e.long;
          so =
              rw d
              (more_added f acc n w a rows v b step r e.room e.narrow e.one x k p q now now' e.place e.place'
              (omega (arith, start_le (dense rows) (x + k) inner more, e.fits)) (omega (arith, start_le (dense step) (x + k) inner more, e.fits')) e.so next);
        }

  -- the columns that are left at once
  pub adding_rest : {now' : List Float} (k : ℕ) → k ≡ inner - x → now' ≡ products f now n w p rows v q step r k → now' ≡ products f acc n w a rows v b step r inner
  adding_rest k d next =
      let within = e.within in let g : x + k ≡ inner = omega arith in
      (adding_more k (omega arith) next refl refl refl).so ∙ ap (products f acc n w a rows v b step r) g

  -- as far as x' says
  pub adding_done : (x' : ℕ) → x' ≡ x → now ≡ products f acc n w a rows v b step r x'
  adding_done x' d = rw d e.so

-- the first x columns at once
pub adding_first : (f : Float → Float → Float) (acc : List Float) (n : ℕ) (w : List Float) (a rows : ℕ) (v : List Float) (b step r inner x : ℕ) (now : List Float)
    → n ≤ length acc → n ≤ rows → r < step → a + size_of (columns rows inner) ≤ length w → b + size_of (columns step inner) ≤ length v → x ≤ inner
    → now ≡ products f acc n w a rows v b step r x → Adding f acc n w a rows v b step r inner x (a + x * rows) (b + x * step) now
adding_first f acc n w a rows v b step r inner x now room narrow one fits fits' l so =
    adding_more (adding_none f acc n w a rows v b step r inner 0 refl room narrow one fits fits') x (omega arith) so (omega arith) refl refl

-- ---- the factors of every product exchanged
pub along_swap : (f : Float → Float → Float) (s : Float) (a b : ℕ → Float) (n : ℕ) → along f s a b n ≡ along f s b a n
unfolding along
along_swap f s a b zero = refl
along_swap f s a b (suc n) = ap₂ f (along_swap f s a b n) (times_swap (a n) (b n))

-- what a run holds once its start is set and the products are taken
pub summed : (f : Float → Float → Float) (n : ℕ) (w : List Float) (a rows : ℕ) (v : List Float) (b step r inner : ℕ) (acc acc₁ acc₂ : List Float) (z : ℕ → Float)
    → n ≤ length acc → acc₁ ≡ run 0 n z acc → acc₂ ≡ products f acc₁ n w a rows v b step r inner
    → (i : ℕ) → i < n → at acc₂ i ≡ along f (z i) (block a (columns rows inner) w i) (block b (columns step inner) v r) inner
summed f n w a rows v b step r inner acc acc₁ acc₂ z room first then i l =
    let g : ℕ → Float = λ j. along f (at acc₁ j) (block a (columns rows inner) w j) (block b (columns step inner) v r) inner in
    let long : length acc₁ ≡ length acc = ap length first ∙ length_store 0 (tab n z) acc (omega (arith, length_tab n z)) in
    ap (λ (x : List Float). at x i) then ∙ read_run 0 n g acc₁ (omega arith) i i l (omega arith)
    ∙ ap (λ (x : Float). along f x (block a (columns rows inner) w i) (block b (columns step inner) v r) inner)
    (ap (λ (x : List Float). at x i) first ∙ read_run 0 n z acc (omega arith) i i l (omega arith))

-- ---- to take a product off is to add it with a factor that is negated
signed_add_or_subtract : (subtract : Bool) (s x y : Float) → ieee.plus s (ieee.times x (signed_of subtract y)) ≡ add_or_subtract subtract s (ieee.times x y)
unfolding sub
signed_add_or_subtract false s x y = refl
signed_add_or_subtract true s x y = ap (ieee.plus s) (times_negated x y)

-- products with signed factors
signed_along : (subtract : Bool) (s : Float) (a b g : ℕ → Float) (n : ℕ) → ((x : ℕ) → x < n → g x ≡ signed_of subtract (b x))
    → along ieee.plus s a g n ≡ along (add_or_subtract subtract) s a b n
unfolding along
signed_along subtract s a b g zero h = refl
signed_along subtract s a b g (suc n) h =
    ap₂ (λ (x y : Float). ieee.plus x (ieee.times (a n) y)) (signed_along subtract s a b g n (λ x l. h x (omega arith))) (h n (omega arith))
    ∙ signed_add_or_subtract subtract (along (add_or_subtract subtract) s a b n) (a n) (b n)

pub columns_added : (subtract : Bool) (acc acc' : List Float) (n : ℕ) (a : ℕ → ℕ → Float) (b g : ℕ → Float) (N : ℕ)
    → acc' ≡ run 0 n (λ i. along ieee.plus (at acc i) (a i) g N) acc → ((x : ℕ) → x < N → g x ≡ signed_of subtract (b x))
    → acc' ≡ run 0 n (λ i. along (add_or_subtract subtract) (at acc i) (a i) b N) acc
columns_added subtract acc acc' n a b g N so h =
    so ∙ ap (λ (l : List Float). store 0 l acc) (tab_ext n _ _ (λ i l. signed_along subtract (at acc i) (a i) b g N h))
