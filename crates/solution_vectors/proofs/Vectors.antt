-- A vector by its sorted blocks: blocks stored one by one are the vector, and are read again.
use Prim.Native.Nat.{ℕ, zero, suc, ◌+◌, ◌≤◌, ◌<◌}
use mathlib.Core.Path.{◌≡◌, refl, sym, ap, ap₂, subst, ◌∙◌}
use mathlib.Core.Bool.{true}
use mathlib.Core.List.{List, [], ◌++◌}
use mathlib.Core.Logic.{◌⊎◌, inl, inr, ⊎_elim, by_cases}
use native.Mathlib.Decide.{dec_lt}
use native.Mathlib.Nat.{zero-add}
use native.Mathlib.Omega.{arith}
use lib.ListN.{length, get_or, take, drop, set, length-set}
use lib.Seq.{take_all, take-add, drop-drop, get_or-set_same, get_or-set_other}
use lib.Ieee.{Float}
use Rattle.storage.specs.Runs.{tab}
use Rattle.storage.specs.Part.{part, store}
use Rattle.storage.proofs.Cells.{length_tab, get_or_tab, tab_ext, take_tab}
use Rattle.storage.proofs.Parts.{length_part, length_store, part_in, part_same, part_else, store_in, store_part, store_inside}
use Rattle.storage.proofs.Filling.{Filling, filling_none, filling_else, array_more, array_done}
use Rattle.layout.specs.declared.Layout.{Layout}
use Rattle.layout.specs.Blocks.{sum}
use Rattle.layout.specs.Shapes.{levels}
use Rattle.heading_format.specs.Heading.{sheet_levels, valid_layout}
use Rattle.workspace.specs.Loaded.{row_start}
use Rattle.block_places.proofs.sheet_rows.Rows.{rows_apart}
use Rattle.block_places.proofs.sheet_rows.AllRows.{all_rows, rows_within}
use Rattle.profile.specs.Solves.{block_in}
use Rattle.profile.specs.Finish.{sorted_index, in_sheet_order}
use Rattle.solution_vectors.specs.Vectors.{block_at, blocks_at, with_vector, with_block_at, Sized}
use Rattle.solution_vectors.proofs.Order.{index_at, levels_index, order_length, order_block}

module _ (y : Layout) (ok : valid_layout y ≡ true) where
  abbrev sheet_m : ℕ → ℕ
  sheet_m = sheet_levels y y.k

  -- ---- blocks as a list

  -- a list of k blocks, block by block
  sized_list : (l : List (List Float)) → Sized y l → tab y.k (block_in l) ≡ l
  sized_list l sized =
      let n = sized.count in
      sym (take_tab [] y.k (block_in l) l (omega arith) (λ i h. refl)) ∙ take_all y.k l (omega arith)

  pub sized_tab : (f : ℕ → List Float) → ((j : ℕ) → j < y.k → length (f j) ≡ levels y j) → Sized y (tab y.k f)
  sized_tab f h = record { count = length_tab y.k f; each = λ j l. ap length (get_or_tab y.k f j [] l) ∙ h j l }

  -- another block for block i
  pub sized_set : (l : List (List Float)) → Sized y l → (i : ℕ) (b : List Float) → i < y.k → length b ≡ levels y i → Sized y (set l i b)
  sized_set l sized i b h e =
      let n = sized.count in
      record {
        count = length-set l i b ∙ n;
        each = λ j g.
            by_cases (dec_lt j i) (λ a. ap length (get_or-set_other l i j b [] (λ q. omega arith)) ∙ sized.each j g)
            (λ a. by_cases (dec_lt i j) (λ c. ap length (get_or-set_other l i j b [] (λ q. omega arith)) ∙ sized.each j g)
            (λ c. let q : i ≡ j = omega arith in
            subst (λ (x : ℕ). length (block_in (set l i b) x) ≡ levels y x) q (ap length (get_or-set_same l i b [] (omega arith)) ∙ e)));
      }

  -- ---- the blocks of a vector that lies in v

  module _ (from : ℕ) (v : List Float) (fits : from + y.q ≤ length v) where
    block_fits : (j : ℕ) → j < y.k → from + row_start y j + levels y j ≤ length v
    block_fits j h = omega (arith, rows_within y ok j h)

    pub block_length : (j : ℕ) → j < y.k → length (block_at y from v j) ≡ levels y j
    block_length j h = length_part (from + row_start y j) (levels y j) v (block_fits j h)

    pub block_in_lem : (j : ℕ) → j < y.k → block_in (blocks_at y from v) j ≡ block_at y from v j
    unfolding blocks_at
    block_in_lem j h = get_or_tab y.k (block_at y from v) j [] h

    pub sized_blocks : Sized y (blocks_at y from v)
    unfolding blocks_at
    sized_blocks = sized_tab (block_at y from v) block_length

    in_order_lem : (n : ℕ) → n ≤ y.k → in_sheet_order y (blocks_at y from v) n ≡ part from (sum sheet_m n) v
    unfolding in_sheet_order sum
    in_order_lem zero h = refl
    in_order_lem (suc n) h =
        let s : ℕ = sorted_index y y.k n in
        let at = index_at y ok n h in
        let here : block_in (blocks_at y from v) s ≡ part (from + sum sheet_m n) (sheet_m n) v =
        block_in_lem s at.0 ∙ ap₂ (λ (a b : ℕ). part (from + sum sheet_m a) b v) at.1 (levels_index y ok n h) in
        ap₂ (λ (a b : List Float). a ++ b) (in_order_lem n (omega arith)) (here ∙ ap (take (sheet_m n)) (sym (drop-drop (sum sheet_m n) from v)))
        ∙ sym (take-add (sum sheet_m n) (sheet_m n) (drop from v))

    -- in sheet order they are its q rows
    pub blocks_order : in_sheet_order y (blocks_at y from v) y.k ≡ part from y.q v
    blocks_order = in_order_lem y.k (omega arith) ∙ ap (λ (n : ℕ). part from n v) (all_rows y ok)

    -- stored again they change nothing
    pub vector_same : with_vector y from (blocks_at y from v) v ≡ v
    vector_same = ap (λ (l : List Float). store from l v) blocks_order ∙ store_part from y.q v fits

  -- the blocks decide the vector
  pub same_blocks : (a b : List Float) → length a ≡ y.q → length b ≡ y.q
      → ((j : ℕ) → j < y.k → part (row_start y j) (levels y j) a ≡ part (row_start y j) (levels y j) b) → a ≡ b
  unfolding blocks_at
  same_blocks a b p q h =
      whole a p
      ∙ ap (λ (l : List (List Float)). in_sheet_order y l y.k)
      (tab_ext y.k (block_at y 0 a) (block_at y 0 b) (λ j l. rw zero-add (h j l)))
      ∙ sym (whole b q)
    where
      whole : (c : List Float) → length c ≡ y.q → c ≡ in_sheet_order y (tab y.k (block_at y 0 c)) y.k
      whole c e = sym (blocks_order 0 c (omega arith) ∙ take_all y.q c (omega arith))

  -- ---- a vector stored in v

  module _ (from : ℕ) (l : List (List Float)) (sized : Sized y l) (v : List Float) (fits : from + y.q ≤ length v) where
    abbrev ordered : List Float
    ordered = in_sheet_order y l y.k

    room : from + length ordered ≤ length v
    room = omega (arith, order_length y ok l sized)

    pub length_vector : length (with_vector y from l v) ≡ length v
    length_vector = length_store from ordered v room

    -- its rows are the blocks in sheet order
    pub vector_rows : part from y.q (with_vector y from l v) ≡ ordered
    vector_rows = part_same from ordered v room y.q (order_length y ok l sized)

    -- its blocks are read again
    pub vector_at : (j : ℕ) → j < y.k → block_at y from (with_vector y from l v) j ≡ block_in l j
    vector_at j h =
        part_in from ordered v room (row_start y j) (levels y j) (omega (arith, rows_within y ok j h, order_length y ok l sized))
        ∙ order_block y ok l sized j h

    pub read_vector : blocks_at y from (with_vector y from l v) ≡ l
    unfolding blocks_at
    read_vector = tab_ext y.k (block_at y from (with_vector y from l v)) (block_in l) vector_at ∙ sized_list l sized

    -- what lies apart from it is as it was
    pub vector_else : (off n : ℕ) → (off + n ≤ from) ⊎ (from + y.q ≤ off) → part off n (with_vector y from l v) ≡ part off n v
    vector_else off n apart =
        part_else from ordered v room off n (⊎_elim (λ h. inl h) (λ h. inr (omega (arith, order_length y ok l sized))) apart)

    -- another block for block i
    pub vector_block : (i : ℕ) (b : List Float) → i < y.k → length b ≡ levels y i → with_block_at y from i b (with_vector y from l v) ≡ with_vector y from (set l i b) v
    vector_block i b h e =
        let n : length ordered ≡ y.q = order_length y ok l sized in
        let inside : row_start y i + length b ≤ length ordered = omega (arith, rows_within y ok i h) in
        store_inside from ordered v (row_start y i) b room inside
        ∙ ap (λ (x : List Float). store from x v)
        (same_blocks (store (row_start y i) b ordered) (in_sheet_order y (set l i b) y.k) (length_store (row_start y i) b ordered inside ∙ n)
        (order_length y ok (set l i b) (sized_set l sized i b h e))
        (λ j g. replaced inside j g ∙ sym (order_block y ok (set l i b) (sized_set l sized i b h e) j g)))
      where
        other : row_start y i + length b ≤ length ordered → (j : ℕ) → j < y.k → (i ≡ j → ⊥) → part (row_start y j) (levels y j) (store (row_start y i) b ordered) ≡ block_in (set l i b) j
        other inside j g apart =
            part_else (row_start y i) b ordered inside (row_start y j) (levels y j)
            (⊎_elim (λ a. inr (omega arith)) (λ a. inl (omega arith)) (rows_apart y ok i j h g apart))
            ∙ order_block y ok l sized j g ∙ sym (get_or-set_other l i j b [] (λ q. apart (sym q)))

        replaced : row_start y i + length b ≤ length ordered → (j : ℕ) → j < y.k → part (row_start y j) (levels y j) (store (row_start y i) b ordered) ≡ block_in (set l i b) j
        replaced inside j g =
            by_cases (dec_lt i j) (λ a. other inside j g (λ q. omega arith))
            (λ a. by_cases (dec_lt j i) (λ c. other inside j g (λ q. omega arith))
            (λ c. let q : i ≡ j = omega arith in
            subst (λ (x : ℕ). part (row_start y x) (levels y x) (store (row_start y i) b ordered) ≡ block_in (set l i b) x) q
            (part_same (row_start y i) b ordered inside (levels y i) e ∙ sym (get_or-set_same l i b [] (omega (arith, sized.count))))))

  -- ---- one block stored in v

  module _ (from i : ℕ) (b v : List Float) (here : i < y.k) (size : length b ≡ levels y i) (fits : from + y.q ≤ length v) where
    block_room : from + row_start y i + length b ≤ length v
    block_room = omega (arith, rows_within y ok i here)

    pub length_block : length (with_block_at y from i b v) ≡ length v
    length_block = length_store (from + row_start y i) b v block_room

    -- it is read again
    pub block_same : block_at y from (with_block_at y from i b v) i ≡ b
    block_same = part_same (from + row_start y i) b v block_room (levels y i) size

    -- every other block is as it was
    pub block_other : (j : ℕ) → j < y.k → (i ≡ j → ⊥) → block_at y from (with_block_at y from i b v) j ≡ block_at y from v j
    block_other j h apart =
        part_else (from + row_start y i) b v block_room (from + row_start y j) (levels y j)
        (⊎_elim (λ a. inr (omega arith)) (λ a. inl (omega arith)) (rows_apart y ok i j here h apart))

    -- what lies apart from the vector too
    pub block_else : (off n : ℕ) → (off + n ≤ from) ⊎ (from + y.q ≤ off) → part off n (with_block_at y from i b v) ≡ part off n v
    block_else off n apart =
        part_else (from + row_start y i) b v block_room off n
        (⊎_elim (λ h. inl (omega arith)) (λ h. inr (omega (arith, rows_within y ok i here))) apart)

-- ---- a loop that writes block after block

-- the first j blocks are written, block i being f i, and all else is as in v
pub record Blockwise (y : Layout) (from : ℕ) (f : ℕ → List Float) (v r : List Float) (j : ℕ) : Type 0 where
  pub valid_layout : valid_layout y ≡ true
  pub within : j ≤ y.k
  pub fits : from + y.q ≤ length v
  pub long : length r ≡ length v
  pub blocks : List (List Float)
  pub sized : Sized y blocks
  pub filling : Filling f 0 y.k (blocks_at y from v) blocks j
  pub same : r ≡ with_vector y from blocks v

module _ {y : Layout} {from : ℕ} {f : ℕ → List Float} {v : List Float} where
  pub blockwise_none : valid_layout y ≡ true → from + y.q ≤ length v → Blockwise y from f v v 0
  blockwise_none ok fits =
      let sized = sized_blocks y ok from v fits in
      let n = sized.count in
      record {
        valid_layout = ok;
        within = omega arith;
        fits = fits;
        long = refl;
        blocks = blocks_at y from v;
        sized = sized;
        filling = filling_none f 0 y.k (blocks_at y from v) (omega arith);
        same = sym (vector_same y ok from v fits);
      }

  module _ {r : List Float} {j : ℕ} (e : Blockwise y from f v r j) where
    -- one block more
    pub blockwise_more : {u : List Float} → j < y.k → length (f j) ≡ levels y j → u ≡ with_block_at y from j (f j) r → Blockwise y from f v u (j + 1)
    blockwise_more {u} h size then =
        let fits : from + y.q ≤ length r = omega (arith, e.fits, e.long) in
        record {
          valid_layout = e.valid_layout;
          within = omega arith;
          fits = e.fits;
          long = ap length then ∙ length_block y e.valid_layout from j (f j) r h size fits ∙ e.long;
          blocks = set e.blocks j (f j);
          sized = sized_set y e.valid_layout e.blocks e.sized j (f j) h size;
          filling = array_more e.filling h refl;
          same =
              then ∙ ap (with_block_at y from j (f j)) e.same
              ∙ vector_block y e.valid_layout from e.blocks e.sized v e.fits j (f j) h size;
        }

    all_blocks : y.k ≤ j → e.blocks ≡ tab y.k f
    all_blocks h = array_done e.filling h (sized_blocks y e.valid_layout from v e.fits).count

    -- all of them
    pub blockwise_all : y.k ≤ j → r ≡ with_vector y from (tab y.k f) v
    blockwise_all h = e.same ∙ ap (λ (l : List (List Float)). with_vector y from l v) (all_blocks h)

    pub blockwise_sized : y.k ≤ j → Sized y (tab y.k f)
    blockwise_sized h = subst (Sized y) (all_blocks h) e.sized

    block_is : (i : ℕ) → i < y.k → block_at y from r i ≡ block_in e.blocks i
    block_is i h = ap (λ (w : List Float). block_at y from w i) e.same ∙ vector_at y e.valid_layout from e.blocks e.sized v e.fits i h

    -- a block that is not written yet is as it was
    pub blockwise_next : (i : ℕ) → j ≤ i → i < y.k → block_at y from r i ≡ block_at y from v i
    blockwise_next i h g =
        block_is i g ∙ filling_else e.filling [] i (inr (omega arith)) ∙ block_in_lem y e.valid_layout from v e.fits i g

    -- one that is written is f i
    pub blockwise_done : (i : ℕ) → i < j → block_at y from r i ≡ f i
    blockwise_done i h =
        let within = e.within in
        let start = (sized_blocks y e.valid_layout from v e.fits).count in
        let long = length_tab j f in
        block_is i (omega arith)
        ∙ ap₂ (λ (l : List (List Float)) (x : ℕ). get_or l x []) e.filling.same (sym (zero-add i))
        ∙ store_in 0 (tab j f) (blocks_at y from v) (omega arith) [] i (omega arith) ∙ get_or_tab j f i [] h

    -- what lies apart from the vector is as it was
    pub blockwise_else : (off n : ℕ) → (off + n ≤ from) ⊎ (from + y.q ≤ off) → part off n r ≡ part off n v
    blockwise_else off n apart =
        ap (part off n) e.same ∙ vector_else y e.valid_layout from e.blocks e.sized v e.fits off n apart

-- all the blocks of a list l
pub blockwise_list : {y : Layout} {from : ℕ} {l : List (List Float)} {v r : List Float} {j : ℕ} → Blockwise y from (block_in l) v r j → Sized y l → y.k ≤ j → r ≡ with_vector y from l v
blockwise_list {y} {from} {l} {v} e sized h = blockwise_all e h ∙ ap (λ (x : List (List Float)). with_vector y from x v) (sized_list y e.valid_layout l sized)
