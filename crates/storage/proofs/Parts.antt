-- Reading a part and storing a list: what was stored is read again, and all else is as it was.
use Prim.Native.Nat.{ℕ, suc, ◌+◌, ◌-◌, ◌≤◌, ◌<◌}
use mathlib.Core.Path.{◌≡◌, refl, sym, ap, ap₂, ◌∙◌}
use mathlib.Core.List.{List, [], ◌∷◌, ◌++◌, append_assoc, append-nil}
use mathlib.Core.Logic.{◌⊎◌, ⊎_elim}
use native.Mathlib.Nat.{add-zero, add_assoc}
use native.Mathlib.Omega.{arith}
use lib.ListN.{length, get_or, take, drop, set, length-append, length-take, length-drop, drop_of_length-le, take-append-drop}
use lib.Seq.{
  get_or-take,
  get_or-drop,
  take-append-le,
  drop-append-le,
  take-append-add,
  drop-append-add,
  take_all,
  take-add,
  drop-drop,
  take_at,
  set_at,
  drop-cons,
  append_snoc,
  length-take-le,
  paste,
  paste-zero,
}
use borrow.Rule.Slice.PartMut.{put_mid}
use Rattle.storage.specs.Part.{part, store}

module _ {A : Type 0} where
  -- ---- lengths

  -- a part that fits has as many cells as it names
  pub length_part : (off n : ℕ) (w : List A) → off + n ≤ length w → length (part off n w) ≡ n
  length_part off n w h = simp (length-take, length-drop) (omega arith)

  -- a store that fits leaves the length as it was
  pub length_store : (off : ℕ) (l w : List A) → off + length l ≤ length w → length (store off l w) ≡ length w
  unfolding store
  length_store off l w fits = simp (length-append, length-take, length-drop) (omega arith)

  -- ---- a part, and a list stored, on either side of a seam

  -- a part of the first of two lists, and of the second
  pub part_left : (a b : List A) (off n : ℕ) → off + n ≤ length a → part off n (a ++ b) ≡ part off n a
  part_left a b off n h = ap (take n) (drop-append-le off a b (omega arith)) ∙ take-append-le n (drop off a) b (simp length-drop (omega arith))

  pub part_right : (a b : List A) (off n k : ℕ) → off ≡ length a + k → part off n (a ++ b) ≡ part k n b
  part_right a b off n k e = rw e (ap (take n) (drop-append-add a b k))

  -- a list stored in the first of two lists, and in the second
  pub store_left : (a b : List A) (off : ℕ) (l : List A) → off + length l ≤ length a → store off l (a ++ b) ≡ store off l a ++ b
  unfolding store
  store_left a b off l h =
      ap₂ (λ (x y : List A). x ++ l ++ y) (take-append-le off a b (omega arith)) (drop-append-le (off + length l) a b h)
      ∙ sym (append_assoc (take off a ++ l) (drop (off + length l) a) b)

  pub store_right : (a b : List A) (off : ℕ) (l : List A) (k : ℕ) → off ≡ length a + k → store off l (a ++ b) ≡ a ++ store k l b
  unfolding store
  store_right a b off l k e =
      rw (e, add_assoc)
      (ap₂ (λ (x y : List A). x ++ l ++ y) (take-append-add a b k) (drop-append-add a b (k + length l)) ∙ simp append_assoc)

  -- a list stored inside what is stored
  pub store_inside : (off : ℕ) (L w : List A) (j : ℕ) (l : List A) → off + length L ≤ length w → j + length l ≤ length L
      → store (off + j) l (store off L w) ≡ store off (store j l L) w
  unfolding store
  store_inside off L w j l fits h =
      let e : length (take off w) ≡ off = length-take-le off w (omega arith) in
      ap (store (off + j) l) (append_assoc (take off w) L (drop (off + length L) w))
      ∙ store_right (take off w) (L ++ drop (off + length L) w) (off + j) l j (omega arith)
      ∙ ap (λ (x : List A). take off w ++ x) (store_left L (drop (off + length L) w) j l h)
      ∙ sym (append_assoc (take off w) (store j l L) (drop (off + length L) w))
      ∙ ap (λ (k : ℕ). take off w ++ store j l L ++ drop (off + k) w) (sym (length_store j l L h))

  -- ---- what is read

  -- cell i of a part
  pub get_or_part : (off n : ℕ) (w : List A) (i : ℕ) (d : A) → i < n → get_or (part off n w) i d ≡ get_or w (off + i) d
  get_or_part off n w i d h = get_or-take n (drop off w) i d h ∙ get_or-drop off w i d

  module _ (off : ℕ) (l w : List A) (fits : off + length l ≤ length w) where
    head : length (take off w) ≡ off
    head = length-take-le off w (omega arith)

    around : store off l w ≡ take off w ++ (l ++ drop (off + length l) w)
    unfolding store
    around = append_assoc (take off w) l (drop (off + length l) w)

    -- what stands before
    pub take_store : take off (store off l w) ≡ take off w
    take_store = ap (take off) around ∙ take_at (take off w) (l ++ drop (off + length l) w) off head

    -- what stands behind
    pub drop_store : (k : ℕ) → off + length l ≤ k → drop k (store off l w) ≡ drop k w
    unfolding store
    drop_store k h =
        let e : k ≡ length (take off w ++ l) + (k - (off + length l)) = simp (length-append, length-take) (omega arith) in
        let q : off + length l + (k - (off + length l)) ≡ k = omega arith in
        ap (λ (i : ℕ). drop i (store off l w)) e ∙ drop-append-add (take off w ++ l) (drop (off + length l) w) (k - (off + length l))
        ∙ drop-drop (k - (off + length l)) (off + length l) w ∙ ap (λ (i : ℕ). drop i w) q

    -- a part of what was stored
    pub part_in : (j n : ℕ) → j + n ≤ length l → part (off + j) n (store off l w) ≡ part j n l
    part_in j n h =
        ap (part (off + j) n) around ∙ part_right (take off w) (l ++ drop (off + length l) w) (off + j) n j (omega (arith, head))
        ∙ part_left l (drop (off + length l) w) j n h

    -- what was stored is there
    pub part_same : (n : ℕ) → length l ≡ n → part off n (store off l w) ≡ l
    part_same n e =
        ap (λ (k : ℕ). part k n (store off l w)) (sym (add-zero off)) ∙ part_in 0 n (omega arith)
        ∙ take_all n l (omega arith)

    -- a part that lies before or behind is as it was
    pub part_else : (off' n : ℕ) → (off' + n ≤ off) ⊎ (off + length l ≤ off') → part off' n (store off l w) ≡ part off' n w
    part_else off' n =
        ⊎_elim
        (λ h. ap (part off' n) around ∙ part_left (take off w) (l ++ drop (off + length l) w) off' n (omega (arith, head))
        ∙ sym (part_left (take off w) (drop off w) off' n (omega (arith, head))) ∙ ap (part off' n) (take-append-drop off w))
        (λ h. ap (take n) (drop_store off' h))

    -- each cell before is as it was
    pub store_before : (d : A) (i : ℕ) → i < off → get_or (store off l w) i d ≡ get_or w i d
    store_before d i h =
        sym (get_or-take off (store off l w) i d h) ∙ ap (λ (x : List A). get_or x i d) take_store ∙ get_or-take off w i d h

    -- each cell behind is as it was
    pub store_behind : (d : A) (i : ℕ) → off + length l ≤ i → get_or (store off l w) i d ≡ get_or w i d
    store_behind d i h =
        rw (← (add-zero i)) (sym (get_or-drop i (store off l w) 0 d) ∙ ap (λ (x : List A). get_or x 0 d) (drop_store i h) ∙ get_or-drop i w 0 d)

    -- each cell elsewhere is as it was
    pub store_else : (d : A) (i : ℕ) → (i < off) ⊎ (off + length l ≤ i) → get_or (store off l w) i d ≡ get_or w i d
    store_else d i = ⊎_elim (store_before d i) (store_behind d i)

    -- a cell of what was stored
    pub store_in : (d : A) (i : ℕ) → i < length l → get_or (store off l w) (off + i) d ≡ get_or l i d
    store_in d i h =
        sym (get_or_part off (length l) (store off l w) i d h) ∙ ap (λ (x : List A). get_or x i d) (part_same (length l) refl)

    -- what is stored over it stands alone
    pub store_store : (l' : List A) → length l ≤ length l' → store off l' (store off l w) ≡ store off l' w
    unfolding store
    store_store l' h = ap₂ (λ (x y : List A). x ++ l' ++ y) take_store (drop_store (off + length l') (omega arith))

    -- a list stored right behind it: both are stored as one
    pub store_more : (m : List A) → store (off + length l) m (store off l w) ≡ store off (l ++ m) w
    unfolding store
    store_more m =
        let k : length (take off w ++ l) ≡ off + length l = length-append (take off w) l ∙ omega (arith, head) in
        ap₂ (λ (x y : List A). x ++ m ++ y) (take_at (take off w ++ l) (drop (off + length l) w) (off + length l) k)
        (drop_store (off + length l + length m) (omega arith)
        ∙ ap (λ (i : ℕ). drop i w) (add_assoc off (length l) (length m) ∙ ap (λ (i : ℕ). off + i) (sym (length-append l m))))
        ∙ ap (λ (x : List A). x ++ drop (off + length (l ++ m)) w) (append_assoc (take off w) l m)

    -- one cell written right behind it
    pub store_one : (v : A) → off + length l < length w → set (store off l w) (off + length l) v ≡ store off (l ++ (v ∷ [])) w
    unfolding store
    store_one v h =
        let k : length (take off w ++ l) ≡ off + length l = length-append (take off w) l ∙ omega (arith, head) in
        let e : suc (off + length l) ≡ off + length (l ++ (v ∷ [])) = simp length-append (omega arith) in
        ap (λ (x : List A). set (take off w ++ l ++ x) (off + length l) v) (drop-cons w (off + length l) v h)
        ∙ set_at (take off w ++ l) (get_or w (off + length l) v) (drop (suc (off + length l)) w) v (off + length l) k
        ∙ sym (append_snoc (take off w ++ l) v (drop (suc (off + length l)) w))
        ∙ ap₂ (λ (x : List A) (i : ℕ). x ++ drop i w) (append_assoc (take off w) l (v ∷ [])) e

  -- storing nothing changes nothing
  pub store_nil : (off : ℕ) (w : List A) → store off [] w ≡ w
  unfolding store
  store_nil off w = sym (paste-zero w off [])

  -- nothing is left of a list that is stored over whole
  pub store_all : (l w : List A) → length w ≡ length l → store 0 l w ≡ l
  unfolding store
  store_all l w e = let h : length w ≤ 0 + length l = omega arith in ap (λ (x : List A). l ++ x) (drop_of_length-le w h) ∙ append-nil l

  -- a copy of the first n cells of l, as a loop leaves it after n turns
  pub store_paste : (off : ℕ) (l w : List A) (n : ℕ) → n ≤ length l → paste w off l n ≡ store off (take n l) w
  unfolding store
  store_paste off l w n h = rw (length-take-le n l h)

  -- storing what stands there changes nothing
  pub store_part : (off n : ℕ) (w : List A) → off + n ≤ length w → store off (part off n w) w ≡ w
  unfolding store
  store_part off n w h =
      rw (length_part off n w h) (ap (λ (x : List A). x ++ drop (off + n) w) (sym (take-add off n w)) ∙ take-append-drop (off + n) w)

  -- two stores, the first place before the second
  store_swap : (off : ℕ) (l : List A) (off' : ℕ) (l' w : List A) → off + length l ≤ off' → off' + length l' ≤ length w
      → store off l (store off' l' w) ≡ store off' l' (store off l w)
  store_swap off l off' l' w h k =
      let x : List A = take off' w in
      let y : List A = drop off' w in
      let e : x ++ y ≡ w = take-append-drop off' w in
      let m : length x ≡ off' = length-take-le off' w (omega arith) in
      rw (← e)
      (ap (store off l) (store_right x y off' l' 0 (omega arith)) ∙ store_left x (store 0 l' y) off l (omega arith)
      ∙ sym (store_right (store off l x) y off' l' 0 (omega (arith, length_store off l x (omega arith))))
      ∙ ap (store off' l') (sym (store_left x y off l (omega arith))))

  -- two stores at places apart may come in either order
  pub store_commute : (off : ℕ) (l : List A) (off' : ℕ) (l' w : List A) → off + length l ≤ length w → off' + length l' ≤ length w
      → (off + length l ≤ off') ⊎ (off' + length l' ≤ off) → store off l (store off' l' w) ≡ store off' l' (store off l w)
  store_commute off l off' l' w h k = ⊎_elim (λ m. store_swap off l off' l' w m k) (λ m. sym (store_swap off' l' off l w m h))

  -- a list stored in a part that is lent is stored in the whole
  pub store_lent : (w : List A) (a k j : ℕ) (l : List A) → a + k ≤ length w → j + length l ≤ k → put_mid a k w (store j l (part a k w)) ≡ store (a + j) l w
  store_lent w a k j l g h =
      let m : List A = part a k w in
      let p : List A = drop k (drop a w) in
      sym
      (ap (store (a + j) l) (sym (take-append-drop a w))
      ∙ store_right (take a w) (drop a w) (a + j) l j (omega (arith, length-take-le a w (omega arith)))
      ∙ ap (λ (x : List A). take a w ++ store j l x) (sym (take-append-drop k (drop a w)))
      ∙ ap (λ (x : List A). take a w ++ x) (store_left m p j l (omega (arith, length_part a k w g))))
