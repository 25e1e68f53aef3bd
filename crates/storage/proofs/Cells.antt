-- The list of a block's runs: its length, its cells, and that nothing else decides it.
use Prim.Native.Nat.{ℕ, zero, suc, ◌+◌, ◌≤◌, ◌<◌}
use mathlib.Core.Path.{◌≡◌, refl, sym, ap, ap₂, ◌∙◌}
use mathlib.Core.List.{List, [], ◌∷◌, ◌++◌}
use mathlib.Core.Logic.{by_cases}
use native.Mathlib.Decide.{dec_lt}
use native.Mathlib.Omega.{arith}
use lib.ListN.{length, get_or, take, drop, replicate, length-append, length-drop, get_or-append}
use lib.Seq.{take-add, get_or-append-add, get_or-drop, take-suc, take_all}
use Rattle.storage.specs.Runs.{start, single, tab, cells}
use Rattle.storage.specs.Part.{part}
use Rattle.storage.proofs.Starts.{start_below}

module _ {A : Type 0} where
  -- inside a list the default does not count
  pub any_default : (l : List A) (i : ℕ) (d e : A) → i < length l → get_or l i d ≡ get_or l i e
  any_default [] i d e h = absurd (omega arith)
  any_default (x ∷ l) zero d e h = refl
  any_default (x ∷ l) (suc i) d e h = any_default l i d e (omega arith)

  -- nor in a list of defaults
  pub default_at : (d : A) (n i : ℕ) → get_or (replicate n d) i d ≡ d
  default_at d zero i = refl
  default_at d (suc n) zero = refl
  default_at d (suc n) (suc i) = default_at d n i

  -- a list of n cells has n
  pub length_tab : (n : ℕ) (f : ℕ → A) → length (tab n f) ≡ n
  unfolding tab
  length_tab zero f = refl
  length_tab (suc n) f = length-append (tab n f) (f n ∷ []) ∙ omega (arith, length_tab n f)

  -- the first of them, and the others
  pub tab_front : (n : ℕ) (f : ℕ → A) → tab (suc n) f ≡ f 0 ∷ tab n (λ i. f (suc i))
  unfolding tab
  tab_front zero f = refl
  tab_front (suc n) f = ap (λ (l : List A). l ++ (f (suc n) ∷ [])) (tab_front n f)

  -- cell i of it is f i
  pub get_or_tab : (n : ℕ) (f : ℕ → A) (i : ℕ) (d : A) → i < n → get_or (tab n f) i d ≡ f i
  unfolding tab
  get_or_tab zero f i d h = absurd (omega arith)
  get_or_tab (suc n) f i d h =
      by_cases (dec_lt i n)
      (λ l. get_or-append (tab n f) (f n ∷ []) d i (omega (arith, length_tab n f)) ∙ get_or_tab n f i d l)
      (λ l. let e : i ≡ length (tab n f) + 0 = omega (arith, length_tab n f) in
      let q : i ≡ n = omega arith in
      ap (λ (k : ℕ). get_or (tab n f ++ (f n ∷ [])) k d) e ∙ get_or-append-add (tab n f) (f n ∷ []) 0 d ∙ ap f (sym q))

  -- only f at its n cells counts
  pub tab_ext : (n : ℕ) (f g : ℕ → A) → ((i : ℕ) → i < n → f i ≡ g i) → tab n f ≡ tab n g
  unfolding tab
  tab_ext zero f g h = refl
  tab_ext (suc n) f g h = ap₂ (λ (x : List A) (y : A). x ++ (y ∷ [])) (tab_ext n f g (λ i l. h i (omega arith))) (h n (omega arith))

  -- a list that agrees with f on its first n cells begins with them
  pub take_tab : (d : A) (n : ℕ) (f : ℕ → A) (l : List A) → n ≤ length l → ((i : ℕ) → i < n → get_or l i d ≡ f i) → take n l ≡ tab n f
  unfolding tab
  take_tab d zero f l e h = refl
  take_tab d (suc n) f l e h =
      take-suc l n d e ∙ ap₂ (λ (x : List A) (y : A). x ++ (y ∷ [])) (take_tab d n f l (omega arith) (λ i p. h i (omega arith))) (h n (omega arith))

  -- n runs have as many cells as lie before run n
  pub length_cells : (len : ℕ → ℕ) (n : ℕ) (b : ℕ → ℕ → A) → length (cells len n b) ≡ start len n
  unfolding cells start
  length_cells len zero b = refl
  length_cells len (suc j) b = length-append (cells len j b) (tab (len j) (b j)) ∙ omega (arith, length_cells len j b, length_tab (len j) (b j))

  -- cell i of run j lies at start len j + i
  pub get_or_cells : (len : ℕ → ℕ) (n : ℕ) (b : ℕ → ℕ → A) (j i : ℕ) (d : A) → j < n → i < len j → get_or (cells len n b) (start len j + i) d ≡ b j i
  unfolding cells
  get_or_cells len zero b j i d h l = absurd (omega arith)
  get_or_cells len (suc n) b j i d h l =
      by_cases (dec_lt j n)
      (λ m. get_or-append (cells len n b) (tab (len n) (b n)) d (start len j + i) (omega (arith, length_cells len n b, start_below len j n m)) ∙ get_or_cells len n b j i d m l)
      (λ m. let q : j ≡ n = omega arith in
      rw q
      (rw (← (length_cells len n b)) (get_or-append-add (cells len n b) (tab (len n) (b n)) i d)
      ∙ get_or_tab (len n) (b n) i d (rw q at l)))

  -- only b at the cells of the n runs counts
  pub cells_ext : (len : ℕ → ℕ) (n : ℕ) (b b' : ℕ → ℕ → A) → ((j i : ℕ) → j < n → i < len j → b j i ≡ b' j i) → cells len n b ≡ cells len n b'
  unfolding cells
  cells_ext len zero b b' h = refl
  cells_ext len (suc n) b b' h =
      ap₂ (λ (x y : List A). x ++ y) (cells_ext len n b b' (λ j i p q. h j i (omega arith) q)) (tab_ext (len n) (b n) (b' n) (λ i q. h n i (omega arith) q))

  -- a list that agrees with b in its first n runs begins with them
  pub take_cells : (d : A) (len : ℕ → ℕ) (n : ℕ) (b : ℕ → ℕ → A) (l : List A) → start len n ≤ length l
      → ((j i : ℕ) → j < n → i < len j → get_or l (start len j + i) d ≡ b j i) → take (start len n) l ≡ cells len n b
  unfolding start cells
  take_cells d len zero b l e h = refl
  take_cells d len (suc n) b l e h =
      take-add (start len n) (len n) l
      ∙ ap₂ (λ (x y : List A). x ++ y) (take_cells d len n b l (omega arith) (λ j i p q. h j i (omega arith) q))
      (take_tab d (len n) (b n) (drop (start len n) l) (simp length-drop (omega arith)) (λ i q. get_or-drop (start len n) l i d ∙ h n i (omega arith) q))

  -- a list as long as n runs, that agrees with b at every cell, is their list
  pub is_cells : (d : A) (len : ℕ → ℕ) (n : ℕ) (b : ℕ → ℕ → A) (l : List A) → length l ≡ start len n
      → ((j i : ℕ) → j < n → i < len j → get_or l (start len j + i) d ≡ b j i) → l ≡ cells len n b
  is_cells d len n b l e h = sym (take_all (start len n) l (omega arith)) ∙ take_cells d len n b l (omega arith) h

  -- the part where run j lies is run j
  pub part_cells : (d : A) (len : ℕ → ℕ) (n : ℕ) (b : ℕ → ℕ → A) (j : ℕ) → j < n → part (start len j) (len j) (cells len n b) ≡ tab (len j) (b j)
  part_cells d len n b j h =
      take_tab d (len j) (b j) (drop (start len j) (cells len n b))
      (simp length-drop (omega (arith, length_cells len n b, start_below len j n h)))
      (λ i q. get_or-drop (start len j) (cells len n b) i d ∙ get_or_cells len n b j i d h q)

  -- runs of one cell are listed one by one
  pub cells_single : (n : ℕ) (b : ℕ → ℕ → A) → cells single n b ≡ tab n (λ j. b j 0)
  unfolding cells tab
  cells_single zero b = refl
  cells_single (suc n) b = rw (cells_single n b)
