-- A loop that writes f 0, f 1, .. into a list from a place on.
use Prim.Native.Nat.{ℕ, zero, suc, ◌+◌, ◌≤◌, ◌<◌}
use mathlib.Core.Path.{◌≡◌, refl, sym, ap, ap₂, ◌∙◌}
use mathlib.Core.List.{List, [], ◌∷◌, ◌++◌, append_assoc, append-nil}
use mathlib.Core.Logic.{◌⊎◌, inl, inr, ⊎_elim}
use native.Mathlib.Nat.{add-zero, add-suc}
use native.Mathlib.Omega.{arith}
use native.Mathlib.Numerals.{add-one}
use lib.ListN.{length, get_or, set, length-set, drop_of_length-le}
use Rattle.storage.specs.Runs.{tab}
use Rattle.storage.specs.Part.{store}
use Rattle.storage.proofs.Cells.{length_tab, tab_ext}
use Rattle.storage.proofs.Parts.{length_store, store_nil, store_one, store_more, store_else}

module _ {A : Type 0} where
  tab_add : (n k : ℕ) (f : ℕ → A) → tab n f ++ tab k (λ i. f (n + i)) ≡ tab (n + k) f
  unfolding tab
  tab_add n zero f = append-nil (tab n f) ∙ ap (λ (m : ℕ). tab m f) (sym (add-zero n))
  tab_add n (suc k) f =
      sym (append_assoc (tab n f) (tab k (λ i. f (n + i))) (f (n + k) ∷ []))
      ∙ ap (λ (l : List A). l ++ (f (n + k) ∷ [])) (tab_add n k f)
      ∙ ap (λ (m : ℕ). tab m f) (sym (add-suc n k))

  -- of n cells from `off` on, j are written: r is w with f 0, .., f (j - 1) there
  pub record Filling (f : ℕ → A) (off n : ℕ) (w r : List A) (j : ℕ) : Type 0 where
    pub within : j ≤ n
    pub fits : off + n ≤ length w
    pub long : length r ≡ length w
    pub same : r ≡ store off (tab j f) w

  pub filling_none : (f : ℕ → A) (off n : ℕ) (w : List A) → off + n ≤ length w → Filling f off n w w 0
  unfolding tab
  filling_none f off n w h = record { within = omega arith; fits = h; long = refl; same = sym (store_nil off w) }

  module _ {f : ℕ → A} {off n : ℕ} {w r : List A} {j : ℕ} (e : Filling f off n w r j) where
    -- a cell that is not written yet, or lies before them all, is as it was
    pub filling_else : (d : A) (k : ℕ) → (k < off) ⊎ (off + j ≤ k) → get_or r k d ≡ get_or w k d
    filling_else d k h =
        ap (λ (l : List A). get_or l k d) e.same
        ∙ store_else off (tab j f) w (omega (arith, length_tab j f)) d k (⊎_elim (λ l. inl l) (λ l. inr (omega (arith, length_tab j f))) h)

    -- and so are m cells that lie apart
    pub filling_apart : (d : A) (src m : ℕ) → (off + n ≤ src) ⊎ (src + m ≤ off) → (k : ℕ) → k < m → get_or r (src + k) d ≡ get_or w (src + k) d
    filling_apart d src m apart k l = filling_else d (src + k) (⊎_elim (λ h. inr (omega arith)) (λ h. inl (omega arith)) apart)

    -- one cell more, at k
    pub filling_at : {k : ℕ} {v : A} → k ≡ off + j → j < n → v ≡ f j → Filling f off n w (set r k v) (j + 1)
    unfolding tab
    filling_at {k} {v} d h q =
        let fits = e.fits in
        let place : off + length (tab j f) ≡ k = omega (arith, length_tab j f) in
        record {
          within = omega arith;
          fits = fits;
          long = simp length-set e.long;
          same = rw (add-one, e.same, q) (rw place at (store_one off (tab j f) w (omega (arith, length_tab j f)) (f j) (omega (arith, length_tab j f))));
        }

    pub filling_more : {v : A} → j < n → v ≡ f j → Filling f off n w (set r (off + j) v) (j + 1)
    filling_more h q = filling_at refl h q

    -- one made of what it was
    pub filling_next : {k : ℕ} (h : A → A) (d : A) → k ≡ off + j → j < n → h (get_or w k d) ≡ f j → Filling f off n w (set r k (h (get_or r k d))) (j + 1)
    filling_next {k} h d q l is = filling_at q l (ap h (filling_else d k (inr (omega arith))) ∙ is)

    -- k cells more at once
    pub filling_run : (k : ℕ) (g : ℕ → A) (to : ℕ) (r' : List A) → to ≡ off + j → j + k ≤ n → ((i : ℕ) → i < k → g i ≡ f (j + i)) → r' ≡ store to (tab k g) r
        → Filling f off n w r' (j + k)
    filling_run k g to r' d h is then =
        let place : to ≡ off + length (tab j f) = omega (arith, length_tab j f) in
        let room : off + length (tab j f) ≤ length w = omega (arith, length_tab j f) in
        record {
          within = h;
          fits = e.fits;
          long = ap length then ∙ length_store to (tab k g) r (omega (arith, length_tab k g)) ∙ e.long;
          same =
              then
              ∙ ap₂ (λ (x : ℕ) (l : List A). store x (tab k g) l) place e.same
              ∙ store_more off (tab j f) w room (tab k g)
              ∙ ap (λ (l : List A). store off (tab j f ++ l) w) (tab_ext k g (λ i. f (j + i)) is)
              ∙ ap (λ (l : List A). store off l w) (tab_add j k f);
        }

    -- all of them
    pub filling_done : n ≤ j → r ≡ store off (tab n f) w
    filling_done h =
        let within = e.within in
        let q : j ≡ n = omega arith in
        rw (← q) e.same

  -- ---- the whole of an array of n cells
  module _ {f : ℕ → A} {n : ℕ} {w r : List A} {j : ℕ} (e : Filling f 0 n w r j) where
    pub array_more : {v : A} → j < n → v ≡ f j → Filling f 0 n w (set r j v) (j + 1)
    array_more h q = filling_at e (omega arith) h q

    pub array_done : n ≤ j → length w ≡ n → r ≡ tab n f
    unfolding store
    array_done h l =
        rw (filling_done e h, length_tab n f, drop_of_length-le w {i = 0 + n} (omega arith)) (append-nil (tab n f))
