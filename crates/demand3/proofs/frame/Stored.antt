-- Lists stored one after the other, each at the place of its target: what is read again, and what stays.
use Prim.Native.Nat.{ℕ, ◌+◌, ◌≤◌}
use mathlib.Core.Path.{◌≡◌, refl, sym, ap, ap₂, ◌∙◌}
use mathlib.Core.Bool.{Bool, true, false}
use mathlib.Core.List.Memᴰ
use mathlib.Core.List.{List, [], ◌∷◌, ◌++◌, Memᴰ}
use mathlib.Core.Logic.{◌⊎◌, inl, inr, ⊎_elim}
use lib.Dec.{eqb}
use borrow.Author.Tests.{eqb-true, eqb-false}
use lib.ListN.{length, drop}
use Rattle.storage.specs.Part.{part, store}
use Rattle.storage.proofs.Parts.{length_store, part_same, part_else, drop_store, store_left}
use Rattle.layout.specs.Shapes.{Target, target}

-- two targets are one, or differ in row or column
pub same_or_other : (s t : Target) → (s ≡ t) ⊎ (s.row ≡ t.row → s.col ≡ t.col → ⊥)
same_or_other s t = step (eqb s.row t.row) refl (eqb s.col t.col) refl
  where
    step : (b : Bool) → eqb s.row t.row ≡ b → (c : Bool) → eqb s.col t.col ≡ c → (s ≡ t) ⊎ (s.row ≡ t.row → s.col ≡ t.col → ⊥)
    step true p true q = inl (ap₂ target (eqb-true s.row t.row p) (eqb-true s.col t.col q))
    step true p false q = inr (λ a b. eqb-false s.col t.col q b)
    step false p c q = inr (λ a b. eqb-false s.row t.row p a)

-- `run` stores, for each target of a list, what is made of it at its place
module _ {A : Type 0} (place : Target → ℕ) (made : Target → List A) (run : List Target → List A → List A)
    (ends : (v : List A) → run [] v ≡ v) (goes_on : (t : Target) (l : List Target) (v : List A) → run (t ∷ l) v ≡ run l (store (place t) (made t) v)) where
  -- every target of the list has room among n cells
  abbrev pub Room : List Target → ℕ → Type 0
  Room l n = (t : Target) → Memᴰ t l → place t + length (made t) ≤ n

  -- the length stays
  pub run_length_lem : (l : List Target) (v : List A) → Room l (length v) → length (run l v) ≡ length v
  run_length_lem [] v room = ap length (ends v)
  run_length_lem (t ∷ l) v room =
      let e : length (store (place t) (made t) v) ≡ length v = length_store (place t) (made t) v (room t (Memᴰ.head refl)) in
      ap length (goes_on t l v)
      ∙ run_length_lem l (store (place t) (made t) v) (λ s m. rw e (room s (Memᴰ.tail m)))
      ∙ e

  -- a part that no target reaches stays
  pub run_part : (l : List Target) (v : List A) → Room l (length v) → (off n : ℕ)
      → ((t : Target) → Memᴰ t l → (off + n ≤ place t) ⊎ (place t + length (made t) ≤ off)) → part off n (run l v) ≡ part off n v
  run_part [] v room off n apart = ap (part off n) (ends v)
  run_part (t ∷ l) v room off n apart =
      let e : length (store (place t) (made t) v) ≡ length v = length_store (place t) (made t) v (room t (Memᴰ.head refl)) in
      ap (part off n) (goes_on t l v)
      ∙ run_part l (store (place t) (made t) v) (λ s m. rw e (room s (Memᴰ.tail m))) off n (λ s m. apart s (Memᴰ.tail m))
      ∙ part_else (place t) (made t) v (room t (Memᴰ.head refl)) off n (apart t (Memᴰ.head refl))

  -- what lies behind all of them stays
  pub run_drop : (l : List Target) (v : List A) → Room l (length v) → (n : ℕ) → Room l n → drop n (run l v) ≡ drop n v
  run_drop [] v room n behind = ap (drop n) (ends v)
  run_drop (t ∷ l) v room n behind =
      let e : length (store (place t) (made t) v) ≡ length v = length_store (place t) (made t) v (room t (Memᴰ.head refl)) in
      ap (drop n) (goes_on t l v)
      ∙ run_drop l (store (place t) (made t) v) (λ s m. rw e (room s (Memᴰ.tail m))) n (λ s m. behind s (Memᴰ.tail m))
      ∙ drop_store (place t) (made t) v (room t (Memᴰ.head refl)) n (behind t (Memᴰ.head refl))

  -- the targets of the list but t lie apart from it
  abbrev pub Alone : Target → List Target → Type 0
  Alone t l = (s : Target) → Memᴰ s l → (s ≡ t) ⊎ ((place t + length (made t) ≤ place s) ⊎ (place s + length (made s) ≤ place t))

  -- after one store it stands there
  own_now : (s t : Target) (v : List A) → place s + length (made s) ≤ length v → s ≡ t → part (place t) (length (made t)) (store (place s) (made s) v) ≡ made t
  own_now s t v room e = rw (← e) (part_same (place s) (made s) v room (length (made s)) refl)

  -- a run keeps what stands there
  run_keeps : (l : List Target) (v : List A) → Room l (length v) → (t : Target) → Alone t l → part (place t) (length (made t)) v ≡ made t
      → part (place t) (length (made t)) (run l v) ≡ made t
  run_keeps [] v room t alone here = ap (part (place t) (length (made t))) (ends v) ∙ here
  run_keeps (s ∷ l) v room t alone here =
      let e : length (store (place s) (made s) v) ≡ length v = length_store (place s) (made s) v (room s (Memᴰ.head refl)) in
      ap (part (place t) (length (made t))) (goes_on s l v)
      ∙ run_keeps l (store (place s) (made s) v) (λ u m. rw e (room u (Memᴰ.tail m))) t (λ u m. alone u (Memᴰ.tail m))
      (⊎_elim (own_now s t v (room s (Memᴰ.head refl)))
      (λ a. part_else (place s) (made s) v (room s (Memᴰ.head refl)) (place t) (length (made t)) a ∙ here)
      (alone s (Memᴰ.head refl)))

  -- what is made of a target of the list is read again
  pub run_own : (l : List Target) (v : List A) → Room l (length v) → (t : Target) → Alone t l → Memᴰ t l → part (place t) (length (made t)) (run l v) ≡ made t
  run_own [] v room t alone m = absurd (Memᴰ.not-nil m)
  run_own (s ∷ l) v room t alone m =
      let e : length (store (place s) (made s) v) ≡ length v = length_store (place s) (made s) v (room s (Memᴰ.head refl)) in
      let rest : Room l (length (store (place s) (made s) v)) = λ u n. rw e (room u (Memᴰ.tail n)) in
      ap (part (place t) (length (made t))) (goes_on s l v)
      ∙ ⊎_elim
      (λ q. run_keeps l (store (place s) (made s) v) rest t (λ u n. alone u (Memᴰ.tail n)) (own_now s t v (room s (Memᴰ.head refl)) (sym q)))
      (λ n. run_own l (store (place s) (made s) v) rest t (λ u n'. alone u (Memᴰ.tail n')) n)
      (Memᴰ.cases_cons m)

  -- another run that makes the same at the same places, on the first of two lists alone
  module _ (place' : Target → ℕ) (made' : Target → List A) (run' : List Target → List A → List A)
      (ends' : (v : List A) → run' [] v ≡ v) (goes-on' : (t : Target) (l : List Target) (v : List A) → run' (t ∷ l) v ≡ run' l (store (place' t) (made' t) v)) where
    -- what the one leaves of both lists is what the other leaves of the first, and the second as it was
    pub run_left : (l : List Target) (a b : List A) → Room l (length a) → ((t : Target) → Memᴰ t l → (place t ≡ place' t) × (made t ≡ made' t))
        → run l (a ++ b) ≡ run' l a ++ b
    run_left [] a b room same = ends (a ++ b) ∙ ap (λ (x : List A). x ++ b) (sym (ends' a))
    run_left (t ∷ l) a b room same =
        let e : length (store (place t) (made t) a) ≡ length a = length_store (place t) (made t) a (room t (Memᴰ.head refl)) in
        let q = same t (Memᴰ.head refl) in
        goes_on t l (a ++ b) ∙ ap (run l) (store_left a b (place t) (made t) (room t (Memᴰ.head refl)))
        ∙ run_left l (store (place t) (made t) a) b (λ s m. rw e (room s (Memᴰ.tail m))) (λ s m. same s (Memᴰ.tail m))
        ∙ ap (λ (x : List A). x ++ b) (ap₂ (λ (n : ℕ) (x : List A). run' l (store n x a)) q.0 q.1 ∙ sym (goes-on' t l a))
