-- The search over pairs: what it has found so far, and that it ends at the first.
use Prim.Native.Nat.{ℕ, zero, suc, ◌+◌, ◌≤◌, ◌<◌}
use mathlib.Core.Path.{◌≡◌, refl, sym, ap, ◌∙◌}
use mathlib.Core.List.{List, [], ◌∷◌, ◌++◌, append_assoc, append-nil}
use mathlib.Core.Logic.{by_cases}
use native.Mathlib.Decide.{dec_lt}
use native.Mathlib.Omega.{arith}
use native.Mathlib.Numerals.{add-one}
use Rattle.std.specs.Prelude.{Option, None, Some, Ok, Err}
use Rattle.refusal.specs.declared.Refusal.{Refusal}
use Rattle.refusal.specs.Numbers.{refusal}
use Rattle.layout.specs.declared.Layout.{Layout}
use Rattle.layout.specs.declared.Storage.{Storage}
use Rattle.layout.specs.declared.GateRefusal.{GateRefusal}
use Rattle.layout.specs.Gate.{Verdict, gate_number}
use Rattle.layout.specs.Shapes.{Target, target, across, pairs}
use Rattle.workspace.specs.Loaded.{or_refused}
use Rattle.layout_gate.specs.gate_search.Search.{verdict, first}

-- ---- one list is the front of another
abbrev Front : List Target → List Target → Type 0
Front l m = (r : List Target) × (m ≡ l ++ r)

front_same : (l : List Target) → Front l l
front_same l = ([], sym (append-nil l))

front_more : (l m r : List Target) → Front l m → Front l (m ++ r)
front_more l m r f = (f.0 ++ r, ap (λ (x : List Target). x ++ r) f.1 ∙ append_assoc l f.0 r)

front_behind : (p l m : List Target) → Front l m → Front (p ++ l) (p ++ m)
front_behind p l m f = (f.0, ap (λ (x : List Target). p ++ x) f.1 ∙ sym (append_assoc p l f.0))

front_across : (i a n : ℕ) → a ≤ n → Front (across i a) (across i n)
unfolding across
front_across i a zero h = let e : a ≡ 0 = omega arith in rw e (front_same (across i 0))
front_across i a (suc n) h =
    by_cases (dec_lt n a) (λ g. let e : a ≡ suc n = omega arith in rw e (front_same (across i (suc n))))
    (λ g. front_more (across i a) (across i n) (target i n ∷ []) (front_across i a n (omega arith)))

front_pairs : (a n : ℕ) → a ≤ n → Front (pairs a) (pairs n)
unfolding pairs
front_pairs a zero h = let e : a ≡ 0 = omega arith in rw e (front_same (pairs 0))
front_pairs a (suc n) h =
    by_cases (dec_lt n a) (λ g. let e : a ≡ suc n = omega arith in rw e (front_same (pairs (suc n))))
    (λ g. front_more (pairs a) (pairs n) (across n n) (front_pairs a n (omega arith)))

module _ (y : Layout) where
  -- ---- the first of a list, and of what follows it
  first_behind : (l r : List Target) → first y l ≡ None → first y (l ++ r) ≡ first y r
  unfolding first
  first_behind [] r e = refl
  first_behind (t ∷ l) r e = go (first_behind l r) (verdict y t.row t.col) e
    where
      go : (first y l ≡ None → first y (l ++ r) ≡ first y r) → (v : Verdict) → or_refused v t (first y l) ≡ None → or_refused v t (first y (l ++ r)) ≡ first y r
      go f (Ok stored) e = f e
      go f (Err x) e = absurd (let z : ◌≡◌ {A = ℕ} 0 1 = cc in omega arith)

  first_stays : (l r : List Target) (found : Refusal) → first y l ≡ Some found → first y (l ++ r) ≡ Some found
  unfolding first
  first_stays [] r found e = absurd (let z : ◌≡◌ {A = ℕ} 0 1 = cc in omega arith)
  first_stays (t ∷ l) r found e = go (first_stays l r found) (verdict y t.row t.col) e
    where
      go : (first y l ≡ Some found → first y (l ++ r) ≡ Some found) → (v : Verdict) → or_refused v t (first y l) ≡ Some found → or_refused v t (first y (l ++ r)) ≡ Some found
      go f (Ok stored) e = f e
      go f (Err x) e = e

  first_front : (l r : List Target) → first y (l ++ r) ≡ None → first y l ≡ None
  unfolding first
  first_front [] r e = refl
  first_front (t ∷ l) r e = go (first_front l r) (verdict y t.row t.col) e
    where
      go : (first y (l ++ r) ≡ None → first y l ≡ None) → (v : Verdict) → or_refused v t (first y (l ++ r)) ≡ None → or_refused v t (first y l) ≡ None
      go f (Ok stored) e = f e
      go f (Err x) e = absurd (let z : ◌≡◌ {A = ℕ} 0 1 = cc in omega arith)

-- ---- the loops: no pair before (j, jj) is refused, and nothing is found
pub record Clear (y : Layout) (found : Option Refusal) (j jj : ℕ) : Type 0 where
  pub nothing : found ≡ None
  pub before : first y (pairs j ++ across j jj) ≡ None
  pub within : jj ≤ j

pub clear_start : (y : Layout) → Clear y None 1 0
unfolding first pairs across
clear_start y = record { nothing = refl; before = refl; within = omega arith }

module _ {y : Layout} {found : Option Refusal} {j jj : ℕ} (c : Clear y found j jj) where
  -- the next pair
  next : first y (pairs j ++ across j (suc jj)) ≡ first y (target j jj ∷ [])
  unfolding across
  next = rw (← append_assoc (pairs j) (across j jj) (target j jj ∷ [])) (first_behind y (pairs j ++ across j jj) (target j jj ∷ []) c.before)

  pub clear_more : {stored : Storage} → Ok stored ≡ verdict y j jj → jj < j → Clear y found j (jj + 1)
  unfolding first
  clear_more q h =
      let n : jj + 1 ≡ suc jj = add-one jj in
      rw n (record { nothing = c.nothing; before = next ∙ ap (λ (v : Verdict). or_refused v (target j jj) None) (sym q); within = omega arith })

  -- the next row of pairs
  pub clear_row : j ≤ jj → Clear y found (j + 1) 0
  unfolding pairs across
  clear_row h =
      let n : j + 1 ≡ suc j = add-one j in
      let e : jj ≡ j = omega (arith, c.within) in
      rw n (record { nothing = c.nothing; before = rw append-nil (rw e at c.before); within = omega arith })

  pub none_found : {k : ℕ} → k ≤ j → found ≡ first y (pairs k)
  none_found {k} h =
      let f = front_pairs k j h in
      c.nothing ∙ sym (first_front y (pairs k) (f.0 ++ across j jj) (rw (← append_assoc (pairs k) f.0 (across j jj)) (rw f.1 at c.before)))

  pub one_found : {x : GateRefusal} {r : Refusal} {k : ℕ} → Err x ≡ verdict y j jj → r ≡ refusal (gate_number x) j jj → j < k → jj < j → Some r ≡ first y (pairs k)
  unfolding first pairs
  one_found {x} {r} {k} q e h g =
      let here : first y (pairs j ++ across j (suc jj)) ≡ Some r = next ∙ ap (λ (v : Verdict). or_refused v (target j jj) None) (sym q) ∙ ap Some (sym e) in
      let f = front_pairs (suc j) k h in
      let a = front_behind (pairs j) (across j (suc jj)) (across j j) (front_across j (suc jj) j g) in
      let b = front_more (pairs j ++ across j (suc jj)) (pairs j ++ across j j) f.0 a in
      sym (ap (first y) (f.1 ∙ b.1) ∙ first_stays y (pairs j ++ across j (suc jj)) b.0 r here)
