-- Lists whose cell i is f i: what holds of each cell holds of the list.
use Prim.Native.Nat.{ℕ, zero, suc, ◌+◌, ◌<◌}
use mathlib.Core.Path.{◌≡◌, refl, sym, ap, subst, ◌∙◌}
use mathlib.Core.Bool.{Bool, true, false}
use mathlib.Core.List.{List, Memᴰ}
use native.Mathlib.Omega.{arith}
use lib.ListN.{replicate}
use Rattle.storage.specs.Runs.{tab}
use Rattle.storage.proofs.Cells.{tab_front}
use Rattle.sheet.specs.Run.{Block, Entry}
use Rattle.sheet.specs.Whole.{Each, Earlier, Rising}
use Rattle.sheet_text.specs.written.Written.{Numbered}
use Rattle.workspace.specs.Loaded.{count_of}
use Rattle.workspace.proofs.Valid.{levels_in}

module _ {A : Type 0} where
  pub each_tab : (P : A → Type 0) (n : ℕ) (f : ℕ → A) → ((i : ℕ) → i < n → P (f i)) → Each P (tab n f)
  unfolding tab
  each_tab P zero f h = tt
  each_tab P (suc n) f h =
      subst (Each P) (sym (tab_front n f)) (h 0 (omega arith), each_tab P n (λ i. f (suc i)) (λ i l. h (suc i) (omega arith)))

  pub each_replicate : (P : A → Type 0) (n : ℕ) (x : A) → P x → Each P (replicate n x)
  each_replicate P zero x h = tt
  each_replicate P (suc n) x h = (h, each_replicate P n x h)

  pub member_tab : (n : ℕ) (f : ℕ → A) (i : ℕ) → i < n → Memᴰ (f i) (tab n f)
  member_tab zero f i h = absurd (omega arith)
  member_tab (suc n) f zero h = subst (Memᴰ (f 0)) (sym (tab_front n f)) (Memᴰ.head refl)
  member_tab (suc n) f (suc i) h = subst (Memᴰ (f (suc i))) (sym (tab_front n f)) (Memᴰ.tail (member_tab n (λ i. f (suc i)) i (omega arith)))

-- the levels of block i
pub levels_tab : (n : ℕ) (f : ℕ → Block) (i : ℕ) → i < n → levels_in (tab n f) i ≡ (f i).m
levels_tab zero f i h = absurd (omega arith)
levels_tab (suc n) f zero h = ap (λ (l : List Block). levels_in l 0) (tab_front n f)
levels_tab (suc n) f (suc i) h = ap (λ (l : List Block). levels_in l (suc i)) (tab_front n f) ∙ levels_tab n (λ i. f (suc i)) i (omega arith)

-- ---- entries

pub rising_tab : (n : ℕ) (f : ℕ → Entry) → ((i j : ℕ) → i < j → j < n → Earlier (f i) (f j)) → Rising (tab n f)
unfolding tab
rising_tab zero f h = tt
rising_tab (suc n) f h =
    subst Rising (sym (tab_front n f))
    (each_tab (Earlier (f 0)) n (λ i. f (suc i)) (λ i l. h 0 (suc i) (omega arith) (omega arith)), rising_tab n (λ i. f (suc i)) (λ i j g l. h (suc i) (suc j) (omega arith) (omega arith)))

pub numbered_tab : (line n : ℕ) (f : ℕ → Entry) → ((i : ℕ) → i < n → (f i).line ≡ line + i) → Numbered line (tab n f)
unfolding tab
numbered_tab line zero f h = tt
numbered_tab line (suc n) f h =
    subst (Numbered line) (sym (tab_front n f))
    (omega (arith, h 0 (omega arith)), numbered_tab (line + 1) n (λ i. f (suc i)) (λ i l. omega (arith, h (suc i) (omega arith))))

module _ (test : Entry → Bool) where
  -- no cell passes
  count_none : (n : ℕ) (f : ℕ → Entry) → ((i : ℕ) → i < n → test (f i) ≡ false) → count_of test (tab n f) ≡ 0
  unfolding tab count_of
  count_none zero f h = refl
  count_none (suc n) f h = rw (tab_front n f, h 0 (omega arith)) (count_none n (λ i. f (suc i)) (λ i l. h (suc i) (omega arith)))

  -- cell t alone passes
  pub count_one : (n : ℕ) (f : ℕ → Entry) (t : ℕ) → t < n → test (f t) ≡ true → ((i : ℕ) → i < n → (i ≡ t → ⊥) → test (f i) ≡ false) → count_of test (tab n f) ≡ 1
  unfolding count_of
  count_one zero f t l p h = absurd (omega arith)
  count_one (suc n) f zero l p h =
      rw (tab_front n f, p) (ap suc (count_none n (λ i. f (suc i)) (λ i g. h (suc i) (omega arith) (λ e. omega arith))))
  count_one (suc n) f (suc t) l p h =
      rw (tab_front n f, h 0 (omega arith) (λ e. omega arith))
      (count_one n (λ i. f (suc i)) t (omega arith) p (λ i g o. h (suc i) (omega arith) (λ e. o (omega arith))))
