-- The block of a row, by the levels in an array.
use Prim.Native.Nat.{ℕ, zero, suc, ◌+◌, ◌-◌, ◌<◌, ◌≤◌}
use mathlib.Core.Path.{◌≡◌, refl, ◌∙◌, ap}
use mathlib.Core.Bool.{cond}
use mathlib.Core.List.{List, [], ◌∷◌}
use native.Mathlib.Omega.{arith}
use native.Mathlib.Numerals.{add-one}
use borrow.Author.Tests.{lt-ltb, le-ltb}
use lib.Dec.{ltb}
use lib.ListN.{length, get_or, drop}
use Rattle.sheet.specs.Run.{Block}
use Rattle.sheet.specs.Fault.{covered_rows, block_of_row}
use Rattle.layout.specs.Blocks.{padded}
use Rattle.layout.proofs.Sums.{padded_at}
use Rattle.sheet_checks.specs.levels.Held.{level_list}

-- Past j blocks, row i is row `left` of what remains.
pub record Search (blocks : List Block) (i left j : ℕ) : Type 0 where
  pub same : j + block_of_row (drop j blocks) left ≡ block_of_row blocks i
  pub inside : left < covered_rows (drop j blocks)

pub search_start : (blocks : List Block) (i : ℕ) → i < covered_rows blocks → Search blocks i i 0
search_start blocks i h = record { same = omega arith; inside = h }

-- the levels of block j, with what the first remaining block is
level_here : (blocks : List Block) (left j : ℕ) → left < covered_rows (drop j blocks)
    → (j < length blocks) × (covered_rows (drop j blocks) ≡ get_or (level_list blocks) j 0 + covered_rows (drop (suc j) blocks))
    × (block_of_row (drop j blocks) left ≡ cond (ltb left (get_or (level_list blocks) j 0)) 0 (suc (block_of_row (drop (suc j) blocks) (left - get_or (level_list blocks) j 0))))
unfolding level_list covered_rows block_of_row
level_here [] left zero h = absurd (omega arith)
level_here [] left (suc j) h = absurd (omega arith)
level_here (b ∷ blocks) left zero h = (omega arith, refl, refl)
level_here (b ∷ blocks) left (suc j) h = let r = level_here blocks left j h in (omega (arith, r.0), r.1, r.2)

module _ {blocks : List Block} {m : List ℕ} {i left j : ℕ} (e : m ≡ padded 8 (level_list blocks)) (s : Search blocks i left j) (h : j < 8) where
  level : get_or m j 0 ≡ get_or (level_list blocks) j 0
  level = ap (λ (l : List ℕ). get_or l j 0) e ∙ padded_at 8 (level_list blocks) j h

  pub search_found : left < get_or m j 0 → j ≡ block_of_row blocks i
  search_found k =
      let r = level_here blocks left j s.inside in
      let q : block_of_row (drop j blocks) left ≡ 0 = r.2 ∙ rw (lt-ltb left (get_or (level_list blocks) j 0) (omega (arith, level))) in
      omega (arith, s.same)

  pub search_on : get_or m j 0 ≤ left → Search blocks i (left - get_or m j 0) (j + 1)
  search_on k =
      let r = level_here blocks left j s.inside in
      let q : block_of_row (drop j blocks) left ≡ suc (block_of_row (drop (suc j) blocks) (left - get_or (level_list blocks) j 0)) = r.2 ∙ rw (le-ltb left (get_or (level_list blocks) j 0) (omega (arith, level))) in
      let a : j + 1 ≡ suc j = add-one j in
      let d : left - get_or m j 0 ≡ left - get_or (level_list blocks) j 0 = ap (λ (x : ℕ). left - x) level in
      rw (a, d) (record { same = omega (arith, s.same); inside = omega (arith, r.1, s.inside, level) })

pub search_out : {blocks : List Block} {i left j : ℕ} → Search blocks i left j → length blocks ≤ 8 → 8 ≤ j → ⊥
search_out {blocks} {i} {left} {j} s h k = let r = level_here blocks left j s.inside in omega (arith, r.0)
