-- The blocks of a held sheet, line by line, and the turns of the loops that read them.
use Prim.Native.Nat.{ℕ, zero, suc, ◌+◌, ◌-◌, ◌≤◌, ◌<◌}
use mathlib.Core.Path.{◌≡◌, refl, sym, ap, ◌∙◌}
use mathlib.Core.Bool.{Bool, true, false, not}
use mathlib.Core.List.{List, [], ◌∷◌, ◌++◌}
use native.Mathlib.Omega.{arith}
use native.Mathlib.Nat.{zero-add, sub-zero}
use native.Mathlib.Numerals.{add-one}
use borrow.Author.Tests.{eq-eqb, ne_eqb}
use lib.Dec.{eqb}
use lib.ListN.{length, set, drop, replicate, length-set, length-replicate}
use lib.Seq.{sets, sets-eq}
use Rattle.sheet.specs.declared.Line.{Line}
use Rattle.sheet.specs.declared.Starts.{Starts}
use Rattle.sheet.specs.Line.{block_line}
use Rattle.sheet.specs.Run.{Block, block_in, kept_from}
use Rattle.sheet.specs.Sheet.{Sheet, accepted, read_sheet}
use Rattle.sheet.specs.Fault.{any_of}
use Rattle.sheet.proofs.Whole.{read_whole}
use Rattle.layout.specs.Blocks.{padded}
use Rattle.sheet_checks.specs.levels.Held.{Holds, level_list, blocks_at}

-- ---- a block does not say which line it stands on
any_number : (read : ℕ → Line) (n line at : ℕ) → kept_from read block_in n line at ≡ kept_from read block_in n 0 at
unfolding kept_from
any_number read zero line at = refl
any_number read (suc n) line at =
    ap (λ (l : List Block). block_in 0 (read at) ∷ l) (any_number read n (line + 1) (read at).next ∙ sym (any_number read n (0 + 1) (read at).next))

-- the blocks of a line and of those that follow it
blocks_next : (s : List ℕ) (n at : ℕ) → blocks_at s (suc n) at ≡ block_in 0 (block_line s at) ∷ blocks_at s n (block_line s at).next
unfolding kept_from
blocks_next s n at = ap (λ (l : List Block). block_in 0 (block_line s at) ∷ l) (any_number (block_line s) n (0 + 1) (block_line s at).next)

-- as many as lines
length_blocks : (s : List ℕ) (n at : ℕ) → length (blocks_at s n at) ≡ n
unfolding kept_from
length_blocks s zero at = refl
length_blocks s (suc n) at = ap length (blocks_next s n at) ∙ ap suc (length_blocks s n (block_line s at).next)

-- ---- the blocks of a held sheet stand where its places say, and there are few
module _ (s : List ℕ) (z : Starts) where
  pub few : Holds s z → z.counts.k ≤ 8
  few h = let w = (read_whole s h.0 z h.1).shape in omega (arith, w.counts.k, ap (λ c. c.k) w.same_counts)

  pub held_blocks : (sheet : Sheet) → read_sheet s ≡ accepted sheet z → sheet.blocks ≡ blocks_at s z.counts.k z.block
  held_blocks sheet e =
      let w = read_whole s sheet z e in
      w.placed.blocks
      ∙ any_number (block_line s) sheet.counts.k 2 z.block
      ∙ ap (λ c. blocks_at s c.k z.block) (sym w.shape.same_counts)

-- ---- the loop of levels: those of the first i blocks are in m, and with the rest it comes to X
pub record Levels (X s : List ℕ) (k : ℕ) (m : List ℕ) (at i : ℕ) : Type 0 where
  pub same : sets m i (level_list (blocks_at s (k - i) at)) ≡ X
  pub long : length m ≡ 8
  pub within : i ≤ k

pub levels_more : {X s : List ℕ} {k : ℕ} {m : List ℕ} {at i : ℕ} {l : Line} → Levels X s k m at i → i < k → l ≡ block_line s at → Levels X s k (set m i l.first) l.next (i + 1)
unfolding level_list
levels_more {X} {s} {k} {m} {at} {i} {l} v h q =
    let e : k - i ≡ suc (k - suc i) = omega arith in
    let n : i + 1 ≡ suc i = add-one i in
    record {
      same = rw (n, q) (rw (e, blocks_next s (k - suc i) at) at v.same);
      long = simp length-set v.long;
      within = omega arith;
    }

pub levels_done : {X s : List ℕ} {k : ℕ} {m : List ℕ} {at i : ℕ} → Levels X s k m at i → k ≤ i → m ≡ X
unfolding level_list kept_from
levels_done {X} {s} {k} {m} {at} {i} v h = let e : k - i ≡ 0 = omega arith in rw e at v.same

-- ---- padded lists
padded_rest : (n : ℕ) (l : List ℕ) → length l ≤ n → padded n l ≡ l ++ drop (length l) (replicate n 0)
unfolding padded
padded_rest zero [] h = refl
padded_rest zero (x ∷ l) h = absurd (omega arith)
padded_rest (suc n) [] h = ap (λ (z : List ℕ). 0 ∷ z) (padded_rest n [] (omega arith))
padded_rest (suc n) (x ∷ l) h = ap (λ (z : List ℕ). x ∷ z) (padded_rest n l (omega arith))

-- stored into n zeros, a list of at most n numbers is that list, padded
pub stored : (n : ℕ) (l : List ℕ) → length l ≤ n → sets (replicate n 0) 0 l ≡ padded n l
stored n l h =
    let r : length {A = ℕ} (replicate n 0) ≡ n = length-replicate n 0 in
    sets-eq l (replicate n 0) 0 (omega arith) ∙ ap (λ (j : ℕ). l ++ drop j (replicate n 0)) (zero-add (length l)) ∙ sym (padded_rest n l h)

length_levels : (l : List Block) → length (level_list l) ≡ length l
unfolding level_list
length_levels [] = refl
length_levels (b ∷ l) = ap suc (length_levels l)

pub levels_start : (s : List ℕ) (k from : ℕ) → k ≤ 8 → Levels (padded 8 (level_list (blocks_at s k from))) s k (replicate 8 0) from 0
levels_start s k from h =
    let l = level_list (blocks_at s k from) in
    let n : length l ≡ k = length_levels (blocks_at s k from) ∙ length_blocks s k from in
    record { same = rw (sub-zero k) (stored 8 l (omega arith)); long = refl; within = omega arith }

-- ---- the loop that looks for a slope: among the `left` blocks from `at` on there is one where there is one among all
abbrev pub slope : Block → Bool
slope b = not (eqb b.e 1)

pub record Slopes (X : Bool) (s : List ℕ) (at left : ℕ) : Type 0 where
  pub same : any_of slope (blocks_at s left at) ≡ X

pub slope_start : (s : List ℕ) (k at : ℕ) → Slopes (any_of slope (blocks_at s k at)) s at (k - 0)
slope_start s k at = record { same = rw (sub-zero k) }

module _ {X : Bool} {s : List ℕ} {at left : ℕ} {l : Line} (v : Slopes X s at left) (h : 0 < left) (q : l ≡ block_line s at) where
  split : blocks_at s left at ≡ block_in 0 l ∷ blocks_at s (left - 1) l.next
  split =
      let e : left ≡ suc (left - 1) = omega arith in
      ap (λ (n : ℕ). blocks_at s n at) e ∙ rw q (blocks_next s (left - 1) at)

  pub slope_found : (l.second ≡ 1 → ⊥) → true ≡ X
  unfolding any_of
  slope_found n = rw (split, ne_eqb l.second 1 n) at v.same

  pub slope_more : l.second ≡ 1 → Slopes X s l.next (left - 1)
  unfolding any_of
  slope_more n = record { same = rw (split, eq-eqb l.second 1 n) at v.same }

pub slope_none : {X : Bool} {s : List ℕ} {at left : ℕ} → Slopes X s at left → left ≤ 0 → false ≡ X
unfolding any_of kept_from
slope_none {left} v h = let e : left ≡ 0 = omega arith in rw e at v.same
