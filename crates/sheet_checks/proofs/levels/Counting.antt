-- How many zz lines a held sheet has: its lines but those that its counts explain.
use Prim.Native.Nat.{ℕ, ◌+◌, ◌*◌, ◌/◌, ◌≤◌}
use mathlib.Core.Path.{◌≡◌, sym, ap, subst, ◌∙◌}
use mathlib.Core.List.{List}
use native.Mathlib.Omega.{arith}
use native.Mathlib.Nat.{mul-le-mul}
use lib.ListN.{length}
use Rattle.sheet.specs.declared.Counts.{Counts}
use Rattle.sheet.specs.declared.Starts.{Starts}
use Rattle.sheet.specs.Sheet.{Sheet, accepted, read_sheet}
use Rattle.sheet.specs.Whole.{InRange}
use Rattle.sheet.proofs.Whole.{read_whole, all_lines}

-- the two products of counts in range
pub product_of : (p : ℕ) → p ≤ 32 → p * (p + 1) ≤ 1056
product_of p h = let g : p + 1 ≤ 33 = omega arith in omega (arith, mul-le-mul h g)

pub grid_of : (q p : ℕ) → q ≤ 524280 → p ≤ 32 → q * p ≤ 16776960
grid_of q p h g = omega (arith, mul-le-mul h g)

pub products : (c : Counts) → InRange c → (c.q * c.p ≤ 16776960) × (c.p * (c.p + 1) ≤ 1056)
products c h = (grid_of c.q c.p h.q h.p.1, product_of c.p h.p.1)

-- the number of the line past the last, in a sheet without zz lines
abbrev other_lines : Counts → ℕ
other_lines c = 3 + c.k + c.q * c.p + c.q + c.p * (c.p + 1) / 2 + c.p

module _ (s : List ℕ) (sheet : Sheet) (z : Starts) (e : read_sheet s ≡ accepted sheet z) where
  -- the counts, and the lines that the zz lines add
  pub in_range : InRange z.counts
  in_range = let w = (read_whole s sheet z e).shape in subst InRange (sym w.same_counts) w.counts

  pub lines : z.line ≡ other_lines z.counts + length sheet.zz
  lines =
      let w = read_whole s sheet z e in
      all_lines w ∙ omega (arith, ap other_lines w.shape.same_counts)
