-- `load_numbers::word_address::pair_place`: sparse or by columns.
use Prim.Native.Nat.{ℕ, ◌+◌, ◌*◌, ◌≤◌, ◌<◌}
use mathlib.Core.Path.{◌≡◌}
use mathlib.Core.Bool.{true}
use native.Mathlib.Omega.{arith}
use Rattle.layout.specs.declared.Layout.{Layout}
use Rattle.layout.specs.Shapes.{levels}
use Rattle.heading_format.specs.Heading.{valid_layout}
use Rattle.heading_format.proofs.Valid.{is_valid}
use Rattle.load_numbers.proofs.word_address.Places.{cell_low}
use Rattle.load_numbers.proofs.word_address.pair_place.Goals as goal

-- the cell is among the pair's
low : (y : Layout) (i c r : ℕ) → valid_layout y ≡ true → i < y.k → c ≤ 65535 → r ≤ 65535 → c * levels y i + r ≤ 4295032832
low y i c r ok h f g = cell_low c (levels y i) r f ((is_valid y ok).level i h).1 g

pub offset_bounds-map-i : goal.offset_bounds-map-i
offset_bounds-map-i c = let m = c.args.map.now in omega (arith, (is_valid m.layout m.valid).blocks.1)

pub bounds-map-i : goal.bounds-map-i
bounds-map-i c = let m = c.args.map.now in omega (arith, (is_valid m.layout m.valid).blocks.1)

pub overflow_mul-result : goal.overflow_mul-result
overflow_mul-result c = let a = c.args in let m = a.map.now in omega (arith, low m.layout a.i a.c a.r m.valid c.requires.0 c.requires.1 c.requires.2)

pub overflow_add-result : goal.overflow_add-result
overflow_add-result c = let a = c.args in let m = a.map.now in omega (arith, low m.layout a.i a.c a.r m.valid c.requires.0 c.requires.1 c.requires.2)

pub returns : goal.returns
returns c = let a = c.args in let m = a.map.now in (rw c.if-map.false, low m.layout a.i a.c a.r m.valid c.requires.0 c.requires.1 c.requires.2)
