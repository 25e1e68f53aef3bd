-- `load_numbers::put_rows`: what is left of the lines still makes what all of them make.
use Prim.Native.Nat.{◌-◌}
use mathlib.Core.Path.{◌≡◌}
use lib.ListN.{length}
use Rattle.sheet.specs.Line.{zz_tag, pair_line}
use Rattle.load_numbers.specs.word_address.Spread.{spread}
use Rattle.load_numbers.specs.Rows.{put_row}
use Rattle.load_numbers.proofs.put_rows.Given as goal

abbrev pub invariant-loop-line : goal.invariant-loop-line
invariant-loop-line l = (length l.heading ≡ length l.initial.heading) × (spread (put_row l.map.layout) (pair_line zz_tag l.bytes) (l.count - l._line) 0 l.p l.heading ≡ spread (put_row l.map.layout) (pair_line zz_tag l.bytes) l.count 0 l.at l.initial.heading)
