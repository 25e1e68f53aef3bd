-- `load_numbers::store_words::scatter`: what is left of the run still makes what the whole run makes.
use Prim.Native.Nat.{◌+◌, ◌-◌}
use mathlib.Core.Path.{◌≡◌}
use lib.ListN.{length}
use Rattle.load_numbers.specs.word_address.Spread.{line_of, EachLine, FiniteWord, spread, put_word}
use Rattle.load_numbers.proofs.store_words.scatter.Given as goal

abbrev pub invariant-loop-i : goal.invariant-loop-i
invariant-loop-i l =
    let left = l.from + l.count - l.i in
    EachLine FiniteWord (line_of l.run l.bytes) left l.p × (length l.doubles ≡ length l.initial.doubles)
    × (spread (put_word l.run l.map.layout) (line_of l.run l.bytes) left l.i l.p l.doubles ≡ spread (put_word l.run l.map.layout) (line_of l.run l.bytes) l.count l.from l.at l.initial.doubles)
