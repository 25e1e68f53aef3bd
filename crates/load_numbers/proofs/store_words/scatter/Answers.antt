use Prim.Native.Nat.{ℕ, suc, ◌+◌, ◌-◌}
use mathlib.Core.Path.{◌≡◌, refl, sym, ap, ap₂, subst, ◌∙◌}
use mathlib.Core.List.{List}
use native.Mathlib.Omega.{arith}
use lib.Ieee.{Float}
use lib.ListN.{length, set, length-set}
use Rattle.load_numbers.specs.word_address.Spread.{line_of, EachLine, FiniteWord, spread, place_of, put_word}
use Rattle.load_numbers.proofs.word_address.Places.{spread_none, spread_more, each_first}
use Rattle.load_numbers.proofs.store_words.scatter.Goals as goal

pub loop-i-init : goal.loop-i-init
loop-i-init c = let a = c.args in let all : a.count ≡ a.from + a.count - a.from = omega arith in
    (subst (λ (n : ℕ). EachLine FiniteWord (line_of a.run a.bytes.now) n a.at) all c.requires.1, refl, ap (λ (n : ℕ). spread (put_word a.run a.map.now.layout) (line_of a.run a.bytes.now) n a.from a.at a.doubles.now) (sym all))

pub place_of-requires : goal.place_of-requires
place_of-requires c = omega arith

pub double_of-requires : goal.double_of-requires
double_of-requires c = let a = c.args in let l = c.loop-i in
    (each_first FiniteWord (line_of a.run a.bytes.now) (a.from + a.count - l.i) (a.from + a.count - (l.i + 1)) l.p c.line_at-l.result (omega arith) c.line_at-l.ensures l.invariant.0).0

pub loop-i-preserved : goal.loop-i-preserved
loop-i-preserved c = let a = c.args in
    let l = c.loop-i in
    let line = c.line_at-l in
    let read = line_of a.run a.bytes.now in
    let left : ℕ = a.from + a.count - l.i in
    let rest : ℕ = a.from + a.count - (l.i + 1) in
    let more : left ≡ suc rest = omega arith in
    let made : c.put.new.doubles ≡ put_word a.run a.map.now.layout l.i line.result l.doubles =
    c.put.ensures
    ∙ ap₂ (λ (p : ℕ) (x : Float). set l.doubles p x) c.place_of.ensures c.double_of.ensures in (
      (each_first FiniteWord read left rest l.p line.result more line.ensures l.invariant.0).1,
      ap length made ∙ length-set l.doubles (place_of a.run a.map.now.layout l.i line.result) _ ∙ l.invariant.1,
      ap (λ (t : List Float). spread (put_word a.run a.map.now.layout) read rest (l.i + 1) line.result.next t) made
          ∙ sym (spread_more (put_word a.run a.map.now.layout) read left rest l.i l.p l.doubles line.result more line.ensures)
          ∙ l.invariant.2,
    )

pub returns : goal.returns
returns c = let a = c.args in let l = c.loop-i in
    sym (spread_none (put_word a.run a.map.now.layout) (line_of a.run a.bytes.now) (a.from + a.count - l.i) l.i l.p l.doubles (omega arith)) ∙ l.invariant.2
