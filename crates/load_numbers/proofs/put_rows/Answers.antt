use Prim.Native.Nat.{ℕ, ◌+◌, ◌-◌}
use mathlib.Core.Path.{◌≡◌, refl, sym, ap, ◌∙◌}
use mathlib.Core.List.{List}
use native.Mathlib.Omega.{arith}
use lib.ListN.{length, length-set}
use Rattle.sheet.specs.Line.{zz_tag, pair_line}
use Rattle.load_numbers.specs.word_address.Spread.{spread}
use Rattle.load_numbers.proofs.word_address.Places.{spread_none, spread_more}
use Rattle.load_numbers.specs.Rows.{row_place, put_row}
use Rattle.load_numbers.proofs.Made.{any_number}
use Rattle.load_numbers.proofs.put_rows.Goals as goal

pub loop-line-init : goal.loop-line-init
loop-line-init c = let a = c.args in let all : a.count - 0 ≡ a.count = omega arith in
    (refl, ap (λ (n : ℕ). spread (put_row a.map.now.layout) (pair_line zz_tag a.bytes.now) n 0 a.at a.heading.now) all)

pub loop-line-preserved : goal.loop-line-preserved
loop-line-preserved c = let a = c.args in
    let l = c.loop-line in
    let line = c.entry_at-l in
    let left : ℕ = a.count - l._line in
    let rest : ℕ = a.count - (l._line + 1) in
    let read = pair_line zz_tag a.bytes.now in let made = c.put_row.ensures in (
      ap length made ∙ length-set l.heading (row_place a.map.now.layout line.result.first line.result.second) _ ∙ l.invariant.0,
      ap (λ (t : List ℕ). spread (put_row a.map.now.layout) read rest 0 line.result.next t) made
          ∙ sym (spread_more (put_row a.map.now.layout) read left rest 0 l.p l.heading line.result (omega arith) line.ensures ∙ any_number a.map.now.layout read rest (0 + 1) line.result.next (put_row a.map.now.layout 0 line.result l.heading))
          ∙ l.invariant.1,
    )

pub returns : goal.returns
returns c = let a = c.args in let l = c.loop-line in
    sym (spread_none (put_row a.map.now.layout) (pair_line zz_tag a.bytes.now) (a.count - l._line) 0 l.p l.heading (omega arith)) ∙ l.invariant.1
