-- `load_numbers::word_address::entry_place`: way out by way out.
use Prim.Native.Nat.{ℕ, ◌+◌}
use mathlib.Core.Path.{ap₂, ◌∙◌}
use native.Mathlib.Omega.{arith}
use Rattle.layout.specs.Shapes.{levels}
use Rattle.heading_format.proofs.Valid.{is_valid}
use Rattle.load_numbers.proofs.word_address.Places.{found, entry_none, entry_own, entry_mirror, entry_pair, pair_same}
use Rattle.load_numbers.proofs.word_address.entry_place.Goals as goal

pub returns-then-i-map : goal.returns-then-i-map
returns-then-i-map c = entry_none c.args.map.now.layout c.args.col c.args.row c.block_of-i.result c.block_of-i.ensures (omega arith)

pub level_of-r-requires : goal.level_of-r-requires
level_of-r-requires c = let b = c.block_of-i in
    (omega arith, found c.args.map.now.layout c.args.row b.result b.ensures (omega arith))

pub overflow_add-result : goal.overflow_add-result
overflow_add-result c = let i = c.block_of-i.result in
    omega (arith, c.start_of.ensures.1, c.level_of-r.ensures.1, ((is_valid c.args.map.now.layout c.args.map.now.valid).level i (omega arith)).1)

pub returns-then-col-row : goal.returns-then-col-row
returns-then-col-row c = let b = c.block_of-i in
    ap₂ (λ (u v : ℕ). u + v) c.start_of.ensures.0 c.level_of-r.ensures.0
    ∙ entry_own c.args.map.now.layout c.args.col c.args.row b.result b.ensures (omega arith) c.if-col-row.true

pub returns-then-j-i : goal.returns-then-j-i
returns-then-j-i c = let b = c.block_of-i in
    entry_mirror c.args.map.now.layout c.args.col c.args.row b.result b.ensures (omega arith) c.if-col-row.false c.block_of-j.result c.block_of-j.ensures (omega arith)

pub level_of-c-requires : goal.level_of-c-requires
level_of-c-requires c = let b = c.block_of-j in
    (omega arith, found c.args.map.now.layout c.args.col b.result b.ensures (omega arith))

pub pair_place-requires : goal.pair_place-requires
pair_place-requires c = let i = c.block_of-i.result in
    let j = c.block_of-j.result in (
      omega arith,
      omega (arith, c.level_of-c.ensures.1, ((is_valid c.args.map.now.layout c.args.map.now.valid).level j (omega arith)).1),
      omega (arith, c.level_of-r.ensures.1, ((is_valid c.args.map.now.layout c.args.map.now.valid).level i (omega arith)).1),
    )

pub returns : goal.returns
returns c = let b = c.block_of-i in
    let d = c.block_of-j in
    pair_same c.args.map.now.layout.sparse (levels c.args.map.now.layout b.result) c.start_of-2.ensures.0 c.level_of-c.ensures.0 c.level_of-r.ensures.0 c.pair_place.ensures.0
    ∙ entry_pair c.args.map.now.layout c.args.col c.args.row b.result b.ensures (omega arith) c.if-col-row.false d.result d.ensures (omega arith)
