-- `load_numbers::word_address::fixed_place`: a cell of each row of block k for each level.
use Prim.Native.Nat.{ℕ, ◌+◌, ◌-◌, ◌*◌}
use mathlib.Core.Path.{ap, ap₂, ◌∙◌}
use native.Mathlib.Omega.{arith}
use Rattle.heading_format.proofs.Valid.{is_valid}
use Rattle.load_numbers.proofs.word_address.Places.{found, fixed_none, fixed_row_lem, fixed_low}
use Rattle.layout.specs.Shapes.{loaded_at}
use Rattle.workspace.specs.Loaded.{row_start}
use Rattle.load_numbers.proofs.word_address.fixed_place.Goals as goal

pub returns-then-j-map : goal.returns-then-j-map
returns-then-j-map c = fixed_none c.args.map.now.layout c.args.x c.args.r c.block_of-j.result c.block_of-j.ensures (omega arith)

pub level_of-c-requires : goal.level_of-c-requires
level_of-c-requires c = let b = c.block_of-j in
    (omega arith, found c.args.map.now.layout c.args.x b.result b.ensures (omega arith))

pub overflow_mul-result : goal.overflow_mul-result
overflow_mul-result c = let j = c.block_of-j.result in
    omega (arith, fixed_low c.level_of-c.result c.last_rows-rows.result (omega (arith, c.level_of-c.ensures.1, ((is_valid c.args.map.now.layout c.args.map.now.valid).level j (omega arith)).1)) c.last_rows-rows.ensures.1)

pub overflow_add-result : goal.overflow_add-result
overflow_add-result c = let j = c.block_of-j.result in
    omega (arith, (is_valid c.args.map.now.layout c.args.map.now.valid).effects.1, fixed_low c.level_of-c.result c.last_rows-rows.result (omega (arith, c.level_of-c.ensures.1, ((is_valid c.args.map.now.layout c.args.map.now.valid).level j (omega arith)).1)) c.last_rows-rows.ensures.1)

pub overflow_add-result-2 : goal.overflow_add-result-2
overflow_add-result-2 c = let j = c.block_of-j.result in
    omega (arith, c.start_of.ensures.1, (is_valid c.args.map.now.layout c.args.map.now.valid).effects.1, fixed_low c.level_of-c.result c.last_rows-rows.result (omega (arith, c.level_of-c.ensures.1, ((is_valid c.args.map.now.layout c.args.map.now.valid).level j (omega arith)).1)) c.last_rows-rows.ensures.1)

pub returns : goal.returns
returns c = let b = c.block_of-j in
    ap₂ (λ (u v : ℕ). u + (v * c.last_rows-rows.result + c.args.r)) c.start_of.ensures.0 c.level_of-c.ensures.0
    ∙ ap (λ (n : ℕ). loaded_at c.args.map.now.layout c.args.map.now.layout.k b.result + ((c.args.x - row_start c.args.map.now.layout b.result) * n + c.args.r)) c.last_rows-rows.ensures.0
    ∙ fixed_row_lem c.args.map.now.layout c.args.x c.args.r b.result b.ensures (omega arith)
