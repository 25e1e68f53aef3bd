-- `sheet_checks::mirror_step::check_entry`: each way that the line of an entry goes.
use Rattle.sheet_checks.proofs.mirror_step.Turns.{turn_first, turn_stay, turn_cursor, turn_above, turn_skip, below_from, below_fits, below_in, due_fits, above_from, above_fits, above_in}
use Rattle.sheet_checks.proofs.mirror_step.check_entry.Goals as goal

pub overflow_sub-j : goal.overflow_sub-j
overflow_sub-j c = search above_from

pub offset_bounds-cur-j : goal.offset_bounds-cur-j
offset_bounds-cur-j c = search above_fits

pub bounds-cur-j : goal.bounds-cur-j
bounds-cur-j c = search above_in

pub meet-r-requires : goal.meet-r-requires
meet-r-requires c = let p = c.requires in
    let l = c.pair_line-l.ensures in let h = c.if-l.true in
    (p.0, p.2.here, l, h, turn_cursor p.0.1 p.2 p.0.2 l p.1 c.with_unfit-first.ensures c.in_group.ensures c.if-in_group.true h)

pub offset_bounds-cur-j-then-l : goal.offset_bounds-cur-j-then-l
offset_bounds-cur-j-then-l c = search above_fits

pub bounds-cur-j-then-l : goal.bounds-cur-j-then-l
bounds-cur-j-then-l c = search above_in

pub returns-then-l : goal.returns-then-l
returns-then-l c = let p = c.requires in
    let l = c.pair_line-l.ensures in
    turn_above p.0.1 p.2 p.0.2 l p.1 c.with_unfit-first.ensures c.in_group.ensures c.if-in_group.true c.if-l.true c.meet-r.ensures.0 c.meet-r.ensures.1

pub overflow_sub-j-then-l-k : goal.overflow_sub-j-then-l-k
overflow_sub-j-then-l-k c = search below_from

pub offset_bounds-cur-j-then-l-k : goal.offset_bounds-cur-j-then-l-k
offset_bounds-cur-j-then-l-k c = search below_fits

pub bounds-cur-j-then-l-k : goal.bounds-cur-j-then-l-k
bounds-cur-j-then-l-k c = search below_in

pub overflow_add-result : goal.overflow_add-result
overflow_add-result c = search due_fits

pub returns-then-l-k : goal.returns-then-l-k
returns-then-l-k c = let p = c.requires in
    let l = c.pair_line-l.ensures in
    turn_first p.0.1 p.2 p.0.2 l p.1 c.with_unfit-first.ensures c.in_group.ensures c.if-in_group.true c.if-l-k.true

pub returns-then-in_group : goal.returns-then-in_group
returns-then-in_group c = let p = c.requires in
    let l = c.pair_line-l.ensures in
    turn_stay p.0.1 p.2 p.0.2 l p.1 c.with_unfit-first.ensures c.in_group.ensures c.if-in_group.true c.if-l.false c.if-l-k.false

pub returns : goal.returns
returns c = let p = c.requires in turn_skip p.0.1 p.2 p.0.2 c.pair_line-l.ensures c.in_group.ensures c.if-in_group.false
