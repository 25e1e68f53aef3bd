-- `heading_check::order_check::is_sorted`: the order of the levels by sheet index.
use Rattle.heading_check.proofs.order_check.Sheets.{sorted_same}
use borrow.Author.Rules.{rules}
use Rattle.heading_check.proofs.order_check.is_sorted.Goals as goal

pub returns : goal.returns
returns c = sorted_same c.args.layout c.by_sheet-m.result c.agree.ensures c.sorted-s.ensures c.by_sheet-m.ensures
    c.requires (search rules)
