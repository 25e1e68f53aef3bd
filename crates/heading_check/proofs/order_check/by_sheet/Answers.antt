use borrow.Author.Rules.{rules}
use Rattle.heading_check.proofs.order_check.Sheets.{sheets_done, sheets_none, sheets_more}
use Rattle.heading_check.proofs.order_check.by_sheet.Goals as goal

pub loop-s-init : goal.loop-s-init
loop-s-init c = (search rules, search sheets_none)

pub loop-s-preserved : goal.loop-s-preserved
loop-s-preserved c = (search rules, search sheets_more)

pub returns : goal.returns
returns c = search sheets_done
