-- `factor_text::put_sheet`: load, and what it came to.
use Rattle.factor_text.proofs.refusal_text.Texts.{few_lines, sheet_out}
use borrow.Author.Rules.{rules}
use Rattle.factor_text.proofs.put_sheet.Goals as goal

pub put_loaded-requires : goal.put_loaded-requires
put_loaded-requires c = let p = c.requires in let f = few_lines (c.args.bytes).now c.args.starts p.0 p.1 in (f.0, f.1, search rules)

pub returns : goal.returns
returns c = let p = c.requires in
    sheet_out (c.args.bytes).now c.args.starts p.0 p.1 p.2 _ _ _ _ _ _ (c.load_sheet-a.ensures p.0 p.1) c.put_loaded.ensures
