-- `load::write_loaded::write_sheet`: two lists, each written by its own function.
use Rattle.load.proofs.write_loaded.write_sheet.Goals as goal

pub returns : goal.returns
returns c = λ sheet e. (c.write_heading.ensures sheet e, c.load_numbers.ensures sheet e)
