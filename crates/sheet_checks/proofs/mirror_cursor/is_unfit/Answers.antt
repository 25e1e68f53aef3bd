-- `sheet_checks::mirror_cursor::is_unfit`: the tests, with the blocks of column and row.
use Rattle.sheet_checks.proofs.mirror_cursor.is_unfit.Goals as goal

pub returns : goal.returns
returns c = λ sheet line e k h g.
    rw (c.is_zero.ensures, c.block_of-a.ensures sheet.blocks e k h, c.block_of-b.ensures sheet.blocks e k g)
