-- `factor_text::pivot_lines::put_pivots`: by the heading's own layout.
use lib.ListN.{length}
use Rattle.heading_format.proofs.Fits.{fits, read_fits, room_of_lem}
use Rattle.factor_text.proofs.pivot_lines.Lines.{lines_put}
use Rattle.factor_text.proofs.pivot_lines.put_pivots.Goals as goal

pub layout-requires : goal.layout-requires
layout-requires c = (fits (c.args.heading).now (length (c.args.doubles).now) c.requires.0).long

pub put_blocks-requires : goal.put_blocks-requires
put_blocks-requires c = let h = (c.args.heading).now in
    (room_of_lem (read_fits c.layout.ensures (fits h (length (c.args.doubles).now) c.requires.0)), c.requires.1)

pub returns : goal.returns
returns c = let a = c.args in
    lines_put a.heading.now a.doubles.now _ c.layout.ensures a.out.now _ _ c.put_blocks.ensures
