-- `sheet_reader::block_line::block_line`: field by field, as defined.
use Rattle.std.proofs.Common.{◌≡◌, ℕ, List}
use Rattle.sheet.specs.declared.Field.{Field}
use Rattle.sheet.specs.declared.Line.{Line}
use Rattle.sheet.specs.Line.{block_line, tab, lf, block_tag, tag_to, number_to}
use Rattle.sheet_reader.proofs.block_line.block_line.Goals as goal

counts : (s : List ℕ) (at : ℕ) (t m e : Field) → t ≡ tag_to block_tag s at → m ≡ number_to tab s t.next → e ≡ number_to lf s m.next → ◌≡◌ {A = Line} (record { first = m.value; second = e.value; word = 0; next = e.next }) (block_line s at)
unfolding block_line
counts s at t m e f g h = cc

pub returns : goal.returns
returns c = let a = c.args in
    counts a.bytes.now a.at c.tag-t.result c.number-m.result c.number-e.result c.tag-t.ensures
    c.number-m.ensures c.number-e.ensures
