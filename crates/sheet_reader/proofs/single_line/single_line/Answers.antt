-- `sheet_reader::single_line::single_line`: field by field, as defined.
use Rattle.std.proofs.Common.{◌≡◌, ℕ, List}
use Rattle.sheet.specs.declared.Field.{Field}
use Rattle.sheet.specs.declared.Line.{Line}
use Rattle.sheet.specs.Line.{single_line, tab, tag_to, number_to, word_to}
use Rattle.sheet_reader.proofs.single_line.single_line.Goals as goal

single : (t s : List ℕ) (at : ℕ) (o i w : Field) → o ≡ tag_to t s at → i ≡ number_to tab s o.next → w ≡ word_to s i.next → ◌≡◌ {A = Line} (record { first = i.value; second = 0; word = w.value; next = w.next }) (single_line t s at)
unfolding single_line
single t s at o i w e f g = cc

pub returns : goal.returns
returns c = let a = c.args in
    single a.t.now a.bytes.now a.at c.tag-o.result c.number-i.result c.word-w.result c.tag-o.ensures
    c.number-i.ensures c.word-w.ensures
