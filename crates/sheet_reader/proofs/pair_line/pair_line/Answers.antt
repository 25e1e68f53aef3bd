-- `sheet_reader::pair_line::pair_line`: field by field, as defined.
use Rattle.std.proofs.Common.{◌≡◌, ℕ, List}
use Rattle.sheet.specs.declared.Field.{Field}
use Rattle.sheet.specs.declared.Line.{Line}
use Rattle.sheet.specs.Line.{pair_line, tab, tag_to, number_to, word_to}
use Rattle.sheet_reader.proofs.pair_line.pair_line.Goals as goal

pair : (t s : List ℕ) (at : ℕ) (o a b w : Field) → o ≡ tag_to t s at → a ≡ number_to tab s o.next → b ≡ number_to tab s a.next → w ≡ word_to s b.next → ◌≡◌ {A = Line} (record { first = a.value; second = b.value; word = w.value; next = w.next }) (pair_line t s at)
unfolding pair_line
pair t s at o a b w e f g h = cc

pub returns : goal.returns
returns c = let a = c.args in
    pair a.t.now a.bytes.now a.at c.tag-o.result c.number-a.result c.number-b.result c.word-w.result
    c.tag-o.ensures c.number-a.ensures c.number-b.ensures c.word-w.ensures
