-- `sheet_reader::yy_line::bare_line`: field by field, as defined.
use Rattle.std.proofs.Common.{◌≡◌, ℕ, List}
use Rattle.sheet.specs.declared.Field.{Field}
use Rattle.sheet.specs.declared.Line.{Line}
use Rattle.sheet.specs.Line.{bare_line, tag_to, word_to}
use Rattle.sheet_reader.proofs.yy_line.bare_line.Goals as goal

bare : (t s : List ℕ) (at : ℕ) (o w : Field) → o ≡ tag_to t s at → w ≡ word_to s o.next → ◌≡◌ {A = Line} (record { first = 0; second = 0; word = w.value; next = w.next }) (bare_line t s at)
unfolding bare_line
bare t s at o w e f = cc

pub returns : goal.returns
returns c = let a = c.args in
    bare a.t.now a.bytes.now a.at c.tag-o.result c.word-w.result c.tag-o.ensures c.word-w.ensures
