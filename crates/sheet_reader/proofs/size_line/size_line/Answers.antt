-- `sheet_reader::size_line::size_line`: field by field, as defined.
use Rattle.std.proofs.Common.{◌≡◌, ℕ, List}
use Rattle.sheet.specs.declared.Field.{Field}
use Rattle.sheet.specs.declared.Size.{Size}
use Rattle.sheet.specs.Line.{size_line, tab, lf, size_tag, tag_to, number_to}
use Rattle.sheet.proofs.Made.{counts_with}
use Rattle.sheet_reader.proofs.size_line.size_line.Goals as goal

counts : (s : List ℕ) (at : ℕ) (t n p q k f : Field) → t ≡ tag_to size_tag s at → n ≡ number_to tab s t.next → p ≡ number_to tab s n.next → q ≡ number_to tab s p.next → k ≡ number_to tab s q.next → f ≡ number_to lf s k.next → ◌≡◌ {A = Size} (record { counts = counts_with n.value p.value q.value k.value f.value; next = f.next }) (size_line s at)
unfolding size_line
counts s at t n p q k f e₀ e₁ e₂ e₃ e₄ e₅ = cc

pub returns : goal.returns
returns c = let a = c.args in
    counts a.bytes.now a.at c.tag-t.result c.number-n.result
    c.number-p.result c.number-q.result c.number-k.result c.number-f.result
    c.tag-t.ensures c.number-n.ensures
    c.number-p.ensures c.number-q.ensures c.number-k.ensures c.number-f.ensures
