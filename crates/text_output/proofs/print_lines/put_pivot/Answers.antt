-- `text_output::print_lines::put_pivot`: the parts of the line, one behind the other.
use native.Mathlib.Omega.{arith}
use Rattle.text_output.proofs.Numbers.{number_length}
use Rattle.text_output.proofs.print_lines.Lines.{pivot_put}
use Rattle.text_output.proofs.print_lines.put_pivot.Goals as goal

pub put_byte-p-requires : goal.put_byte-p-requires
put_byte-p-requires c = let a = c.args in
    omega (arith, number_length a.block)

pub put_number-p-requires-2 : goal.put_number-p-requires-2
put_number-p-requires-2 c = let a = c.args in
    omega (arith, number_length a.block)

pub put_byte-p-requires-2 : goal.put_byte-p-requires-2
put_byte-p-requires-2 c = let a = c.args in
    omega (arith, number_length a.block, number_length a.row)

pub put_word-p-requires : goal.put_word-p-requires
put_word-p-requires c = let a = c.args in
    omega (arith, number_length a.block, number_length a.row)

pub put_byte-requires : goal.put_byte-requires
put_byte-requires c = let a = c.args in
    omega (arith, number_length a.block, number_length a.row)

pub returns : goal.returns
returns c = let a = c.args in pivot_put a.at a.block a.row a.x a.out.now c.requires
    c.put_text-p.ensures c.put_number-p.ensures c.put_byte-p.ensures
    c.put_number-p-2.ensures c.put_byte-p-2.ensures c.put_word-p.ensures c.put_byte.ensures
