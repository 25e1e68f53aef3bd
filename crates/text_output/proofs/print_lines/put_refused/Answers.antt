-- `text_output::print_lines::put_refused`: the parts of the line, one behind the other.
use native.Mathlib.Omega.{arith}
use Rattle.text_output.proofs.Numbers.{number_length}
use Rattle.text_output.proofs.print_lines.Lines.{refused_long, refused_put}
use Rattle.text_output.proofs.print_lines.put_refused.Goals as goal

pub put_byte-p-requires : goal.put_byte-p-requires
put_byte-p-requires c = let a = c.args in
    omega (arith, number_length a.number)

pub put_number-p-requires-2 : goal.put_number-p-requires-2
put_number-p-requires-2 c = let a = c.args in
    omega (arith, number_length a.number)

pub put_byte-p-requires-2 : goal.put_byte-p-requires-2
put_byte-p-requires-2 c = let a = c.args in
    omega (arith, number_length a.number, number_length a.first)

pub put_number-p-requires-3 : goal.put_number-p-requires-3
put_number-p-requires-3 c = let a = c.args in
    omega (arith, number_length a.number, number_length a.first)

pub put_byte-requires : goal.put_byte-requires
put_byte-requires c = let a = c.args in
    omega (arith, number_length a.number, number_length a.first, number_length a.second)

pub returns : goal.returns
returns c = let a = c.args in let p = refused_put a.at a.number a.first a.second a.out.now c.requires
    c.put_text-p.ensures c.put_number-p.ensures c.put_byte-p.ensures
    c.put_number-p-2.ensures c.put_byte-p-2.ensures c.put_number-p-3.ensures c.put_byte.ensures in
    (omega (arith, p.0, refused_long a.number a.first a.second), p)
