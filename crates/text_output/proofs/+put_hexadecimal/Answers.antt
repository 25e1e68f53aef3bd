-- `text_output::put_hexadecimal`: the digits of the sixteenth, and the last.
use Rattle.text_output.proofs.Digits.{hexadecimal_none_put, hexadecimal_more_put}
use Rattle.text_output.proofs.+put_hexadecimal.Goals as goal

pub returns-then-n-eq0 : goal.returns-then-n-eq0
returns-then-n-eq0 t c = let a = c.args in hexadecimal_none_put a.at a.n a.x a.out.now c.if-n-eq0.true

pub returns : goal.returns
returns t c =
    let a = c.args in
    hexadecimal_more_put a.at a.n a.x a.out.now c.if-n-eq0.false c.requires c.put_hexadecimal-last.ensures c.hex_digit.ensures c.put_byte.ensures
