-- `text_output::put_digits`: the digits of the tenth, and the last.
use native.Mathlib.Omega.{arith}
use Rattle.text_output.proofs.Digits.{digits_one, digits_more, digits_one_put, digits_more_put}
use Rattle.text_output.proofs.+put_digits.Goals as goal

pub put_byte-requires : goal.put_byte-requires
put_byte-requires t c = omega (arith, digits_one c.args.x c.if-x-lt10.true)

pub returns-then-x-lt10 : goal.returns-then-x-lt10
returns-then-x-lt10 t c = digits_one_put c.args.at c.args.x c.args.out.now c.if-x-lt10.true c.put_byte.ensures

pub put_digits-last-requires : goal.put_digits-last-requires
put_digits-last-requires t c =
    (omega (arith, c.decreases), omega (arith, digits_more c.args.x c.ranges.x.fits c.if-x-lt10.false))

pub put_byte-requires-2 : goal.put_byte-requires-2
put_byte-requires-2 t c = omega (arith, digits_more c.args.x c.ranges.x.fits c.if-x-lt10.false)

pub returns : goal.returns
returns t c =
    let a = c.args in
    digits_more_put a.at a.x a.out.now c.ranges.x.fits c.if-x-lt10.false c.requires c.put_digits-last.ensures c.put_byte-2.ensures
