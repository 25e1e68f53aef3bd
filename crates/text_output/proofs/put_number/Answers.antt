-- `text_output::put_number`: 20 bytes are room for any number.
use native.Mathlib.Omega.{arith}
use Rattle.text_output.proofs.Numbers.{number_length}
use Rattle.text_output.proofs.put_number.Goals as goal

pub put_digits-requires : goal.put_digits-requires
put_digits-requires c = omega (arith, number_length c.args.x)
