-- `text_output::put_text`: a copy.
use mathlib.Core.Path.{refl}
use native.Mathlib.Omega.{arith}
use Rattle.text_output.proofs.Written.{copy_put}
use Rattle.text_output.proofs.put_text.Goals as goal

pub returns : goal.returns
returns c = let a = c.args in (refl, copy_put a.at _ a.text.now _ a.out.now (omega arith) c.copy_from_slice.ensures.after)
