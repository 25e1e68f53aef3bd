-- `text_output::put_byte`: one byte is set.
use mathlib.Core.Path.{refl}
use Rattle.text_output.proofs.Written.{byte_put}
use Rattle.text_output.proofs.put_byte.Goals as goal

pub returns : goal.returns
returns c = (refl, byte_put _ _ _ c.requires)
