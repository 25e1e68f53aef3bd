use mathlib.Core.Path.{◌∙◌}
use native.Mathlib.Omega.{arith}
use lib.Ieee.{nan}
use Rattle.storage.proofs.Filling.{filling_none, array_more, array_done}
use Rattle.capi.specs.Told.{word_of}
use Rattle.capi.proofs.Laws.{map_tab}
use Rattle.capi.proofs.write_words.Goals as goal

pub loop-i-init : goal.loop-i-init
loop-i-init c = filling_none _ 0 _ _ (omega (arith, c.requires))

pub loop-i-preserved : goal.loop-i-preserved
loop-i-preserved c = array_more c.loop-i.invariant c.loop-i-test.true c.word_of.ensures

pub returns : goal.returns
returns c = array_done c.loop-i.invariant (omega arith) c.requires ∙ map_tab word_of c.args.out.now nan
