-- `capi::write_words`: the first i words are written.
use Prim.Native.Nat.{◌-◌}
use lib.Ieee.{nan}
use lib.ListN.{length, get_or}
use Rattle.storage.proofs.Filling.{Filling}
use Rattle.capi.specs.Told.{word_of}
use Rattle.capi.proofs.write_words.Given as goal

abbrev pub invariant-loop-i : goal.invariant-loop-i
invariant-loop-i l = Filling (λ k. word_of (get_or l.out k nan)) 0 (length l.out) l.initial.words l.words l.i
