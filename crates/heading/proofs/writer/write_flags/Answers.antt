-- `heading::writer::write_flags`: one after the other.
use mathlib.Core.Path.{◌∙◌}
use Rattle.heading.proofs.Numbers.{flag_number, flags_stored}
use Rattle.heading.proofs.writer.write_flags.Goals as goal

pub returns : goal.returns
returns c = let w = c.args.heading.now in
    flags_stored w _ _ c.put-2.ensures c.put.ensures (c.from.ensures ∙ flag_number _) (c.from-2.ensures ∙ flag_number _) c.requires
