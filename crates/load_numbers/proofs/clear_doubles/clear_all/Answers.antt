-- `load_numbers::clear_doubles::clear_all`: as many doubles as the formula says.
use Prim.Native.Nat.{ℕ}
use mathlib.Core.Path.{ap, ◌∙◌}
use Rattle.storage.specs.Runs.{tab}
use Rattle.storage.specs.Part.{store}
use Rattle.rules.specs.Arithmetic.{ieee}
use Rattle.load_numbers.proofs.clear_doubles.clear_all.Goals as goal

pub returns : goal.returns
returns c = let a = c.args in
    c.clear.ensures ∙ ap (λ (n : ℕ). store 0 (tab n (λ i. ieee.zero)) a.doubles.now) c.doubles_needed.ensures
