-- `deviance::deviance_value::freedom`: n and p are doubles.
use mathlib.Core.Path.{refl}
use native.Mathlib.Omega.{arith}
use Rattle.layout_gate.proofs.pair_gate.Answers.{whole}
use Rattle.heading_format.proofs.Valid.{is_valid}
use Rattle.deviance.proofs.deviance_value.freedom.Goals as goal

pub int_to_float-result : goal.int_to_float-result
int_to_float-result c = whole c.args.layout.n (omega (arith, (is_valid c.args.layout c.requires).readings.1))

pub int_to_float-result-then-reml : goal.int_to_float-result-then-reml
int_to_float-result-then-reml c = whole c.args.layout.p (omega (arith, (is_valid c.args.layout c.requires).effects.1))

pub returns-then-reml : goal.returns-then-reml
returns-then-reml c = rw c.if-reml.true refl

pub int_to_float-result-2 : goal.int_to_float-result-2
int_to_float-result-2 c = whole c.args.layout.n (omega (arith, (is_valid c.args.layout c.requires).readings.1))

pub returns : goal.returns
returns c = rw c.if-reml.false refl
