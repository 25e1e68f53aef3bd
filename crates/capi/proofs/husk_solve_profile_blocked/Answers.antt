-- `capi::husk_solve_profile_blocked`: the boundary's tests, then the call.
use mathlib.Core.Path.{refl}
use borrow.Author.Tests.{lt-ltb, le-ltb, eq-eqb, ne_eqb}
use Rattle.capi.proofs.husk_solve_profile_blocked.Goals as goal

pub returns-then-answer-lt4 : goal.returns-then-answer-lt4
returns-then-answer-lt4 c = rw (lt-ltb _ _ c.if-answer-lt4.true) refl

pub returns-then-mode-gt1 : goal.returns-then-mode-gt1
returns-then-mode-gt1 c = rw (le-ltb _ _ c.if-answer-lt4.false, lt-ltb _ _ c.if-mode-gt1.true) refl

pub returns-then-words-out : goal.returns-then-words-out
returns-then-words-out c = rw (le-ltb _ _ c.if-answer-lt4.false, le-ltb _ _ c.if-mode-gt1.false, ne_eqb _ _ c.if-words-out.true) refl

pub returns : goal.returns
returns c = rw (le-ltb _ _ c.if-answer-lt4.false, le-ltb _ _ c.if-mode-gt1.false, eq-eqb _ _ c.if-words-out.false) c.solve.ensures
