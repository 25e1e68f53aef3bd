-- `load_numbers::word_address::place_of`: by its run.
use mathlib.Core.Path.{sym, ap, ◌∙◌}
use native.Mathlib.Omega.{arith}
use native.Mathlib.Nat.{mod-lt}
use Rattle.heading_format.proofs.Valid.{is_valid}
use Rattle.load_numbers.specs.declared.word_address.Run.{Run}
use Rattle.load_numbers.specs.word_address.Spread.{place_of}
use Rattle.load_numbers.proofs.word_address.place_of.Goals as goal

pub nonzero_div-i : goal.nonzero_div-i
nonzero_div-i c = omega (arith, (is_valid c.args.map.now.layout c.args.map.now.valid).effects.0)

pub nonzero_rem-i : goal.nonzero_rem-i
nonzero_rem-i c = omega (arith, (is_valid c.args.map.now.layout c.args.map.now.valid).effects.0)

pub fixed_place-requires : goal.fixed_place-requires
fixed_place-requires c = let h = (is_valid c.args.map.now.layout c.args.map.now.valid).effects.0 in
    omega (arith, mod-lt c.args.i h)

pub returns-in-Zz : goal.returns-in-Zz
returns-in-Zz c = let a = c.args in
    c.entry_place.ensures ∙ ap (λ (run : Run). place_of run a.map.now.layout a.i a.l) (sym c.in-Zz.is)

pub returns-in-Zx : goal.returns-in-Zx
returns-in-Zx c = let a = c.args in
    c.fixed_place.ensures ∙ ap (λ (run : Run). place_of run a.map.now.layout a.i a.l) (sym c.in-Zx.is)

pub returns-in-Zy : goal.returns-in-Zy
returns-in-Zy c = let a = c.args in
    c.fixed_place-in-Zy.ensures ∙ ap (λ (run : Run). place_of run a.map.now.layout a.i a.l) (sym c.in-Zy.is)

pub returns-in-Xx : goal.returns-in-Xx
returns-in-Xx c = let a = c.args in
    c.last_place.ensures ∙ ap (λ (run : Run). place_of run a.map.now.layout a.i a.l) (sym c.in-Xx.is)

pub returns-in-Xy : goal.returns-in-Xy
returns-in-Xy c = let a = c.args in
    c.last_place-in-Xy.ensures ∙ ap (λ (run : Run). place_of run a.map.now.layout a.i a.l) (sym c.in-Xy.is)

pub returns-in-Yy : goal.returns-in-Yy
returns-in-Yy c = let a = c.args in
    c.last_place-in-Yy.ensures ∙ ap (λ (run : Run). place_of run a.map.now.layout a.i a.l) (sym c.in-Yy.is)
