-- `load_numbers::line_address::line_at`: by its run.
use mathlib.Core.Path.{sym, ap, ◌∙◌}
use Rattle.load_numbers.specs.declared.word_address.Run.{Run}
use Rattle.load_numbers.specs.word_address.Spread.{line_of}
use Rattle.load_numbers.proofs.line_address.line_at.Goals as goal

pub returns-in-Zz : goal.returns-in-Zz
returns-in-Zz c = let a = c.args in
    c.pair_line.ensures ∙ ap (λ (run : Run). line_of run a.bytes.now a.at) (sym c.in-Zz.is)

pub returns-in-Zx : goal.returns-in-Zx
returns-in-Zx c = let a = c.args in
    c.pair_line-in-Zx.ensures ∙ ap (λ (run : Run). line_of run a.bytes.now a.at) (sym c.in-Zx.is)

pub returns-in-Zy : goal.returns-in-Zy
returns-in-Zy c = let a = c.args in
    c.single_line.ensures ∙ ap (λ (run : Run). line_of run a.bytes.now a.at) (sym c.in-Zy.is)

pub returns-in-Xx : goal.returns-in-Xx
returns-in-Xx c = let a = c.args in
    c.pair_line-in-Xx.ensures ∙ ap (λ (run : Run). line_of run a.bytes.now a.at) (sym c.in-Xx.is)

pub returns-in-Xy : goal.returns-in-Xy
returns-in-Xy c = let a = c.args in
    c.single_line-in-Xy.ensures ∙ ap (λ (run : Run). line_of run a.bytes.now a.at) (sym c.in-Xy.is)

pub returns-in-Yy : goal.returns-in-Yy
returns-in-Yy c = let a = c.args in
    c.bare_line.ensures ∙ ap (λ (run : Run). line_of run a.bytes.now a.at) (sym c.in-Yy.is)
