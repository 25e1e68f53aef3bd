-- `sheet_reader::sheet_lines::lines`: run by run, as defined; a refused line ends them.
use Rattle.std.proofs.Common.{refl, sym}
use Rattle.std.proofs.lemmas.Result.{err_from_is_err_and}
use Rattle.sheet_reader.proofs.line_verdict.Runs.{ok_reached}
use Rattle.sheet_reader.proofs.sheet_lines.Sequence.{blocks_refused, zz_refused, at_words, words_refused, past_words, all_read}
use Rattle.sheet_reader.proofs.sheet_lines.lines.Goals as goal

pub returns-in_err-zz : goal.returns-in_err-zz
returns-in_err-zz c = let p = err_from_is_err_and c.from_residual.result c.from_residual.ensures.1 in rw (p.1, p.2)
    (blocks_refused _ _ _ c.in_err-zz.ensures.past)

pub returns-in_err-zx : goal.returns-in_err-zx
returns-in_err-zx c = let p = err_from_is_err_and c.from_residual-in_err-zx.result c.from_residual-in_err-zx.ensures.1 in rw (p.1, p.2)
    (zz_refused _ _ _ c.in_ok-zz.ensures.past c.in_err-zx.ensures.past)

pub returns-in_err-zy : goal.returns-in_err-zy
returns-in_err-zy c = let p = err_from_is_err_and c.from_residual-in_err-zy.result c.from_residual-in_err-zy.ensures.1 in rw (p.1, p.2)
    (words_refused (at_words _ _ _ c.in_ok-zz.ensures.past c.in_ok-zx.ensures.past) c.in_err-zy.ensures.past)

pub returns-in_err-xx : goal.returns-in_err-xx
returns-in_err-xx c = let p = err_from_is_err_and c.from_residual-in_err-xx.result c.from_residual-in_err-xx.ensures.1 in rw (p.1, p.2)
    (words_refused (past_words (at_words _ _ _ c.in_ok-zz.ensures.past c.in_ok-zx.ensures.past) c.in_ok-zy.ensures.past) c.in_err-xx.ensures.past)

pub returns-in_err-xy : goal.returns-in_err-xy
returns-in_err-xy c = let p = err_from_is_err_and c.from_residual-in_err-xy.result c.from_residual-in_err-xy.ensures.1 in rw (p.1, p.2)
    (words_refused (past_words (past_words (at_words _ _ _ c.in_ok-zz.ensures.past c.in_ok-zx.ensures.past) c.in_ok-zy.ensures.past) c.in_ok-xx.ensures.past) c.in_err-xy.ensures.past)

pub returns-in_err-yy : goal.returns-in_err-yy
returns-in_err-yy c = let p = err_from_is_err_and c.from_residual-in_err-yy.result c.from_residual-in_err-yy.ensures.1 in rw (p.1, p.2)
    (words_refused (past_words (past_words (past_words (at_words _ _ _ c.in_ok-zz.ensures.past c.in_ok-zx.ensures.past) c.in_ok-zy.ensures.past) c.in_ok-xx.ensures.past) c.in_ok-xy.ensures.past) c.in_err-yy.ensures.past)

pub returns-in_err-end : goal.returns-in_err-end
returns-in_err-end c = let p = err_from_is_err_and c.from_residual-in_err-end.result c.from_residual-in_err-end.ensures.1 in rw (p.1, p.2)
    (words_refused (past_words (past_words (past_words (past_words (at_words _ _ _ c.in_ok-zz.ensures.past c.in_ok-zx.ensures.past) c.in_ok-zy.ensures.past) c.in_ok-xx.ensures.past) c.in_ok-xy.ensures.past) c.in_ok-yy.ensures.past) c.in_err-end.ensures.past)

pub returns : goal.returns
returns c = all_read
    (record {
      blocks = sym (ok_reached _ _ c.in_ok-zz.ensures.past);
      entries = sym (ok_reached _ _ c.in_ok-zx.ensures.past);
      zx_words = sym (ok_reached _ _ c.in_ok-zy.ensures.past);
      zy_words = sym (ok_reached _ _ c.in_ok-xx.ensures.past);
      xx_words = sym (ok_reached _ _ c.in_ok-xy.ensures.past);
      xy_words = sym (ok_reached _ _ c.in_ok-yy.ensures.past);
      yy_words = sym (ok_reached _ _ c.in_ok-end.ensures.past);
    })
    refl
