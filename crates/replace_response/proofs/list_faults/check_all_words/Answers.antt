-- `replace_response::list_faults::check_all_words`: list by list.
use mathlib.Core.Path.{sym, ◌∙◌}
use borrow.Author.Rules.{rules}
use Rattle.workspace.specs.Response.{response}
use Rattle.replace_response.proofs.list_faults.InTurn.{words_in_turn}
use Rattle.replace_response.proofs.list_faults.check_all_words.Goals as goal

pub returns-in_err-check_words : goal.returns-in_err-check_words
returns-in_err-check_words c = let a = c.args in
    rw (words_in_turn (response a.zty.now a.xty.now a.yty.now), sym c.check_words.ensures ∙ c.in_err-check_words.was) (search rules)

pub returns-in_err-check_words-2 : goal.returns-in_err-check_words-2
returns-in_err-check_words-2 c = let a = c.args in
    rw (words_in_turn (response a.zty.now a.xty.now a.yty.now), sym c.check_words.ensures ∙ c.in_ok-check_words.was, sym c.check_words-2.ensures ∙ c.in_err-check_words-2.was) (search rules)

pub returns : goal.returns
returns c = let a = c.args in
    rw (words_in_turn (response a.zty.now a.xty.now a.yty.now), sym c.check_words.ensures ∙ c.in_ok-check_words.was, sym c.check_words-2.ensures ∙ c.in_ok-check_words-2.was) c.check_words-3.ensures
