-- `capi::answer_list::tell`: the places, and the values behind them.
use mathlib.Core.Path.{ap}
use borrow.Author.Rules.{rules}
use mathlib.Core.List.{List}
use Prim.Native.Nat.{ℕ}
use Rattle.capi.specs.Told.{leaves}
use Rattle.capi.proofs.Laws.{words_told}
use Rattle.capi.proofs.answer_list.tell.Goals as goal

pub returns : goal.returns
returns g c = ap (λ (l : List ℕ). leaves c.args.n.number l) (words_told c.args.n.first c.args.n.second _ _ c.args.answer.now c.copy_from_slice.ensures.after (search rules) c.requires)
