-- What is wrong with the lists of a response, list by list.
use Prim.Native.Nat.{ℕ, suc}
use mathlib.Core.Path.{◌≡◌, refl, ap}
use mathlib.Core.List.{List, [], ◌∷◌}
use mathlib.Core.Option.{Option, none, some}
use lib.Ieee.{Float}
use Rattle.std.specs.Prelude.{Result, Ok, Err}
use Rattle.refusal.specs.declared.Refusal.{Refusal}
use Rattle.workspace.specs.Answers.{first_infinite, length_fault, word_fault, first_of, list_fault, lengths}
use Rattle.workspace.specs.Response.{Response, lists_of, response_lengths}
use Rattle.layout.specs.declared.Layout.{Layout}
use Rattle.replace_response.specs.list_faults.Words.{words_fault}

word_after : (i : ℕ) (l : List Float) (lists : List (List Float)) → word_fault i (l ∷ lists) ≡ first_of (words_fault i l) (word_fault (suc i) lists)
unfolding word_fault
word_after i l lists = go (first_infinite 0 l) refl
  where
    go : (o : Option ℕ) → first_infinite 0 l ≡ o → word_fault i (l ∷ lists) ≡ first_of (words_fault i l) (word_fault (suc i) lists)
    go none e = rw e refl
    go (some a) e = rw e refl

no_list : (a : Result Unit Refusal) → first_of a (Ok tt) ≡ a
no_list (Ok u) = refl
no_list (Err f) = refl

-- the words, list by list
pub words_in_turn : (r : Response) → word_fault 0 (lists_of r) ≡ first_of (words_fault 0 r.zy) (first_of (words_fault 1 r.xy) (words_fault 2 r.yy))
unfolding word_fault
words_in_turn r = rw (word_after 0 r.zy (r.xy ∷ r.yy ∷ []), word_after 1 r.xy (r.yy ∷ []), word_after 2 r.yy [], no_list (words_fault 2 r.yy)) refl

-- every length, and then the words
pub in_turn : (y : Layout) (r : Response)
    → list_fault (response_lengths y) (lists_of r) ≡ first_of (length_fault 0 (response_lengths y) (lengths (lists_of r))) (first_of (words_fault 0 r.zy) (first_of (words_fault 1 r.xy) (words_fault 2 r.yy)))
in_turn y r = ap (first_of (length_fault 0 (response_lengths y) (lengths (lists_of r)))) (words_in_turn r)
