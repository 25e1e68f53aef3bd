-- What begin and the Rust's order come to on a freshly loaded workspace.
use Prim.Native.Nat.{ℕ, ◌≤◌, suc}
use mathlib.Core.Path.{◌≡◌, refl, sym, ap, ◌∙◌}
use mathlib.Core.Logic.{◌⊎◌, ⊎_elim, by_cases}
use mathlib.Core.List.{List, ◌++◌}
use mathlib.Core.Option.{Option, none, some}
use native.Mathlib.Decide.{ℕ_discrete}
use native.Mathlib.Omega.{arith}
use lib.ListN.{length}
use lib.Ieee.{Float}
use borrow.Author.Tests.{eq-eqb, ne_eqb}
use Rattle.step_order.specs.Steps.{Step, S, C, T, col, rust_order}
use Rattle.step_order.specs.Progress.{join_all, row_in, refused_in}
use Rattle.step_order.proofs.Next.{rust_order_lem}
use Rattle.step_order.proofs.Theorems.{rust_complete}
use Rattle.sheet.specs.Sheet.{Sheet}
use Rattle.refusal.specs.Numbers.{refuse}
use Rattle.layout.specs.Shapes.{loaded_length}
use Rattle.workspace.specs.Memory.{working_block, log_sum, zeros}
use Rattle.workspace.specs.Answers.{first_infinite}
use Rattle.workspace.specs.Load.{heading_of}
use Rattle.update.specs.Calls.{begin_of}
use Rattle.book.specs.Book.{book, nothing, layout, last, fresh, rust, in_step, book_of}
use Rattle.book.specs.Values.{rules_here, start_here, final_value, logs_after, refused_pivot}
use Rattle.demand3.proofs.invariant.Invariant.{Site, Invariant}
use Rattle.demand3.proofs.invariant.Open.{fresh_site, fresh_invariant}
use Rattle.demand3.proofs.invariant.Begin.{begin_invariant}
use Rattle.demand3.proofs.step_laws.Run.{Through, Stopped, run_comes}
use Rattle.demand3.proofs.step_laws.Finished.{finished_factor, finished_sum, finished_none}
use Rattle.std.specs.Prelude.{Result, Ok, Err}
use Rattle.refusal.specs.declared.Refusal.{Refusal}

-- the answer to a refused pivot, and in a step to the row of one
abbrev pub answer_for : Option (ℕ × ℕ) → Result Unit Refusal
answer_for none = Ok tt
answer_for (some p) = refuse 26 p.0 p.1

abbrev pub answer_in : Step → Option ℕ → Result Unit Refusal
answer_in s none = Ok tt
answer_in s (some r) = refuse 26 (col s) r

-- C(j) answers the refused pivot where that lies in block j
answer_in_lem : (sheet : Sheet) (j : ℕ) (q : Option (ℕ × ℕ)) → in_step sheet (C j) (answer_for q) ≡ answer_in (C j) (row_in j q)
answer_in_lem sheet j none = refl
answer_in_lem sheet j (some p) = by_cases (ℕ_discrete p.0 j) (λ e. rw (eq-eqb p.0 j e, e)) (λ e. rw (ne_eqb p.0 j e))

-- S and T refuse no pivot
never_in : (sheet : Sheet) (i j x : ℕ) (a : Result Unit Refusal) → (in_step sheet (S i j x) a ≡ (Ok tt)) × (in_step sheet (T i j) a ≡ (Ok tt))
never_in sheet i j x (Ok tt) = (refl, refl)
never_in sheet i j x (Err r) = (refl, refl)

module _ (sheet : Sheet) (h : List ℕ) (w : List Float) (here : Site sheet h w) (loaded theta : List Float) (many : length loaded ≡ loaded_length (layout sheet))
    (theta_many : length theta ≡ last sheet) (finite : first_infinite 0 theta ≡ none) where
  -- the two lists of a freshly loaded workspace
  abbrev h' : List ℕ
  h' = heading_of sheet (layout sheet)

  abbrev w' : List Float
  w' = loaded ++ zeros (layout sheet)

  -- begin, then the Rust's order: all steps done, or a pivot refused
  ends : Through sheet h' w' (fresh_site sheet h w here loaded many) loaded theta (join_all nothing (rust_order (last sheet))) (rust sheet loaded theta)
      ⊎ Stopped sheet h' w' (fresh_site sheet h w here loaded many) loaded theta (rust sheet loaded theta)
  ends =
      run_comes sheet h' w' (fresh_site sheet h w here loaded many) loaded theta (rust_order (last sheet)) nothing (begin_of h' w' theta).left
      (begin_invariant sheet h' w' (fresh_site sheet h w here loaded many) (book_of loaded) (fresh sheet loaded) (fresh_invariant sheet h w here loaded many) theta theta_many finite)
      (rust_order_lem (last sheet))

  -- it answers the pivot that it refuses, if there is one
  pub rust_answer : (rust sheet loaded theta).answer ≡ answer_for (refused_pivot sheet loaded theta)
  rust_answer =
      ⊎_elim
      (λ t. t.answer
      ∙ sym (ap answer_for (finished_none sheet h' w' loaded theta (join_all nothing (rust_order (last sheet))) (rust sheet loaded theta).left t.stands (rust_complete (last sheet)).1)))
      (λ t. t.answer ∙ sym (ap answer_for t.pivot)) ends

  -- what that says of one step
  pub in_step_lem : (s : Step) → in_step sheet s (rust sheet loaded theta).answer ≡ answer_in s (refused_in (rules_here sheet loaded theta) (last sheet) (start_here sheet loaded theta) s)
  in_step_lem (S i j x) = (never_in sheet i j x (rust sheet loaded theta).answer).0
  in_step_lem (C j) = ap (in_step sheet (C j)) rust_answer ∙ answer_in_lem sheet j (refused_pivot sheet loaded theta)
  in_step_lem (T i j) = (never_in sheet i j 0 (rust sheet loaded theta).answer).1

  -- where it refuses none: the factor and the sum
  module _ (none_refused : refused_pivot sheet loaded theta ≡ none) where
    -- all steps were done
    pub through : Invariant sheet (heading_of sheet (layout sheet)) (loaded ++ zeros (layout sheet)) (book loaded theta (some (join_all nothing (rust_order (last sheet)))))
        (rust sheet loaded theta).left
    through = ⊎_elim (λ t. t.stands) (λ t. absurd (let z : ◌≡◌ {A = ℕ} 0 1 = cc t.pivot in omega arith)) ends

    pub rust_factor : (i j : ℕ) → j ≤ i → i ≤ last sheet
        → working_block (rust sheet loaded theta).left.heading (rust sheet loaded theta).left.doubles i j ≡ final_value sheet loaded theta i j
    rust_factor =
        finished_factor sheet h' w' loaded theta (join_all nothing (rust_order (last sheet))) (rust sheet loaded theta).left through (rust_complete (last sheet)).1

    pub rust_sum : log_sum (rust sheet loaded theta).left.heading (rust sheet loaded theta).left.doubles ≡ logs_after sheet loaded theta (suc (last sheet))
    rust_sum =
        finished_sum sheet h' w' loaded theta (join_all nothing (rust_order (last sheet))) (rust sheet loaded theta).left through (rust_complete (last sheet)).1
