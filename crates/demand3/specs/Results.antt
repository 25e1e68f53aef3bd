-- "He will do the block steps in an order that suits his machines, and must come to our result" (the mission): after any list of calls that ends finished, the
-- deviance (document 01, Record 6) and the solution (Record 7) are those of begin and the Rust's order on a freshly loaded workspace.
use Rattle.std.specs.Prelude.{ℕ, ◌<◌, ◌≡◌, ◌↔◌, Bool, true, false, List, length, Float, Ok}
use Rattle.rules.specs.Arithmetic.{ieee}
use Rattle.sheet.specs.Sheet.{Sheet, accepted, sheet_of}
use Rattle.sheet.specs.declared.Starts.{Starts}
use Rattle.heading_format.specs.declared.State.TheVariants.{Finished}
use Rattle.workspace.specs.Memory.{Workspace}
use Rattle.workspace.specs.Load.{load_of}
use Rattle.profile.specs.declared.Deviance.TheVariants.{NoScale}
use Rattle.profile.specs.Deviance.{freedom, last_block_pivot, deviance_value, deviance_from_factor}
use Rattle.profile.specs.Finish.{result_length, refused_row, solution_of, result_list, on_pivot, solve_of}
use Rattle.book.specs.Calls.{Call, left_by}
use Rattle.book.specs.Book.{Book, layout, opened, rust, book_after, book_state}

module _ (sheet : Sheet) where
  -- what begin and the Rust's order leave of a freshly loaded workspace with the book's loaded numbers and theta
  abbrev pub ours : Book → Workspace
  ours b = (rust sheet b.loaded b.theta).left

  pub record SameResult (b : Book) (v : Workspace) : Type 0 where
    -- neither 20 nor 25 comes: the deviance is Record 6's
    pub answered : (reml : Bool) → deviance_from_factor v.heading v.doubles reml ≡ Ok (deviance_value v.heading v.doubles reml)
    -- nor do they to the solution, and with a result list of its length no 13: there is one, or a pivot of the finish is refused
    pub solved :
        (reml : Bool) (out : List Float) → length out ≡ result_length (layout sheet)
        → solve_of v.heading v.doubles reml out
        ≡ on_pivot (refused_row v.heading v.doubles) (length out) (record { answer = Ok (solution_of v.heading v.doubles reml); result = result_list v.heading v.doubles })
    -- `deviance_from_factor`, ML and REML
    pub deviance : (reml : Bool) → deviance_from_factor v.heading v.doubles reml ≡ deviance_from_factor (ours b).heading (ours b).doubles reml
    -- `solve_profile_blocked`, ML and REML, into any result list: the answer, 13 and 27 among them, and every number of the list
    pub solution : (reml : Bool) (out : List Float) → solve_of v.heading v.doubles reml out ≡ solve_of (ours b).heading (ours b).doubles reml out
    -- "On a factor made by the steps r2 is above 0 or NaN, so there only d ≤ 0 brings "no scale"": it comes exactly then
    pub no_scale_exactly : (reml : Bool) → (deviance_from_factor v.heading v.doubles reml ≡ Ok NoScale) ↔ (ieee.refused (freedom (layout sheet) reml) ≡ true)
    -- no pivot whose logarithm REML adds is at most 0
    pub fixed_pivots : (r : ℕ) → r < (layout sheet).p → ieee.refused (last_block_pivot v.heading v.doubles true r) ≡ false

-- for every list of calls from every accepted load
unfoldable pub SupplierResult : Type 0
SupplierResult =
    (bytes : List ℕ) (sheet : Sheet) (starts : Starts) (h : List ℕ) (w : List Float)
    → sheet_of bytes ≡ accepted sheet starts → (load_of bytes h w).answer ≡ (Ok tt) → (calls : List Call)
    → book_state sheet (book_after sheet calls (opened sheet)).done ≡ Finished
    → SameResult sheet (book_after sheet calls (opened sheet)) (left_by calls (load_of bytes h w).left)
