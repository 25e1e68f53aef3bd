-- Record 5's book of a loaded sheet: it is fed each call and its arguments, never the workspace or its heading.
use Rattle.std.specs.Prelude.{ℕ, Bool, false, ◌&&◌, List, [], ◌∷◌, ◌++◌, eqb, length, Float, Result, Ok, Err}
use Rattle.std.proofs.Math.Option.{Option, none, some}
use Rattle.step_order.specs.Steps.{Step, S, C, T, is_step, forerunners, rust_order}
use Rattle.step_order.specs.Progress.{all, join, steps_left}
use Rattle.sheet.specs.Sheet.{Sheet}
use Rattle.layout.specs.declared.Layout.{Layout}
use Rattle.heading_format.specs.declared.State.{State}
use Rattle.heading_format.specs.declared.State.TheVariants.{Idle, UnderWay, Finished}
use Rattle.refusal.specs.Numbers.{numbers_of, refusal, refuse}
use Rattle.layout.specs.Shapes.{pick, theta_length}
use Rattle.workspace.specs.Memory.{Workspace, zeros}
use Rattle.workspace.specs.Answers.{Outcome, workspace, first_infinite, unless_at, list_fault, unless_refused}
use Rattle.workspace.specs.Loaded.{layout_of_sheet, loaded_numbers}
use Rattle.workspace.specs.Load.{heading_of}
use Rattle.workspace.specs.Response.{Response, lists_of, response_lengths, responded}
use Rattle.update.specs.Calls.{begin_of, run_of}
use Rattle.profile.specs.Deviance.{profile_of}
use Rattle.book.specs.Calls.{Call, begin, step, replace_response, profile_deviance, Reply, plain, deviance}
use Rattle.refusal.specs.declared.Refusal.{Refusal}
use Rattle.profile.specs.declared.Deviance.{Deviance}

-- the loaded numbers, theta, and none or the set of done steps
pub record Book : Type 0 where
  pub loaded : List Float
  pub theta : List Float
  pub done : Option (Step → Bool)

-- a sheet just loaded: Record 3, none
abbrev pub book_of : List Float → Book
book_of loaded = record { loaded = loaded; theta = []; done = none }

-- the book with another set or none, with another theta, with other loaded numbers
abbrev pub with_done : Option (Step → Bool) → Book → Book
with_done d b = record { loaded = b.loaded; theta = b.theta; done = d }

abbrev pub with_theta : List Float → Book → Book
with_theta theta b = record { loaded = b.loaded; theta = theta; done = b.done }

abbrev pub with_loaded : List Float → Book → Book
with_loaded loaded b = record { loaded = loaded; theta = b.theta; done = b.done }

-- a book by all that it holds
abbrev pub book : List Float → List Float → Option (Step → Bool) → Book
book loaded theta d = with_done d (with_theta theta (book_of loaded))

-- what is written in it next
pub record Entry : Type 0 where
  pub reply : Reply
  pub next : Book

abbrev pub entry : Reply → Book → Entry
entry r b = record { reply = r; next = b }

-- no step is done
abbrev pub nothing : Step → Bool
nothing s = false

module _ (sheet : Sheet) where
  abbrev pub layout : Layout
  layout = layout_of_sheet sheet

  abbrev pub last : ℕ
  last = layout.k

  -- a freshly loaded workspace with these loaded numbers
  abbrev pub fresh : List Float → Workspace
  fresh loaded = workspace (heading_of sheet layout) (loaded ++ zeros layout)

  -- begin and the Rust's order on it, to their end or to the refused pivot
  abbrev pub rust : List Float → List Float → Outcome
  rust loaded theta =
      let v = fresh loaded in
      run_of (begin_of v.heading v.doubles theta).left (rust_order last)

  -- what that order answers in step s: a pivot that it refuses is refused in a C
  abbrev pub in_step : Step → Result Unit Refusal → Result Unit Refusal
  in_step s (Ok tt) = Ok tt
  in_step (S i j h) (Err r) = Ok tt
  in_step (C j) (Err r) = let n = numbers_of r in pick (eqb n.number 26 && eqb n.first j) (Err r) (Ok tt)
  in_step (T i j) (Err r) = Ok tt

  -- ---- load
  abbrev pub opened : Book
  opened = book_of (loaded_numbers sheet layout)

  -- ---- 13 and 14 change nothing
  abbrev pub on_list : ℕ → ℕ → List Float → (Refusal → Entry) → Entry → Entry
  on_list list n l refused good =
      pick (eqb (length l) n) (unless_at (first_infinite 0 l) (λ i. refused (refusal 14 list i)) good) (refused (refusal 13 list 0))

  -- begin: its theta, the empty set
  abbrev pub on_begin : List Float → Book → Entry
  on_begin theta b = on_list 0 (theta_length layout) theta (λ f. entry (plain (Err f)) b) (entry (plain (Ok tt)) (with_done (some nothing) (with_theta theta b)))

  -- `replace_response`: its response for the old, none
  abbrev pub on_response : Response → Book → Entry
  on_response r b =
      let new = (responded (heading_of sheet layout) b.loaded r).left.doubles in
      let good = entry (plain (Ok tt)) (with_done none (with_loaded new b)) in
      unless_refused (list_fault (response_lengths layout) (lists_of r)) (λ f. entry (plain (Err f)) b) good

  -- A step: 22 with none or all done, 21, 23 in the set, 24 where a forerunner is not. Any other is ready: it refuses the pivot that the Rust's order
  -- refuses in it, and the book has none; else it joins the set.
  abbrev pub on_ready : Result Unit Refusal → Step → (Step → Bool) → Book → Entry
  on_ready (Ok tt) s d b = entry (plain (Ok tt)) (with_done (some (join d s)) b)
  on_ready (Err r) s d b = entry (plain (Err r)) (with_done none b)

  abbrev pub on_set : Step → Option (Step → Bool) → Book → Entry
  on_set s none b = entry (plain (refuse 22 0 0)) b
  on_set s (some d) b =
      let no : ℕ → Entry = λ n. entry (plain (refuse n 0 0)) b in
      pick (eqb (steps_left last d) 0) (no 22)
      (pick (is_step last s)
      (pick (d s) (no 23) (pick (all d (forerunners s)) (on_ready (in_step s (rust b.loaded b.theta).answer) s d b) (no 24)))
      (no 21))

  -- `profile_deviance`: begin, then the Rust's order to its end or its refused pivot
  abbrev pub after_all : Result Unit Refusal → Option (Step → Bool)
  after_all (Ok tt) = some (is_step last)
  after_all (Err r) = none

  abbrev pub on_profile : List Float → Bool → Book → Entry
  on_profile theta reml b =
      let v = fresh b.loaded in
      on_list 0 (theta_length layout) theta (λ f. entry (deviance (Err f)) b)
      (entry (deviance (profile_of v.heading v.doubles theta reml).answer) (with_done (after_all (rust b.loaded theta).answer) (with_theta theta b)))

  abbrev pub entered : Call → Book → Entry
  entered (begin theta) b = on_begin theta b
  entered (step s) b = on_set s b.done b
  entered (replace_response r) b = on_response r b
  entered (profile_deviance theta reml) b = on_profile theta reml b

  -- the book's replies to a list of calls, and the book after it
  unfoldable pub book_replies : List Call → Book → List Reply
  book_replies [] b = []
  book_replies (c ∷ l) b = (entered c b).reply ∷ book_replies l (entered c b).next

  unfoldable pub book_after : List Call → Book → Book
  book_after [] b = b
  book_after (c ∷ l) b = book_after l (entered c b).next

  -- ---- what the book says of progress
  -- steps left: those outside the set, with none all of them
  abbrev pub book_left : Option (Step → Bool) → ℕ
  book_left none = length (rust_order last)
  book_left (some d) = steps_left last d

  abbrev pub book_state : Option (Step → Bool) → State
  book_state none = Idle
  book_state (some d) = pick (eqb (steps_left last d) 0) Finished UnderWay

  abbrev pub book_set : Option (Step → Bool) → Step → Bool
  book_set none = nothing
  book_set (some d) = d
