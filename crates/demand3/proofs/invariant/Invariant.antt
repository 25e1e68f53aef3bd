-- How a workspace stands to Record 5's book: what demand 3's induction over a list of calls keeps.
use Prim.Native.Nat.{ℕ, ◌<◌, ◌≤◌}
use mathlib.Core.Path.{◌≡◌}
use mathlib.Core.Bool.{Bool, true}
use mathlib.Core.List.{List, ◌++◌}
use mathlib.Core.Option.{Option, none, some}
use lib.ListN.{length, take, drop}
use lib.Ieee.{Float}
use Rattle.storage.specs.Part.{part, store}
use Rattle.step_order.specs.Steps.{Step}
use Rattle.step_order.specs.Progress.{Represents}
use Rattle.step_order.proofs.Invariant.{Held}
use Rattle.sheet.specs.Sheet.{Sheet}
use Rattle.heading_format.specs.declared.Progress.{Progress}
use Rattle.layout.specs.Shapes.{levels, loaded_length, theta_at, doubles_needed}
use Rattle.heading_format.specs.Heading.{stage_of, entry_row, written, valid_layout, valid_progress, idle, numbers_needed}
use Rattle.workspace.specs.Memory.{Workspace}
use Rattle.workspace.specs.Answers.{first_infinite}
use Rattle.workspace.specs.Load.{heading_of}
use Rattle.book.specs.Calls.{Call, called}
use Rattle.book.specs.Book.{Book, layout, last, book_state, entered}
use Rattle.book.specs.Values.{rules_here, start_here}
use Rattle.demand3.proofs.same_rules.Same.{state_of}
use Rattle.heading_format.specs.Parts.{most_targets, heading_length}

module _ (sheet : Sheet) where
  -- the numbers behind the heading's parts, once load has written the sheet's into h
  abbrev pub behind : List ℕ → List ℕ
  behind h = drop heading_length (store 0 (heading_of sheet (layout sheet)) h)

  -- what an accepted load says of its sheet and of the lists that were lent to it
  pub record Site (h : List ℕ) (w : List Float) : Type 0 where
    pub layout_valid : valid_layout (layout sheet) ≡ true
    pub eight_levels : length (layout sheet).m ≡ 8
    pub eight_places : length (layout sheet).order ≡ 8
    pub numbers : numbers_needed (layout sheet) ≤ length h
    pub doubles : doubles_needed (layout sheet) ≤ length w
    pub rows : (layout sheet).sparse ≡ true → (c : ℕ) → c < levels (layout sheet) 0 → entry_row (heading_of sheet (layout sheet)) c < levels (layout sheet) 1

  -- an update with this theta on these loaded numbers has come as far as the set d: its blocks and its sum are those of their stages
  pub record Begun (loaded theta : List Float) (d : Step → Bool) (g : Progress) (v : Workspace) : Type 0 where
    pub theta_many : length theta ≡ last sheet
    pub theta_finite : first_infinite 0 theta ≡ none
    pub theta_kept : part (theta_at (layout sheet)) (last sheet) v.doubles ≡ theta
    pub held : Held (rules_here sheet loaded theta) (last sheet) (start_here sheet loaded theta) (state_of sheet loaded theta v g)
    pub represents : Represents (last sheet) (stage_of g) d

  abbrev pub Updating : Book → Option (Step → Bool) → Progress → Workspace → Type 0
  Updating b none g v = g ≡ idle (last sheet)
  Updating b (some d) g v = (g.state ≡ book_state sheet (some d)) × Begun b.loaded b.theta d g v

  -- the workspace v, which load left out of h and w, stands as the book b says
  pub record Invariant (h : List ℕ) (w : List Float) (b : Book) (v : Workspace) : Type 0 where
    pub progress : Progress
    pub heading : v.heading ≡ written (layout sheet) progress ++ behind h
    pub stages : length progress.stages ≡ most_targets
    pub valid_progress_lem : valid_progress (last sheet) progress ≡ true
    pub many : length v.doubles ≡ length w
    pub loaded : take (loaded_length (layout sheet)) v.doubles ≡ b.loaded
    pub unwritten : drop (doubles_needed (layout sheet)) v.doubles ≡ drop (doubles_needed (layout sheet)) w
    pub updating : Updating b b.done progress v

  -- a call on v answers as the book's, and leaves a workspace that stands as the book's next page
  pub record Follows (h : List ℕ) (w : List Float) (b : Book) (v : Workspace) (c : Call) : Type 0 where
    pub reply : (called c v).reply ≡ (entered sheet c b).reply
    pub left : Invariant h w (entered sheet c b).next (called c v).left
