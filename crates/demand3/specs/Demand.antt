-- Demand 3 of the mission as one proposition: about every list of calls from every accepted load.
use Rattle.std.specs.Prelude.{ℕ, ◌+◌, ◌<◌, ◌≤◌, ◌≡◌, Bool, true, false, List, length, get_or, take, drop, replicate, Float, Result, Ok}
use Rattle.std.proofs.Math.Option.{some}
use Rattle.step_order.specs.Steps.{Step, S, C, T, IsStep, row, col, forerunners}
use Rattle.step_order.specs.Progress.{all, done}
use Rattle.rules.specs.Arithmetic.{ieee}
use Rattle.sheet.specs.Sheet.{Sheet, accepted, sheet_of}
use Rattle.sheet.specs.declared.Starts.{Starts}
use Rattle.heading_format.specs.declared.State.TheVariants.{UnderWay, Finished}
use Rattle.refusal.specs.Numbers.{refuse}
use Rattle.layout.specs.Shapes.{sizes, loaded_length, working_at, sum_at, doubles_needed, shape, theta_at, response_row, theta_length}
use Rattle.heading_format.specs.Heading.{layout_of, progress_of, stage_of, entry_row, valid_heading}
use Rattle.workspace.specs.Memory.{Workspace, working_block, cell_of}
use Rattle.workspace.specs.Load.{load_of, heading_of}
use Rattle.update.specs.Calls.{advanced, step_of, made_by, sum_by}
use Rattle.profile.specs.Deviance.{log_determinant, last_block_pivot}
use Rattle.book.specs.Calls.{Call, called, refusal_of, replies, left_by}
use Rattle.book.specs.Book.{Book, layout, last, opened, rust, in_step, book_replies, book_after, book_left, book_state, book_set}
use Rattle.storage.specs.Part.{part, store}
use Rattle.storage.specs.Shape.{Shape}
use Rattle.update.specs.Working.{pivot_count}
use Rattle.heading_format.specs.Parts.{progress_at, progress_end, unused_numbers, heading_length, unused_at}
use Rattle.refusal.specs.declared.Refusal.{Refusal}

-- step s is undone and its forerunners are done, by the set d
pub record ReadyBy (k : ℕ) (d : Step → Bool) (s : Step) : Type 0 where
  pub exists : IsStep k s
  pub undone : d s ≡ false
  pub forerun : all d (forerunners s) ≡ true

-- it takes logarithms: C(j), j < k
abbrev pub TakesLogs : ℕ → Step → Type 0
TakesLogs k (S i j h) = ⊥
TakesLogs k (C j) = j < k
TakesLogs k (T i j) = ⊥

-- the places of a step's own block, and of the logarithms' sum where it takes logarithms
pub data Own (v : Workspace) (s : Step) (i : ℕ) : Type 0 where
  in_own_block :
      working_at (layout_of v.heading) (row s) (col s) ≤ i
      → i < working_at (layout_of v.heading) (row s) (col s) + sizes (layout_of v.heading) (row s) (col s) → Own v s i
  in_sum : TakesLogs (layout_of v.heading).k s → i ≡ sum_at (layout_of v.heading) → Own v s i

-- An accepted step on v leaves u: by its rule its own block and, where it takes logarithms, their sum; the progress; nothing else.
pub record Writes (v : Workspace) (s : Step) (u : Workspace) : Type 0 where
  pub block : working_block u.heading u.doubles (row s) (col s) ≡ made_by v.heading v.doubles s
  pub sum : get_or u.doubles (sum_at (layout_of v.heading)) ieee.zero ≡ sum_by v.heading v.doubles s
  pub lengths : length u.doubles ≡ length v.doubles
  pub elsewhere : (i : ℕ) → (Own v s i → ⊥) → get_or u.doubles i ieee.zero ≡ get_or v.doubles i ieee.zero
  -- of the heading the progress alone
  pub before_progress : take progress_at u.heading ≡ take progress_at v.heading
  pub behind_progress : drop progress_end u.heading ≡ drop progress_end v.heading
  -- which becomes: its target one step further, one step fewer left, and with the last one finished
  pub progress : progress_of u.heading ≡ advanced (progress_of v.heading) s

-- accepted, or 26 with the row of a refused pivot in one of the blocks up to k
pub data AcceptedOr26 (k : ℕ) (a : Result Unit Refusal) : Type 0 where
  accepts : a ≡ (Ok tt) → AcceptedOr26 k a
  refuses : (block row : ℕ) → block ≤ k → a ≡ refuse 26 block row → AcceptedOr26 k a

-- the shape of factor j
abbrev pub factor_of : Workspace → ℕ → Shape
factor_of v j = shape (layout_of v.heading) (entry_row v.heading) j j

module _ (sheet : Sheet) where
  -- ---- "Refusals, loaded numbers, progress and steps left are as in document 01's book." The workspace v, once h and w, agrees with the book b.
  pub record Agrees (h : List ℕ) (w : List Float) (b : Book) (v : Workspace) : Type 0 where
    pub layout_kept : layout_of v.heading ≡ layout sheet
    pub loaded : take (loaded_length (layout sheet)) v.doubles ≡ b.loaded
    pub state : (progress_of v.heading).state ≡ book_state sheet b.done
    pub left : (progress_of v.heading).left ≡ book_left sheet b.done
    pub set : (s : Step) → IsStep (last sheet) s → done (stage_of (progress_of v.heading)) s ≡ book_set sheet b.done s
    -- nothing past the formula's lengths was ever written
    pub doubles_behind : drop (doubles_needed (layout sheet)) v.doubles ≡ drop (doubles_needed (layout sheet)) w
    -- behind the progress the heading's unused numbers are 0; behind them all is as load left it, with the rows of a sparse pair, and past the formula's
    -- length as it was
    pub unused_kept : part unused_at unused_numbers v.heading ≡ replicate unused_numbers 0
    pub heading_behind : drop heading_length v.heading ≡ drop heading_length (store 0 (heading_of sheet (layout sheet)) h)
    -- theta is kept with its update
    pub theta_kept : (d : Step → Bool) → b.done ≡ some d → part (theta_at (layout sheet)) (theta_length (layout sheet)) v.doubles ≡ b.theta
    pub doubles_many : length v.doubles ≡ length w
    pub numbers_many : length v.heading ≡ length h

  -- ---- "while an update is under way", d being its set of done steps
  pub record UnderWayClaim (b : Book) (v : Workspace) (d : Step → Bool) : Type 0 where
    -- "any undone step whose forerunners are done is accepted unless it meets a refused pivot"; "a ready step refuses a pivot exactly when that order
    -- refuses it there", with the same loaded numbers and theta, at the same block and row
    pub answers :
        (s : Step) → ReadyBy (last sheet) d s → (step_of v.heading v.doubles s).answer ≡ in_step sheet s (rust sheet b.loaded b.theta).answer
    -- "and writes by its rule its own block, the progress and, where it takes logarithms, their sum, nothing else"
    pub writes :
        (s : Step) → ReadyBy (last sheet) d s → (step_of v.heading v.doubles s).answer ≡ (Ok tt) → Writes v s (step_of v.heading v.doubles s).left
    -- "until the last step or a refused pivot some step is ready"
    pub some_ready : (s : Step) × ReadyBy (last sheet) d s

  -- the last pivot of block k
  abbrev pub residual_pivot : Workspace → Float
  residual_pivot v = last_block_pivot v.heading v.doubles false (response_row (layout sheet))

  -- ---- "a finished update leaves the factor and log determinant that document 01's begin and the Rust's order give a freshly loaded workspace with the
  -- same loaded numbers and theta"
  pub record FinishedClaim (b : Book) (v : Workspace) : Type 0 where
    pub accepts : (rust sheet b.loaded b.theta).answer ≡ (Ok tt)
    pub factor :
        (i j : ℕ) → j ≤ i → i ≤ last sheet
        → working_block v.heading v.doubles i j ≡ working_block (rust sheet b.loaded b.theta).left.heading (rust sheet b.loaded b.theta).left.doubles i j
    pub determinant :
        log_determinant v.heading v.doubles ≡ log_determinant (rust sheet b.loaded b.theta).left.heading (rust sheet b.loaded b.theta).left.doubles
    -- Record 6: on a factor made by the steps r2 is above 0 or NaN
    pub scale : ieee.refused (ieee.times (residual_pivot v) (residual_pivot v)) ≡ false

  -- ---- one list of calls, from a workspace v that load of the sheet left out of h and w
  pub record Holds (h : List ℕ) (w : List Float) (v : Workspace) (calls : List Call) : Type 0 where
    -- every answer, number and places, is the book's
    pub replies_same : replies calls v ≡ book_replies sheet calls (opened sheet)
    -- "20 never comes": to these calls, nor to any other that is made of the workspace. Deviance, solution and looks begin with this test (the steps left with
    -- as many doubles as the heading asks for)
    pub valid : valid_heading (left_by calls v).heading (length (left_by calls v).doubles) ≡ true
    pub never_20 : (c : Call) → (refusal_of (called c (left_by calls v)).reply).number ≡ 20 → ⊥
    pub agrees : Agrees h w (book_after sheet calls (opened sheet)) (left_by calls v)
    -- "If the Rust's order refuses a pivot in it on these numbers and theta": of an update that was begun that order answers nothing else, so `in_step` hides no
    -- other refusal
    pub rust_answers :
        (d : Step → Bool) → (book_after sheet calls (opened sheet)).done ≡ some d
        → AcceptedOr26 (last sheet) (rust sheet (book_after sheet calls (opened sheet)).loaded (book_after sheet calls (opened sheet)).theta).answer
    pub while_under_way :
        (d : Step → Bool) → (book_after sheet calls (opened sheet)).done ≡ some d → book_state sheet (some d) ≡ UnderWay
        → UnderWayClaim (book_after sheet calls (opened sheet)) (left_by calls v) d
    -- no divisor is 0: the pivots of a factor whose C is done ("The zero-divisor errors in steps and solves cannot occur")
    pub divisors :
        (j r : ℕ) → j ≤ last sheet → book_set sheet (book_after sheet calls (opened sheet)).done (C j) ≡ true → r < pivot_count (factor_of (left_by calls v) j)
        → ieee.null (cell_of (factor_of (left_by calls v) j) (working_block (left_by calls v).heading (left_by calls v).doubles j j) r r) ≡ false
    pub finished :
        book_state sheet (book_after sheet calls (opened sheet)).done ≡ Finished → FinishedClaim (book_after sheet calls (opened sheet)) (left_by calls v)

-- Demand 3: for all bytes, headings and doubles on which load accepts a sheet, and every list of begins, steps, `replace_response` and `profile_deviance`
-- calls, refused ones included.
unfoldable pub Demand3 : Type 0
Demand3 =
    (bytes : List ℕ) (sheet : Sheet) (starts : Starts) (h : List ℕ) (w : List Float)
    → sheet_of bytes ≡ accepted sheet starts → (load_of bytes h w).answer ≡ (Ok tt) → (calls : List Call) → Holds sheet h w (load_of bytes h w).left calls
