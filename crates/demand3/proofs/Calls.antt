-- By induction over a list of calls, the workspace keeps in step with the book.
use Prim.Native.Nat.{ℕ}
use mathlib.Core.Path.{◌≡◌, refl, ap₂}
use mathlib.Core.List.{List, [], ◌∷◌}
use lib.Ieee.{Float}
use Rattle.sheet.specs.Sheet.{Sheet}
use Rattle.workspace.specs.Memory.{Workspace}
use Rattle.book.specs.Calls.{Call, begin, step, replace_response, profile_deviance, Reply, called, replies, left_by}
use Rattle.book.specs.Book.{Book, entered, book_replies, book_after}
use Rattle.demand3.proofs.invariant.Invariant.{Site, Invariant, Follows}
use Rattle.demand3.proofs.invariant.Begin.{begin_follows}
use Rattle.demand3.proofs.response_laws.Response.{response_follows}
use Rattle.demand3.proofs.step_laws.Step.{step_follows}
use Rattle.demand3.proofs.step_laws.Profile.{profile_follows}

module _ (sheet : Sheet) (h : List ℕ) (w : List Float) (here : Site sheet h w) where
  -- each call
  pub follows : (b : Book) (v : Workspace) → Invariant sheet h w b v → (c : Call) → Follows sheet h w b v c
  follows b v s (begin theta) = begin_follows sheet h w here b v s theta
  follows b v s (step x) = step_follows sheet h w here b v s x
  follows b v s (replace_response r) = response_follows sheet h w here b v s r
  follows b v s (profile_deviance theta reml) = profile_follows sheet h w here b v s theta reml

  -- a list of them: what it leaves
  pub all_left : (calls : List Call) (b : Book) (v : Workspace) → Invariant sheet h w b v → Invariant sheet h w (book_after sheet calls b) (left_by calls v)
  unfolding book_after left_by
  all_left [] b v s = s
  all_left (c ∷ l) b v s = all_left l (entered sheet c b).next (called c v).left (follows b v s c).left

  -- and what it answers
  pub all_replies : (calls : List Call) (b : Book) (v : Workspace) → Invariant sheet h w b v → replies calls v ≡ book_replies sheet calls b
  unfolding book_replies replies
  all_replies [] b v s = refl
  all_replies (c ∷ l) b v s =
      let f = follows b v s c in
      ap₂ (λ (r : Reply) (m : List Reply). r ∷ m) f.reply (all_replies l (entered sheet c b).next (called c v).left f.left)
