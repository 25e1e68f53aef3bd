-- Demand 3 holds: about every list of calls from every accepted load.
use Prim.Native.Nat.{ℕ}
use mathlib.Core.List.{List}
use lib.Ieee.{Float}
use Rattle.sheet.specs.Sheet.{Sheet}
use Rattle.workspace.specs.Memory.{Workspace}
use Rattle.workspace.specs.Load.{load_of}
use Rattle.book.specs.Calls.{Call, left_by}
use Rattle.book.specs.Book.{Book, opened, book_after}
use Rattle.demand3.specs.Demand.{Holds, Demand3}
use Rattle.demand3.proofs.invariant.Invariant.{Site, Invariant}
use Rattle.demand3.proofs.invariant.Site.{valid_heading_of}
use Rattle.demand3.proofs.invariant.Open.{open_site, open_invariant}
use Rattle.demand3.proofs.Calls.{all_left, all_replies}
use Rattle.demand3.proofs.Never.{call_other}
use Rattle.demand3.proofs.Agrees.{agrees}
use Rattle.demand3.proofs.Ready.{under_way_lem, rust_answers}
use Rattle.demand3.proofs.Finished.{divisors, finished}

-- a list of calls from a workspace that stands by the opened book
holds : (sheet : Sheet) (h : List ℕ) (w : List Float) (v : Workspace) → Site sheet h w → Invariant sheet h w (opened sheet) v → (calls : List Call) → Holds sheet h w v calls
holds sheet h w v here s calls =
    let b : Book = book_after sheet calls (opened sheet) in
    let u : Workspace = left_by calls v in
    let t : Invariant sheet h w b u = all_left sheet h w here calls (opened sheet) v s in
    record {
      replies_same = all_replies sheet h w here calls (opened sheet) v s;
      valid = valid_heading_of sheet h w here b u t;
      never_20 = λ c. call_other u.heading u.doubles (valid_heading_of sheet h w here b u t) c;
      agrees = agrees sheet h w here b u t;
      rust_answers = λ d e. rust_answers sheet h w here b u t d e;
      while_under_way = λ d e. under_way_lem sheet h w here b u t d e;
      divisors = divisors sheet h w here b u t;
      finished = finished sheet h w here b u t;
    }

pub demand3 : Demand3
unfolding Demand3
demand3 bytes sheet starts h w e a calls =
    holds sheet h w (load_of bytes h w).left (open_site bytes sheet starts h w e a) (open_invariant bytes sheet starts h w e a) calls
