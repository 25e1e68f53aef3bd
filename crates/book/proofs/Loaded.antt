-- No call but an accepted `replace_response` changes the book's loaded numbers.
use Prim.Native.Nat.{ℕ}
use mathlib.Core.Path.{◌≡◌, refl}
use mathlib.Core.Bool.{Bool, true, false}
use mathlib.Core.List.{List}
use mathlib.Core.Option.{Option, none, some}
use lib.Dec.{eqb}
use lib.ListN.{length}
use lib.Ieee.{Float}
use Rattle.step_order.specs.Steps.{Step, is_step, forerunners}
use Rattle.step_order.specs.Progress.{all, steps_left}
use Rattle.sheet.specs.Sheet.{Sheet}
use Rattle.layout.specs.Shapes.{pick, theta_length}
use Rattle.workspace.specs.Answers.{unless_at, first_infinite}
use Rattle.book.specs.Calls.{begin, step, profile_deviance}
use Rattle.book.specs.Book.{Book, Entry, layout, last, rust, in_step, on_ready, on_set, entered}
use Rattle.std.specs.Prelude.{Result, Ok, Err}
use Rattle.refusal.specs.declared.Refusal.{Refusal}

module _ (sheet : Sheet) (b : Book) where
  abbrev Keeps : Entry → Type 0
  Keeps e = e.next.loaded ≡ b.loaded

  either : (t : Bool) (e f : Entry) → Keeps e → Keeps f → Keeps (pick t e f)
  either true e f x y = x
  either false e f x y = y

  found_or : (o : Option ℕ) (bad : ℕ → Entry) (good : Entry) → ((i : ℕ) → Keeps (bad i)) → Keeps good → Keeps (unless_at o bad good)
  found_or none bad good x y = y
  found_or (some i) bad good x y = x i

  pub begin_keeps : (theta : List Float) → Keeps (entered sheet (begin theta) b)
  begin_keeps theta = either (eqb (length theta) (theta_length (layout sheet))) _ _ (found_or (first_infinite 0 theta) _ _ (λ i. refl) refl) refl

  pub profile_keeps : (theta : List Float) (reml : Bool) → Keeps (entered sheet (profile_deviance theta reml) b)
  profile_keeps theta reml = either (eqb (length theta) (theta_length (layout sheet))) _ _ (found_or (first_infinite 0 theta) _ _ (λ i. refl) refl) refl

  -- a ready step, accepted or with its pivot refused
  ready_keeps : (a : Result Unit Refusal) (s : Step) (d : Step → Bool) → Keeps (on_ready sheet a s d b)
  ready_keeps (Ok tt) s d = refl
  ready_keeps (Err r) s d = refl

  set_keeps : (s : Step) (o : Option (Step → Bool)) → Keeps (on_set sheet s o b)
  set_keeps s none = refl
  set_keeps s (some d) =
      either (eqb (steps_left (last sheet) d) 0) _ _ refl
      (either (is_step (last sheet) s) _ _
      (either (d s) _ _ refl (either (all d (forerunners s)) _ _ (ready_keeps (in_step sheet s (rust sheet b.loaded b.theta).answer) s d) refl)) refl)

  pub step_keeps : (s : Step) → Keeps (entered sheet (step s) b)
  step_keeps s = set_keeps s b.done
