-- What the program prints, from each answer on.
use Rattle.std.specs.Prelude.{Ok, Err}
use Prim.Native.Nat.{ℕ, ◌+◌, ◌≤◌, ◌<◌}
use mathlib.Core.Path.{◌≡◌, refl, sym, ap, subst, ◌∙◌}
use mathlib.Core.Bool.{true}
use mathlib.Core.List.{List, [], append-nil}
use native.Mathlib.Omega.{arith}
use native.Mathlib.Nat.{mul-le-mul}
use lib.ListN.{length, take, drop, replicate}
use lib.Ieee.{Float}
use borrow.Author.Tests.{eq-eqb, ne_eqb, lt-ltb, le-ltb}
use Rattle.storage.proofs.Parts.{length_store, part_same, drop_store}
use Rattle.step_order.specs.Steps.{rust_order}
use Rattle.rules.specs.Arithmetic.{ieee}
use Rattle.sheet.specs.declared.LineStart.{LineStart}
use Rattle.sheet.specs.declared.SheetRefusal.{SheetRefusal}
use Rattle.sheet.specs.declared.Starts.{Starts}
use Rattle.sheet.specs.Run.{Run, cursor_at, reached}
use Rattle.sheet.specs.Sheet.{Sheet, accepted, read_sheet}
use Rattle.sheet.specs.Fault.{fault_number}
use Rattle.sheet.specs.Answer.{judged, refused_with}
use Rattle.sheet.proofs.Answers.{judged_refused, checked_fine}
use Rattle.sheet.proofs.Whole.{read_whole, all_lines}
use Rattle.sheet_reader.proofs.line_verdict.Runs.{ok_reached, err_reached}
use Rattle.layout.specs.declared.Layout.{Layout}
use Rattle.heading_format.specs.Heading.{layout_of, valid_heading, under_way}
use Rattle.heading_format.proofs.Fits.{fits}
use Rattle.heading_format.proofs.Valid.{is_valid}
use Rattle.workspace.specs.Memory.{heading_with}
use Rattle.workspace.specs.Answers.{Outcome, workspace}
use Rattle.workspace.specs.Load.{load_sheet}
use Rattle.update.specs.Calls.{run_of, begin_of}
use Rattle.update.proofs.progress_laws.Kept.{layout_kept}
use Rattle.update.proofs.progress_laws.Calls.{begin_accepted, run_kept}
use Rattle.profile_deviance.specs.ready_step.ReadyInTurn.{is_refused, ReadyInTurn, Ran}
use Rattle.profile_deviance.proofs.ready_step.Turns.{just_begun}
use Rattle.load_numbers.proofs.sheet_words.Facts.{few_entries}
use Rattle.factor_output.specs.Print.{refused_line}
use Rattle.factor_output.specs.Program.{bytes_held, numbers_held, doubles_held, print_steps, after_begin, factor_with, theta_lines, after_load, after_sheet, after_read, print_of}
use Rattle.factor_text.specs.refusal_text.Text.{Text}
use Rattle.sheet.specs.declared.Counts.{Counts}
use Rattle.std.specs.Prelude.{Result, Ok}
use Rattle.refusal.specs.declared.Refusal.{Refusal}
use Rattle.refusal.specs.declared.Numbers.{Numbers}

-- a refusal's line, by what its numbers are
pub told : {m k : Numbers} (n : ℕ) (old out : List ℕ) → m ≡ k → Text (refused_line m.number m.first m.second) n old out → Text (refused_line k.number k.first k.second) n old out
told n old out e t = subst (λ (x : Numbers). Text (refused_line x.number x.first x.second) n old out) e t

-- ---- answers
-- a text by an answer that is known
pub answered : (f : Result Unit Refusal → List ℕ) (a b : Result Unit Refusal) (n : ℕ) (old out : List ℕ) → a ≡ b → Text (f b) n old out → Text (f a) n old out
answered f a b n old out e t = subst (λ (x : Result Unit Refusal). Text (f x) n old out) (sym e) t

-- ---- begin
module _ (h : List ℕ) (w theta : List Float) where
  -- what an accepted begin leaves waits for the steps in the Rust's order, with the same blocks
  pub begun_underway : (a : Result Unit Refusal) (h₁ : List ℕ) (w₁ : List Float) → length w₁ ≡ length w → record { answer = a; left = workspace h₁ w₁ } ≡ begin_of h w theta → a ≡ (Ok tt)
      → ReadyInTurn (workspace h₁ w₁) (rust_order (length theta)) × ((layout_of h₁).k ≡ length theta)
  begun_underway a h₁ w₁ long e q =
      let b = begin_accepted h w theta (ap (λ (o : Outcome). o.answer) (sym e) ∙ q) in
      let left : h₁ ≡ heading_with h (under_way (layout_of h).k) = ap (λ (o : Outcome). o.left.heading) e ∙ b.2 in
      let same : (layout_of h₁).k ≡ length theta =
      ap (λ (x : List ℕ). (layout_of x).k) left ∙ ap (λ (y : Layout). y.k) (layout_kept h (fits h (length w) b.0).long (under_way (layout_of h).k)) ∙ sym b.1 in
      (subst (λ (k : ℕ). ReadyInTurn (workspace h₁ w₁) (rust_order k)) same (just_begun h (workspace h₁ w₁) (ap (valid_heading h) long ∙ b.0) left), same)

  -- the text of begin's outcome
  pub begin_out : (k : ℕ) (a : Result Unit Refusal) (h₁ : List ℕ) (w₁ : List Float) (n : ℕ) (old out : List ℕ) → record { answer = a; left = workspace h₁ w₁ } ≡ begin_of h w theta
      → Text (after_begin a (workspace h₁ w₁) k) n old out → Text (factor_with (workspace h w) k theta) n old out
  unfolding factor_with
  begin_out k a h₁ w₁ n old out e t = subst (λ (o : Outcome). Text (after_begin o.answer o.left k) n old out) e t

-- ---- the steps
-- a workspace has at most eight blocks
pub few_blocks : (h : List ℕ) (w : List Float) (k : ℕ) → valid_heading h (length w) ≡ true → (layout_of h).k ≡ k → k ≤ 8
few_blocks h w k ok e = omega (arith, (is_valid (layout_of h) (fits h (length w) ok).valid).blocks.1)

-- what an accepted run leaves is a workspace
pub run_valid_heading : (h : List ℕ) (w : List Float) (k : ℕ) (a : Result Unit Refusal) (h₁ : List ℕ) (w₁ : List Float) → ReadyInTurn (workspace h w) (rust_order k)
    → Ran (workspace h w) (rust_order k) (record { answer = a; left = workspace h₁ w₁ }) → a ≡ (Ok tt) → valid_heading h₁ (length w₁) ≡ true
run_valid_heading h w k a h₁ w₁ u r q = (r.next [] (subst (ReadyInTurn (workspace h w)) (sym (append-nil (rust_order k))) u) (ap is_refused q)).valid

-- what the run leaves is printed as the steps' outcome
pub run_out : (h : List ℕ) (w : List Float) (k : ℕ) (a : Result Unit Refusal) (h₁ : List ℕ) (w₁ : List Float) (n : ℕ) (old out : List ℕ) → valid_heading h (length w) ≡ true → (layout_of h).k ≡ k
    → record { answer = a; left = workspace h₁ w₁ } ≡ run_of (workspace h w) (rust_order k) → Text (print_steps a (workspace h₁ w₁) (layout_of h₁).k) n old out
    → Text (after_begin (Ok tt) (workspace h w) k) n old out
run_out h w k a h₁ w₁ n old out ok is e t =
    let q : (layout_of h₁).k ≡ k =
    ap (λ (o : Outcome). (layout_of o.left.heading).k) e ∙ ap (λ (y : Layout). y.k) (run_kept (workspace h w) (rust_order k)) ∙ is in
    subst (λ (o : Outcome). Text (print_steps o.answer o.left k) n old out) e (subst (λ (x : ℕ). Text (print_steps a (workspace h₁ w₁) x) n old out) q t)

-- ---- the theta part
module _ (s : List ℕ) (z : Starts) (h : List ℕ) (w : List Float) where
  abbrev from : LineStart
  from = record { at = z.end; line = z.line }

  abbrev read : Run Float
  read = theta_lines s z.counts.k (cursor_at from)

  module _ (p : LineStart) (n : ℕ) (old out : List ℕ) (e : Ok p ≡ reached read.past) where
    -- it is in form and the last of the input
    pub theta_good : (theta : List Float) → p.at ≡ length s → theta ≡ read.items → length theta ≡ z.counts.k → Text (factor_with (workspace h w) (length theta) theta) n old out
        → Text (after_load (Ok tt) (workspace h w) z.counts s z) n old out
    theta_good theta at q long t = rw (ok_reached _ _ e, eq-eqb p.at (length s) at, ← q, ← long) t

    -- or a line is left over, which is 2
    pub theta_more : (p.at ≡ length s → ⊥) → Text (refused_line 2 p.line 0) n old out → Text (after_load (Ok tt) (workspace h w) z.counts s z) n old out
    theta_more at t = rw (ok_reached _ _ e, ne_eqb p.at (length s) at) t

  -- or one is not in form, which is 2 with its line
  pub theta_bad : (r : SheetRefusal) (n : ℕ) (old out : List ℕ) → Err r ≡ reached read.past
      → Text (refused_line 2 r.line 0) n old out → Text (after_load (Ok tt) (workspace h w) z.counts s z) n old out
  theta_bad r n old out e t =
      let f = err_reached _ _ e in
      rw (ne_eqb read.past.number 0 f.0, ← ap (λ (x : SheetRefusal). x.line) f.1) t

-- ---- the sheet
module _ (s : List ℕ) (z : Starts) where
  -- its blocks are at most eight, and its lines few
  pub few_lines : (sheet : Sheet) → read_sheet s ≡ accepted sheet z → (z.counts.k ≤ 8) × (z.line + z.counts.k < 9223372036854775808)
  few_lines sheet e =
      let t = (read_whole s sheet z e).shape in
      let c = sheet.counts in
      let k : z.counts.k ≤ 8 = subst (λ (x : _). x.k ≤ 8) (sym t.same_counts) t.counts.k in
      let zz = few_entries c.q sheet.zz t.zz t.zz_rising in
      let qq = mul-le-mul t.counts.q t.counts.q in
      let qp = mul-le-mul t.counts.q t.counts.p.1 in
      let pp = mul-le-mul t.counts.p.1 t.counts.p.1 in
      (k, omega (arith, k, zz, qq, qp, pp, all_lines (read_whole s sheet z e), t.counts.k, t.counts.q, t.counts.p.1))

  pub sheet_out : (sheet : Sheet) → read_sheet s ≡ accepted sheet z → fault_number sheet ≡ 0 → (a : Result Unit Refusal) (h : List ℕ) (w : List Float) (n : ℕ) (old out : List ℕ)
      → record { answer = a; left = workspace h w } ≡ load_sheet sheet (replicate numbers_held 0) (replicate doubles_held ieee.zero)
      → Text (after_load a (workspace h w) z.counts s z) n old out → Text (after_read (read_sheet s) s) n old out
  sheet_out sheet e fine a h w n old out q t =
      subst (λ (l : List ℕ). Text l n old out)
      (sym (checked_fine (λ number line. refused_line number line 0) (λ sheet starts. after_sheet sheet s starts) (read_sheet s) sheet z e fine))
      (subst (λ (o : Outcome). Text (after_load o.answer o.left sheet.counts s z) n old out) q (subst (λ (x : Counts). Text (after_load a (workspace h w) x s z) n old out) (read_whole s sheet z e).shape.same_counts t))

-- ---- what the sheet's reader answered
-- what is printed stands in the first n bytes, and those behind are as they were, as many
abbrev pub Printed : List ℕ → ℕ → List ℕ → List ℕ → Type 0
Printed s n old out = (n ≤ 131072) × (take n out ≡ print_of s) × (drop n out ≡ drop n old) × (length out ≡ length old)

module _ (s : List ℕ) (n : ℕ) (old out : List ℕ) (room : 131072 ≤ length old) where
  -- the text that it prints
  text_out : (l : List ℕ) → l ≡ print_of s → Text l n old out → Printed s n old out
  text_out l p t =
      let e : length l ≡ n = omega (arith, t.1.0) in (
        t.0,
        ap (take n) t.1.1 ∙ part_same 0 l old (omega (arith, e, t.0)) n e ∙ p,
        ap (drop n) t.1.1 ∙ drop_store 0 l old (omega (arith, e, t.0)) n (omega (arith, e)),
        ap length t.1.1 ∙ length_store 0 l old (omega (arith, e, t.0)),
      )

  -- more than the program holds
  pub long_out : bytes_held < length s → Text (refused_line 12 0 0) n old out → Printed s n old out
  unfolding print_of
  long_out h t = text_out (refused_line 12 0 0) (rw (lt-ltb bytes_held (length s) h) refl) t

  module _ (h : length s ≤ bytes_held) where
    pub read_out : Text (after_read (read_sheet s) s) n old out → Printed s n old out
    unfolding print_of
    read_out t = text_out _ (rw (le-ltb bytes_held (length s) h) refl) t

    pub unread_out : (number line : ℕ) → judged (read_sheet s) ≡ refused_with number line → Text (refused_line number line 0) n old out → Printed s n old out
    unread_out number line a t =
        read_out (subst (λ (l : List ℕ). Text l n old out) (sym (judged_refused (λ number line. refused_line number line 0) (λ sheet starts. after_sheet sheet s starts) (read_sheet s) number line a)) t)
