-- The program `factor` reads every input in form, and of inputs whose sheet it reads no others.
use Prim.Native.Nat.{ℕ, ◌^◌, ◌≤◌, ◌<◌}
use mathlib.Core.Path.{◌≡◌, refl, sym, ap, ap₂, subst, ◌∙◌}
use mathlib.Core.Bool.{Bool, cond}
use mathlib.Core.List.{List, [], ◌∷◌, map}
use native.Mathlib.Omega.{arith}
use lib.ListN.{length, drop, drop_of_length-le, replicate}
use lib.Dec.{eqb}
use borrow.Author.Tests.{le-ltb, eqb-true, eq-eqb}
use Rattle.sheet.specs.declared.Line.{Line}
use Rattle.sheet.specs.declared.Starts.{Starts}
use Rattle.sheet.specs.Line.{in_form, single_line}
use Rattle.sheet.specs.Run.{Cursor, Run, pass_of, lines_of, rows_from, word_in}
use Rattle.sheet.specs.Sheet.{Sheet, accepted, read_sheet}
use Rattle.sheet.specs.Whole.{Each}
use Rattle.sheet.proofs.Lines.{both, in_order_lem, lines_length, grid_length}
use Rattle.rules.specs.Arithmetic.{ieee}
use Rattle.sheet.specs.Fault.{fault_number}
use Rattle.sheet.proofs.Answers.{checked_fine}
use Rattle.workspace.specs.Memory.{Workspace}
use Rattle.workspace.specs.Loaded.{double}
use Rattle.workspace.specs.Load.{load_sheet}
use Rattle.factor_output.specs.Program.{bytes_held, doubles_held, numbers_held, theta_tag, theta_tests, theta_verdict, theta_lines, after_theta, after_load, after_sheet, after_read, factor_with, print_of}
use Rattle.factor_output.specs.Print.{refused_line}
use Rattle.sheet_text.specs.written.Written.{single_text, lines_text, sheet_text}
use Rattle.sheet_text.specs.written.Input.{theta_text, Input}
use Rattle.sheet_text.proofs.written.Lines.{From, from_drop, from_length, in_form_lem, Fits, kind_from, lines_back}
use Rattle.sheet_text.proofs.written.Runs.{Within, rows_within, rows_each, both_each}
use Rattle.sheet_text.proofs.written.Read.{written_before}
use Rattle.sheet_text.proofs.written.OnlyLines.{single_at}
use Rattle.sheet_text.proofs.written.OnlySheet.{Stands, lines_only, read_before}
use Rattle.std.specs.Prelude.{Result, Ok}
use Rattle.refusal.specs.declared.Refusal.{Refusal}

-- what is kept of each line may be looked at afterwards
module _ {A B : Type 0} (read : ℕ → Line) (verdict : ℕ × ℕ → Line → ℕ) (keep : ℕ → Line → A) (f : A → B) where
  lines_map : (is : List (ℕ × ℕ)) (c : Cursor)
      → ((lines_of read verdict (λ n l. f (keep n l)) is c).items ≡ map f (lines_of read verdict keep is c).items)
      × ((lines_of read verdict (λ n l. f (keep n l)) is c).past ≡ (lines_of read verdict keep is c).past)
  unfolding lines_of
  lines_map [] c = (refl, refl)
  lines_map (i ∷ is) c =
      let l = read c.at in
      let m = lines_map is (pass_of c (verdict i l) l.next) in
      (ap (λ (r : List B). f (keep c.line l) ∷ r) m.0, m.1)

-- the words of the theta part
abbrev theta_words : List ℕ → ℕ → Cursor → Run ℕ
theta_words s k c = lines_of (single_line theta_tag s) theta_verdict word_in (rows_from (λ r. 1) 0 k) c

theta_map : (s : List ℕ) (k : ℕ) (c : Cursor) → ((theta_lines s k c).items ≡ map double (theta_words s k c).items) × ((theta_lines s k c).past ≡ (theta_words s k c).past)
theta_map s k c = lines_map (single_line theta_tag s) theta_verdict word_in double (rows_from (λ r. 1) 0 k) c

-- ---- every theta part in form is read
theta_back : (s : List ℕ) → length s ≤ 16777216 → (k : ℕ) (ws : List ℕ) (c : Cursor) → k ≤ 8 → length ws ≡ k → Each (λ (w : ℕ). w < 2 ^ 64) ws → c.number ≡ 0
    → From s c.at (lines_text (single_text theta_tag) (rows_from (λ r. 1) 0 k) ws [])
    → ((theta_words s k c).items ≡ ws) × ((theta_words s k c).past.number ≡ 0) × ((theta_words s k c).past.at ≡ length s)
theta_back s short k ws c few e h open_before f =
    let r =
    lines_back s (single_line theta_tag s) theta_verdict word_in (single_text theta_tag) (λ i w. Fits 1 i × (w < 2 ^ 64))
    (λ n at i w rest q g.
    let o = kind_from 1 theta_tag i w q.0 q.1 g in
    (rw (in_form_lem short o.past, o.first, eq-eqb i.0 i.0 refl), o.word, o.past))
    (rows_from (λ r. 1) 0 k) ws c []
    (both_each (Fits 1) (λ (w : ℕ). w < 2 ^ 64) (rows_from (λ r. 1) 0 k) ws (omega (arith, grid_length 1 0 k)) (rows_each (λ r. 1) k (Fits 1) (λ i x y. (omega arith, omega arith))) h)
    open_before f in
    (r.items, r.number, omega (arith, from_length r.past))

-- ---- and nothing else
theta_only : (s : List ℕ) → length s ≤ 16777216 → (k : ℕ) (c : Cursor) → k ≤ 8 → c.at ≤ length s → (theta_words s k c).past.number ≡ 0
    → Stands s (lines_text (single_text theta_tag) (rows_from (λ r. 1) 0 k)) (λ (w : ℕ). w < 2 ^ 64) c.at (theta_words s k c).past.at (theta_words s k c).items
theta_only s short k c few =
    lines_only s (single_line theta_tag s) theta_verdict word_in (single_text theta_tag) (Within (λ r. 1) k) (λ (w : ℕ). w < 2 ^ 64)
    (λ n at i p v.
    let l = single_line theta_tag s at in
    let o = both (in_form l.next) (eqb l.first i.0) (in_order_lem (theta_tests i l) refl v).0 in
    let first = eqb-true l.first i.0 o.1 in
    let x = single_at s short theta_tag at (omega arith) o.0 (omega (arith, p.0)) in
    (rw (sym first) x.0, x.1, x.2))
    (rows_from (λ r. 1) 0 k) c (rows_within (λ r. 1) k 0 k (omega arith))

-- behind the sheet
abbrev behind : Starts → Cursor
behind starts = record { at = starts.end; line = starts.line; number = 0 }

-- THE CLAIMS. Where the sheet is read and the theta part is in order to the last byte, the input is in form.
pub input_only : (s : List ℕ) (sheet : Sheet) (starts : Starts) → read_sheet s ≡ accepted sheet starts → length s ≤ bytes_held
    → let t = theta_lines s sheet.counts.k (behind starts) in
    t.past.number ≡ 0 → t.past.at ≡ length s → (ws : List ℕ) × Input s sheet ws × (t.items ≡ map double ws)
input_only s sheet starts e held ok all =
    let k = sheet.counts.k in
    let c = behind starts in
    let b = read_before s sheet starts e in
    let m = theta_map s k c in
    let t = theta_only s (omega arith) k c b.1.counts.k b.2 (ap (λ (x : Cursor). x.number) (sym m.1) ∙ ok) in
    let ws = (theta_words s k c).items in
    let count : length ws ≡ k = lines_length (single_line theta_tag s) theta_verdict word_in (rows_from (λ r. 1) 0 k) c ∙ omega (arith, grid_length 1 0 k) in
    let last : length s ≤ (theta_words s k c).past.at = omega (arith, all, ap (λ (x : Cursor). x.at) m.1) in
    let none : drop (theta_words s k c).past.at s ≡ [] = drop_of_length-le s last in
    let rest : drop starts.end s ≡ theta_text ws =
    from_drop t.so
    ∙ ap₂ (λ (n : ℕ) (r : List ℕ). lines_text (single_text theta_tag) (rows_from (λ r. 1) 0 n) ws r) (sym count) none in
    (ws, record { text = b.0 ∙ ap (sheet_text sheet) rest; form = b.1; count = count; words = t.each; held = held }, m.0)

-- what is printed once load accepts
theta_printed : (s : List ℕ) (sheet : Sheet) (ws : List ℕ) → Input s sheet ws → (starts : Starts) → From s starts.end (theta_text ws) → (v : Workspace)
    → after_theta (theta_lines s sheet.counts.k (behind starts)) s v sheet.counts.k ≡ factor_with v sheet.counts.k (map double ws)
theta_printed s sheet ws i starts f v =
    let k = sheet.counts.k in
    let c = behind starts in
    let m = theta_map s k c in
    let t = theta_back s (omega (arith, i.held)) k ws c i.form.counts.k i.count i.words refl (subst (λ (n : ℕ). From s starts.end (lines_text (single_text theta_tag) (rows_from (λ r. 1) 0 n) ws [])) i.count f) in
    rw (m.0, m.1, t.0, t.1, t.2, eq-eqb (length s) (length s) refl) refl

load_printed : (s : List ℕ) (sheet : Sheet) (ws : List ℕ) → Input s sheet ws → (starts : Starts) → From s starts.end (theta_text ws) → (a : Result Unit Refusal) (v : Workspace)
    → a ≡ (Ok tt) → after_load a v sheet.counts s starts ≡ factor_with v sheet.counts.k (map double ws)
load_printed s sheet ws i starts f a v e = rw e (theta_printed s sheet ws i starts f v)

-- An input in form whose sheet is without a fault, and fits: begin with its theta, the steps and the pivots are what is printed.
pub input_printed : (s : List ℕ) (sheet : Sheet) (ws : List ℕ) → Input s sheet ws → fault_number sheet ≡ 0
    → let o = load_sheet sheet (replicate numbers_held 0) (replicate doubles_held ieee.zero) in
    o.answer ≡ (Ok tt) → print_of s ≡ factor_with o.left sheet.counts.k (map double ws)
unfolding print_of
input_printed s sheet ws i fine ok =
    let t = i.text in
    let short : length (sheet_text sheet (theta_text ws)) ≤ 16777216 = omega (arith, i.held, ap length t) in
    let r = written_before sheet (theta_text ws) i.form short in
    let e : read_sheet s ≡ accepted sheet r.0 = ap read_sheet t ∙ r.1 in
    let f : From s r.0.end (theta_text ws) = subst (λ (x : List ℕ). From x r.0.end (theta_text ws)) (sym t) r.2 in
    let o = load_sheet sheet (replicate numbers_held 0) (replicate doubles_held (ieee.zero)) in
    ap (λ (b : Bool). cond b (refused_line 12 0 0) (after_read (read_sheet s) s)) (le-ltb bytes_held (length s) i.held)
    ∙ checked_fine (λ number line. refused_line number line 0) (λ sheet starts. after_sheet sheet s starts) (read_sheet s) sheet r.0 e fine
    ∙ load_printed s sheet ws i r.0 f o.answer o.left ok
