-- THE CLAIM: a freshly loaded workspace is one that load leaves, of the text of the sheet with the words of the last accepted response.
use Prim.Native.Nat.{ℕ, suc, ◌≤◌}
use mathlib.Core.Path.{◌≡◌, refl, sym, ap, ap₂, subst, ◌∙◌}
use mathlib.Core.Bool.{true}
use mathlib.Core.List.{List, [], ◌∷◌, ◌++◌}
use Rattle.std.specs.Prelude.{Option, None, Result, Ok, Err}
use native.Mathlib.Omega.{arith}
use borrow.Author.Tests.{le-leb}
use lib.ListN.{length, get_or}
use lib.Ieee.{Float}
use Rattle.storage.proofs.Parts.{store_all}
use Rattle.sheet.specs.Sheet.{Sheet, sheet_of}
use Rattle.sheet.specs.Fault.{any_faulty, fault_number}
use Rattle.sheet.specs.Whole.{Each}
use Rattle.sheet.proofs.Lines.{grid_length}
use Rattle.sheet.proofs.Answers.{checked_fine}
use Rattle.sheet.proofs.Whole.{read_whole, alone_read}
use Rattle.sheet_text.specs.written.Written.{text_of, Word, InForm}
use Rattle.sheet_text.proofs.written.Length.{same_length}
use Rattle.sheet_text.proofs.written.Read.{written_read}
use Rattle.sheet_text.proofs.written.OnlySheet.{read_written}
use Rattle.refusal.specs.declared.Refusal.{Refusal}
use Rattle.layout.specs.declared.Layout.{Layout}
use Rattle.layout.specs.Shapes.{Target, pairs, doubles_needed}
use Rattle.heading_format.specs.Heading.{numbers_needed}
use Rattle.workspace.specs.Memory.{zeros}
use Rattle.workspace.specs.Answers.{accept, untouched, is_finite, list_fault, unless_refused}
use Rattle.workspace.specs.Loaded.{pair_in, or_refused, first_refused_pair, sorted_layout, layout_of_sheet, loaded_numbers}
use Rattle.workspace.specs.Load.{heading_of, doubles_of, after_gate, load_sheet, load_of}
use Rattle.workspace.specs.Response.{Response, response, lists_of, response_lengths, responded}
use Rattle.workspace.proofs.Lengths.{length_doubles, length_heading, prescribed_lengths}
use Rattle.workspace.proofs.ListFaults.{AllFinite, no_fault, finite_word}
use Rattle.book.specs.Calls.{Call, begin, step, replace_response, profile_deviance}
use Rattle.book.specs.Book.{Book, Entry, layout, opened, entered, book_after}
use Rattle.book.proofs.Loaded.{begin_keeps, step_keeps, profile_keeps}
use Rattle.demand3.proofs.invariant.Open.{load_opened}
use Rattle.response_exchange.specs.Exchange.{with_response, doubles, response_of}
use Rattle.response_exchange.specs.Loads.{IsDouble, InDoubles, FreshIsLoaded}
use Rattle.response_exchange.proofs.Exchange.{exchanged_numbers}

-- ---- the words of a response

-- words with which the sheet is in form
record Words (sheet : Sheet) : Type 0 where
  zy : List ℕ
  xy : List ℕ
  yy : ℕ
  form : InForm (with_response sheet zy xy yy)

abbrev renewed : (sheet : Sheet) → Words sheet → Sheet
renewed sheet n = with_response sheet n.zy n.xy n.yy

-- finite doubles are those of as many finite words
words_of : (l : List Float) → Each IsDouble l → AllFinite l → (ws : List ℕ) × Each Word ws × (length ws ≡ length l) × (doubles ws ≡ l)
words_of [] d f = ([], tt, refl, refl)
words_of (x ∷ l) d f =
    let word = d.0.0 in
    let m = words_of l d.1 f.1 in (
      word ∷ m.0,
      ((d.0.1, finite_word word (subst (λ (v : Float). is_finite v ≡ true) d.0.2 f.0)), m.1),
      ap suc m.2,
      ap₂ (λ (v : Float) (r : List Float). v ∷ r) (sym d.0.2) m.3,
    )

one_word : (ws : List ℕ) → length ws ≡ 1 → ws ≡ get_or ws 0 0 ∷ []
one_word [] e = absurd (omega arith)
one_word (w ∷ []) e = refl
one_word (w ∷ v ∷ ws) e = absurd (omega arith)

module _ (sheet : Sheet) (form : InForm sheet) where
  -- as many finite words as the counts say leave it in form
  new_form : (zy xy : List ℕ) (yy : ℕ) → Each Word zy → Each Word xy → Word yy → length zy ≡ sheet.counts.q → length xy ≡ sheet.counts.p
      → InForm (with_response sheet zy xy yy)
  new_form zy xy yy z x y m n =
      let old = form.words in
      record {
        counts = form.counts;
        blocks = form.blocks;
        blocks_length = form.blocks_length;
        zz = form.zz;
        zz_words = form.zz_words;
        zz_rising = form.zz_rising;
        zz_lines = form.zz_lines;
        words = (old.0, ((omega (arith, grid_length 1 0 sheet.counts.q), z), (old.1.1.0, ((omega (arith, grid_length 1 0 sheet.counts.p), x), ((refl, (y, tt)), tt)))));
      }

  -- those of a response without a fault
  new_words : (r : Response) → Each (λ (l : List Float). Each IsDouble l) (lists_of r) → list_fault (response_lengths (layout_of_sheet sheet)) (lists_of r) ≡ Ok tt
      → (n : Words sheet) × (r ≡ response_of (renewed sheet n))
  unfolding layout_of_sheet sorted_layout
  new_words r d e =
      let f = no_fault (layout_of_sheet sheet) r e in
      let many = prescribed_lengths (layout_of_sheet sheet) r f.0 in
      let z = words_of r.zy d.0 f.1.0 in
      let x = words_of r.xy d.1.0 f.1.1.0 in
      let y = words_of r.yy d.1.1.0 f.1.1.1.0 in
      let one = one_word y.0 (y.2 ∙ many.2) in (
        record {
          zy = z.0;
          xy = x.0;
          yy = get_or y.0 0 0;
          form = new_form z.0 x.0 (get_or y.0 0 0) z.1 x.1 (subst (Each Word) one y.1).0 (z.2 ∙ many.0) (x.2 ∙ many.1);
        },
        ap₂ (λ (a b : List Float). response a b r.yy) (sym z.3) (sym x.3) ∙ ap (response (doubles z.0) (doubles x.0)) (sym y.3 ∙ ap doubles one),
      )

-- ---- the loaded numbers of the book are those of the sheet with such words

abbrev Kept : Sheet → List Float → Type 0
Kept sheet loaded = (n : Words sheet) × (loaded ≡ loaded_numbers (renewed sheet n) (layout_of_sheet sheet))

module _ (sheet : Sheet) where
  -- with its own
  opened_kept : InForm sheet → Kept sheet (opened sheet).loaded
  opened_kept form = (record { zy = sheet.zy; xy = sheet.xy; yy = sheet.yy; form = form }, refl)

  -- with a new response's
  response_kept : (loaded : List Float) (r : Response) → Kept sheet loaded → (n : Words sheet) × (r ≡ response_of (renewed sheet n))
      → Kept sheet (responded (heading_of sheet (layout_of_sheet sheet)) loaded r).left.doubles
  unfolding layout_of_sheet sorted_layout heading_of
  response_kept loaded r k n = (
    n.0,
    ap₂ (λ (l : List Float) (x : Response). (responded (heading_of sheet (layout_of_sheet sheet)) l x).left.doubles) k.1 n.1
        ∙ exchanged_numbers (renewed sheet k.0) n.0.zy n.0.xy n.0.yy,
  )

  -- by the book's test
  either_kept : (t : Result Unit Refusal) (e : Entry) (f : Refusal → Entry) → (t ≡ Ok tt → Kept sheet e.next.loaded) → ((r : Refusal) → Kept sheet (f r).next.loaded)
      → Kept sheet (unless_refused t f e).next.loaded
  either_kept (Ok tt) e f x y = x refl
  either_kept (Err r) e f x y = y r

  module _ (form : InForm sheet) where
    call_kept : (b : Book) (c : Call) → InDoubles c → Kept sheet b.loaded → Kept sheet (entered sheet c b).next.loaded
    call_kept b (begin theta) d k = subst (Kept sheet) (sym (begin_keeps sheet b theta)) k
    call_kept b (step s) d k = subst (Kept sheet) (sym (step_keeps sheet b s)) k
    call_kept b (replace_response r) d k =
        either_kept (list_fault (response_lengths (layout sheet)) (lists_of r)) _ _ (λ e. response_kept b.loaded r k (new_words sheet form r d e)) (λ f. k)
    call_kept b (profile_deviance theta reml) d k = subst (Kept sheet) (sym (profile_keeps sheet b theta reml)) k

    calls_kept : (calls : List Call) (b : Book) → Each InDoubles calls → Kept sheet b.loaded → Kept sheet (book_after sheet calls b).loaded
    unfolding book_after
    calls_kept [] b d k = k
    calls_kept (c ∷ l) b d k = calls_kept l (entered sheet c b).next d.1 (call_kept b c d.0 k)

-- ---- load of the text

module _ (sheet : Sheet) (n : Words sheet) where
  abbrev y : Layout
  y = layout_of_sheet sheet

  abbrev new : Sheet
  new = renewed sheet n

  -- the gate looks at no word of a response
  same_gate : (l : List Target) → first_refused_pair new y l ≡ first_refused_pair sheet y l
  unfolding first_refused_pair pair_in
  same_gate [] = refl
  same_gate (t ∷ l) = ap (or_refused (pair_in sheet y t.row t.col) t) (same_gate l)

  -- what load did not refuse of the old words it does not refuse of these
  module _ (fine : fault_number sheet ≡ 0) (gate : first_refused_pair sheet y (pairs y.k) ≡ None) (h : List ℕ) (w : List Float) (numbers : length h ≡ numbers_needed y)
      (many : length w ≡ doubles_needed y) where
    sheet_loads : load_sheet new h w ≡ accept (heading_of sheet y) (loaded_numbers new y ++ zeros y)
    unfolding load_sheet layout_of_sheet sorted_layout heading_of doubles_of
    sheet_loads =
        ap (λ (g : Option Refusal). after_gate g new y h w) (same_gate (pairs y.k) ∙ gate)
        ∙ rw (le-leb (numbers_needed y) (length h) (omega arith), le-leb (doubles_needed y) (length w) (omega arith))
        (ap₂ accept (store_all (heading_of new y) h (numbers ∙ sym (length_heading new y))) (store_all (doubles_of new y) w (many ∙ sym (length_doubles new y))))

    text_loads : length (text_of new) ≤ 16777216 → load_of (text_of new) h w ≡ accept (heading_of sheet y) (loaded_numbers new y ++ zeros y)
    unfolding load_of fault_number any_faulty
    text_loads short =
        let r = written_read new n.form short in
        checked_fine (λ number line. untouched h w number line 0) (λ sheet starts. load_sheet sheet h w) (sheet_of (text_of new)) new r.0 r.1 fine ∙ sheet_loads

pub fresh_is_loaded : FreshIsLoaded
unfolding FreshIsLoaded
fresh_is_loaded bytes sheet starts h w e a calls d =
    let t = read_written bytes sheet starts e in
    let load = load_opened sheet h w bytes starts e a in
    let k = calls_kept sheet t.1 calls (opened sheet) d (opened_kept sheet t.1) in
    -- as long as the bytes, which load accepted
    let short : length (text_of (renewed sheet k.0)) ≤ 16777216 =
    omega (arith, same_length (renewed sheet k.0) sheet refl refl refl k.0.form t.1, ap length t.0, (read_whole bytes sheet starts (alone_read bytes sheet starts e).0).short) in
    record {
      bytes = text_of (renewed sheet k.0);
      loads =
          λ h w m n.
          text_loads sheet k.0 load.fine load.gate h w m n short
          ∙ ap (λ (l : List Float). accept (heading_of sheet (layout sheet)) (l ++ zeros (layout sheet))) (sym k.1);
    }
