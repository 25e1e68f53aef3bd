-- The zz lines of the sheet that bytes hold, by index: where each stands, its number, its order, and what makes it faulty.
use Prim.Native.Nat.{ℕ, zero, suc, ◌+◌, ◌≤◌, ◌<◌, min}
use mathlib.Core.Path.{◌≡◌, refl, sym, ◌∙◌, ap, subst}
use mathlib.Core.Logic.{◌⊎◌, inl, inr, by_cases}
use mathlib.Core.Bool.{Bool, true, false, not, ◌&&◌, ◌||◌, false≢true}
use mathlib.Core.List.Memᴰ
use mathlib.Core.List.{List, [], ◌∷◌, Memᴰ}
use native.Mathlib.Omega.{arith}
use native.Mathlib.Numerals.{add-one}
use native.Mathlib.Decide.{dec_lt}
use borrow.Author.Tests.{eqb-true, eqb-false, eq-eqb, ne_eqb}
use lib.Dec.{eqb}
use lib.ListN.{length, get_or}
use Rattle.sheet.specs.declared.Line.{Line}
use Rattle.sheet.specs.declared.Starts.{Starts}
use Rattle.sheet.specs.declared.Counts.{Counts}
use Rattle.sheet.specs.Line.{zz_tag, pair_line}
use Rattle.sheet.specs.Field.{is_zero}
use Rattle.sheet.specs.Run.{Entry, entry_in, kept_from, past_from}
use Rattle.sheet.specs.Sheet.{Sheet}
use Rattle.sheet.specs.Whole.{Each, Earlier, Rising, EntryInRange, Whole}
use Rattle.sheet.specs.Fault.{Mirror, Fault, word_is_zero, inside_block, no_mirror, block_of_row, is_inside, is_fault, faulty_line}
use Rattle.sheet.proofs.Whole.{read_whole}
use Rattle.sheet.proofs.Faults.{fault_true, true_fault, first_at, first_none}
use Rattle.sheet_checks.specs.mirror_cursor.Held.{held, entry_of, place_of, Given, FaultAt}
use Rattle.sheet_checks.specs.mirror_cursor.Columns.{Mirrored}
use Rattle.sheet_checks.specs.mirror_cursor.Turns.{is_unfit}
use Rattle.sheet_checks.proofs.mirror_step.Places.{pair_in_form, sheet_formed}
use Rattle.sheet_checks.proofs.mirror_step.Columns.{last_or_before, Unmirrored, InOrder}

-- ---- lists by index
each_at : {A : Type 0} (P : A → Type 0) (l : List A) (d : A) (t : ℕ) → t < length l → Each P l → P (get_or l t d)
each_at P [] d t h e = absurd (omega arith)
each_at P (x ∷ l) d zero h e = e.0
each_at P (x ∷ l) d (suc t) h e = each_at P l d t (omega arith) e.1

rising_at : (l : List Entry) (d : Entry) (a b : ℕ) → a < b → b < length l → Rising l → Earlier (get_or l a d) (get_or l b d)
rising_at [] d a b g h r = absurd (omega arith)
rising_at (x ∷ l) d a zero g h r = absurd (omega arith)
rising_at (x ∷ l) d zero (suc b) g h r = each_at (Earlier x) l d b (omega arith) r.0
rising_at (x ∷ l) d (suc a) (suc b) g h r = rising_at l d a b (omega arith) (omega arith) r.1

member_at : {A : Type 0} (l : List A) (d : A) (t : ℕ) → t < length l → Memᴰ (get_or l t d) l
member_at [] d t h = absurd (omega arith)
member_at (x ∷ l) d zero h = Memᴰ.head refl
member_at (x ∷ l) d (suc t) h = Memᴰ.tail (member_at l d t (omega arith))

at_member : {A : Type 0} (l : List A) (d x : A) → Memᴰ x l → (t : ℕ) × (t < length l) × (get_or l t d ≡ x)
at_member [] d x m = absurd (Memᴰ.not-nil m)
at_member {A} (y ∷ l) d x m = go (at_member l d x) (Memᴰ.cases_cons m)
  where
    go : (Memᴰ x l → (t : ℕ) × (t < length l) × (get_or l t d ≡ x)) → (x ≡ y) ⊎ Memᴰ x l → (t : ℕ) × (t < length (y ∷ l)) × (get_or (y ∷ l) t d ≡ x)
    go more (inl e) = (0, omega arith, sym e)
    go more (inr n) = let r = more n in (suc r.0, omega (arith, r.1), r.2)

kept_at : {A : Type 0} (read : ℕ → Line) (keep : ℕ → Line → A) (d : A) (n line at t : ℕ) → t < n → get_or (kept_from read keep n line at) t d ≡ keep (line + t) (read (past_from read t at))
unfolding kept_from past_from
kept_at read keep d zero line at t h = absurd (omega arith)
kept_at read keep d (suc n) line at zero h = ap (λ (k : ℕ). keep k (read at)) (omega arith)
kept_at read keep d (suc n) line at (suc t) h =
    kept_at read keep d n (line + 1) (read at).next t (omega arith)
    ∙ ap (λ (k : ℕ). keep k (read (past_from read t (read at).next))) (omega arith)

past_next : (read : ℕ → Line) (t at : ℕ) → past_from read (suc t) at ≡ (read (past_from read t at)).next
unfolding past_from
past_next read zero at = refl
past_next read (suc t) at = past_next read t (read at).next

-- ---- the zz lines
pub place_next : (s : List ℕ) (z : Starts) (t : ℕ) → place_of s z (t + 1) ≡ (pair_line zz_tag s (place_of s z t)).next
place_next s z t = ap (λ (k : ℕ). place_of s z k) (add-one t) ∙ past_next (pair_line zz_tag s) t z.zz

pub place_first : (s : List ℕ) (z : Starts) → place_of s z 0 ≡ z.zz
unfolding past_from
place_first s z = refl

module _ {s : List ℕ} {z : Starts} {n : ℕ} (g : Given s z n) where
  pub whole : Whole s (held s) z
  whole = read_whole s (held s) z g.read

  pub counts_same : z.counts ≡ (held s).counts
  counts_same = whole.shape.same_counts

  -- entry t, as its line says
  pub entry_line : (t : ℕ) → t < n → entry_of (held s) t ≡ entry_in (z.counts.k + 2 + t) (pair_line zz_tag s (place_of s z t))
  unfolding entry_of
  entry_line t h =
      let d : Entry = record { line = 0; col = 0; row = 0; word = 0 } in
      let read = pair_line zz_tag s in
      let k : z.counts.k ≡ (held s).counts.k = ap (λ (c : Counts). c.k) counts_same in
      ap (λ (l : List Entry). get_or l t d) whole.placed.zz
      ∙ kept_at read entry_in d (length (held s).zz) ((held s).counts.k + 2) z.zz t (omega (arith, g.count))
      ∙ ap (λ (c : ℕ). entry_in c (read (place_of s z t))) (omega arith)

  -- entry i, by the line that was read
  pub read_here : {i at : ℕ} {l : Line} → i < n → at ≡ place_of s z i → l ≡ pair_line zz_tag s at → entry_of (held s) i ≡ entry_in (z.counts.k + 2 + i) l
  read_here {i} {at} {l} h e q = entry_line i h ∙ ap (entry_in (z.counts.k + 2 + i)) (sym (q ∙ ap (pair_line zz_tag s) e))

  pub next_here : (i : ℕ) {at : ℕ} {l : Line} → at ≡ place_of s z i → l ≡ pair_line zz_tag s at → l.next ≡ place_of s z (i + 1)
  next_here i {at} {l} e q = ap (λ (x : Line). x.next) (q ∙ ap (pair_line zz_tag s) e) ∙ sym (place_next s z i)

  -- a line ends past where it starts, and within the bytes
  pub line_ends : (t : ℕ) → t < length (held s).zz → (place_of s z t < place_of s z (t + 1)) × (place_of s z (t + 1) ≤ length s)
  line_ends t h =
      let f = pair_in_form zz_tag s (place_of s z t) (omega (arith, whole.short)) (sheet_formed s (held s) z g.read t h) in
      (omega (arith, f.0, place_next s z t), omega (arith, f.1, place_next s z t))

  pub places_rise : (a b : ℕ) → a < b → b ≤ length (held s).zz → place_of s z a < place_of s z b
  places_rise a zero h k = absurd (omega arith)
  places_rise a (suc b) h k =
      let more = places_rise a b in
      go more (last_or_before a b (omega arith)) (line_ends b (omega arith)).0 (ap (place_of s z) (add-one b))
    where
      go : (a < b → b ≤ length (held s).zz → place_of s z a < place_of s z b) → (a < b) ⊎ (a ≡ b) → place_of s z b < place_of s z (b + 1) → place_of s z (b + 1) ≡ place_of s z (suc b)
          → place_of s z a < place_of s z (suc b)
      go more (inl l) n e = omega (arith, more l (omega arith))
      go more (inr l) n e = let q : place_of s z a ≡ place_of s z b = ap (place_of s z) l in omega arith

  pub in_order_lem : InOrder (entry_of (held s)) (place_of s z) (length (held s).zz)
  unfolding entry_of
  in_order_lem = record { rises = λ a b h k. rising_at (held s).zz _ a b h k whole.shape.zz_rising; later = places_rise }

  -- one place has one index
  pub same_place : (a b : ℕ) → a ≤ length (held s).zz → b ≤ length (held s).zz → place_of s z a ≡ place_of s z b → a ≡ b
  same_place a b h k e =
      by_cases (dec_lt a b) (λ l. absurd (omega (arith, places_rise a b l k)))
      (λ l. by_cases (dec_lt b a) (λ m. absurd (omega (arith, places_rise b a m h))) (λ m. omega arith))

  pub in_range : (t : ℕ) → t < n → EntryInRange (held s).counts.q (entry_of (held s) t)
  unfolding entry_of
  in_range t h = each_at (EntryInRange (held s).counts.q) (held s).zz _ t (omega (arith, g.count)) whole.shape.zz

-- ---- faults
module _ (sheet : Sheet) where
  pub unmirrored_fault : (t : ℕ) → Unmirrored (entry_of sheet) (length sheet.zz) t → Fault sheet (entry_of sheet t)
  unfolding entry_of
  unmirrored_fault t none =
      no_mirror (λ m i r. let a = at_member sheet.zz (record { line = 0; col = 0; row = 0; word = 0 }) m i in none a.0 a.1 (subst (λ (x : Entry). Mirror (entry_of sheet t) x) (sym a.2) r))

  pub unfit_fault : (e : Entry) → is_unfit sheet e ≡ true → Fault sheet e
  unfit_fault e h = go (is_zero e.word) (eqb (block_of_row sheet.blocks e.col) (block_of_row sheet.blocks e.row)) (eqb e.col e.row) refl refl refl h
    where
      go : (z b d : Bool) → is_zero e.word ≡ z → eqb (block_of_row sheet.blocks e.col) (block_of_row sheet.blocks e.row) ≡ b → eqb e.col e.row ≡ d
          → (z || (b && not d)) ≡ true → Fault sheet e
      go true b d p q r k = word_is_zero p
      go false true false p q r k = inside_block (eqb-true _ _ q) (eqb-false _ _ r)
      go false true true p q r k = absurd (false≢true k)
      go false false d p q r k = absurd (false≢true k)

  -- an entry that is fit by itself and has a mirror has no fault
  pub sound : (t : ℕ) → is_unfit sheet (entry_of sheet t) ≡ false → Mirrored (entry_of sheet) (length sheet.zz) t → Fault sheet (entry_of sheet t) → ⊥
  unfolding entry_of
  sound t fit m f = go f fit
    where
      e : Entry
      e = entry_of sheet t

      go : Fault sheet e → is_unfit sheet e ≡ false → ⊥
      go (word_is_zero z) k = false≢true (sym (simp z at k))
      go (inside_block b d) k = inside (is_zero e.word) k
        where
          inside : (z : Bool) → (z || is_inside sheet e) ≡ false → ⊥
          inside true x = false≢true (sym x)
          inside false x = false≢true (sym (simp (eq-eqb _ _ b, ne_eqb _ _ d) at x))
      go (no_mirror none) k = none (entry_of sheet m.0) (member_at sheet.zz _ m.0 m.1) m.2

  -- the line that 9 names, by the index of the first entry with a fault
  unfaulty : (t : ℕ) → (Fault sheet (entry_of sheet t) → ⊥) → is_fault sheet (entry_of sheet t) ≡ false
  unfaulty t none = go (is_fault sheet (entry_of sheet t)) refl
    where
      go : (b : Bool) → is_fault sheet (entry_of sheet t) ≡ b → b ≡ false
      go false q = refl
      go true q = absurd (none (fault_true sheet (entry_of sheet t) q))

  pub names_entry : (t : ℕ) → t < length sheet.zz → Fault sheet (entry_of sheet t) → ((u : ℕ) → u < t → Fault sheet (entry_of sheet u) → ⊥) → (entry_of sheet t).line ≡ faulty_line sheet
  unfolding entry_of faulty_line
  names_entry t h f none = sym (first_at (is_fault sheet) sheet.zz _ t h (true_fault sheet (entry_of sheet t) f) (λ u k. unfaulty u (none u k)))

  pub names_none : ((u : ℕ) → u < length sheet.zz → Fault sheet (entry_of sheet u) → ⊥) → 0 ≡ faulty_line sheet
  unfolding entry_of faulty_line
  names_none none = sym (first_none (is_fault sheet) sheet.zz _ (λ u k. unfaulty u (none u k)))

-- ---- a faulty line by where it starts
module _ {s : List ℕ} {z : Starts} where
  pub fault_here : (t : ℕ) → t < length (held s).zz → Fault (held s) (entry_of (held s) t) → FaultAt s z (place_of s z t)
  fault_here t h f = record { t = t; near = omega arith; here = refl; fault = λ k. f }

  pub fault_none : {n : ℕ} → Given s z n → FaultAt s z z.zx
  fault_none g = record { t = length (held s).zz; near = omega arith; here = (whole g).placed.zz_end; fault = λ k. absurd (omega arith) }

  pub fault_min : {a b : ℕ} → FaultAt s z a → FaultAt s z b → FaultAt s z (min a b)
  fault_min {a} {b} x y =
      by_cases (dec_lt a b) (λ l. subst (FaultAt s z) (let e : a ≡ min a b = omega arith in e) x) (λ l. subst (FaultAt s z) (let e : b ≡ min a b = omega arith in e) y)

  -- an entry without a mirror is faulty, and the first faulty line that is known may be it
  pub with_unmirrored : (t : ℕ) {first at : ℕ} → t < length (held s).zz → at ≡ place_of s z t → FaultAt s z first
      → Unmirrored (entry_of (held s)) (length (held s).zz) t → FaultAt s z (min first at)
  with_unmirrored t {first} {at} h e f u = fault_min f (subst (FaultAt s z) (sym e) (fault_here t h (unmirrored_fault (held s) t u)))
