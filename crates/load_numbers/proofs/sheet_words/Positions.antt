-- What a run of lines leaves at one position: what stood there where no line's place is that position, else the word of the line whose place it is.
use Prim.Native.Nat.{ℕ, zero, suc, ◌+◌, ◌-◌, ◌≤◌, ◌<◌}
use mathlib.Core.Path.{◌≡◌, refl, sym, ap, ◌∙◌}
use mathlib.Core.Bool.{Bool, true, false, ◌&&◌, cond, and-eq-true_iff}
use mathlib.Core.List.{List, [], ◌∷◌}
use mathlib.Core.Logic.{⊎_elim}
use native.Mathlib.Omega.{arith}
use lib.Dec.{eqb}
use lib.ListN.{length, get_or, set, length-set}
use lib.Seq.{get_or-set_same, get_or-set_other}
use borrow.Author.Tests.{eqb-true}
use Rattle.sheet.specs.declared.Line.{Line}
use Rattle.sheet.specs.Run.{Entry, entry_in, word_in, kept_from}
use Rattle.sheet.specs.Whole.{Each, Earlier, Rising}
use Rattle.workspace.specs.Loaded.{count_of}
use Rattle.load_numbers.specs.word_address.Spread.{EachLine, spread}
use Rattle.heading_format.proofs.Valid.{is_false}

pub true_false : {b : Bool} → b ≡ true → b ≡ false → ⊥
true_false e f = let z : ◌≡◌ {A = ℕ} 0 1 = ap (λ (t : Bool). cond t 0 1) (sym e ∙ f) in omega arith

pub each_map : {A : Type 0} (P Q : A → Type 0) → ((x : A) → P x → Q x) → (l : List A) → Each P l → Each Q l
each_map P Q f [] a = tt
each_map P Q f (x ∷ l) a = (f x a.0, each_map P Q f l a.1)

pub each_both : {A : Type 0} (P Q R : A → Type 0) → ((x : A) → P x → Q x → R x) → (l : List A) → Each P l → Each Q l → Each R l
each_both P Q R f [] a b = tt
each_both P Q R f (x ∷ l) a b = (f x a.0 b.0, each_both P Q R f l a.1 b.1)

-- what holds of each thing kept holds of each line
pub each_kept : {A : Type 0} (P : A → Type 0) (Q : Line → Type 0) (keep : ℕ → Line → A) → ((i : ℕ) (l : Line) → P (keep i l) → Q l)
    → (read : ℕ → Line) (n i at : ℕ) → Each P (kept_from read keep n i at) → EachLine Q read n at
unfolding kept_from
each_kept P Q keep f read zero i at a = tt
each_kept P Q keep f read (suc n) i at a = (f i (read at) a.0, each_kept P Q keep f read n (i + 1) (read at).next a.1)

module _ {A : Type 0} (place : ℕ → Line → ℕ) (value : Line → A) (read : ℕ → Line) where
  abbrev put : ℕ → Line → List A → List A
  put i l w = set w (place i l) (value l)

  pub spread_length : (n i at : ℕ) (w : List A) → length (spread put read n i at w) ≡ length w
  unfolding spread
  spread_length zero i at w = refl
  spread_length (suc n) i at w = spread_length n (suc i) (read at).next (put i (read at) w) ∙ length-set w (place i (read at)) (value (read at))

  module _ (P : ℕ) (d : A) where
    -- no line's place is P
    abbrev pub Missed : ℕ → ℕ → ℕ → Type 0
    Missed zero i at = Unit {0}
    Missed (suc n) i at = (place i (read at) ≡ P → ⊥) × Missed n (suc i) (read at).next

    pub missed : (n i at : ℕ) (w : List A) → Missed n i at → get_or (spread put read n i at w) P d ≡ get_or w P d
    unfolding spread
    missed zero i at w m = refl
    missed (suc n) i at w m =
        missed n (suc i) (read at).next (put i (read at) w) m.1 ∙ get_or-set_other w (place i (read at)) P (value (read at)) d (λ e. m.0 (sym e))

    pub all_missed : (n i at : ℕ) → ((t : ℕ) (l : Line) → i ≤ t → t < i + n → place t l ≡ P → ⊥) → Missed n i at
    all_missed zero i at h = tt
    all_missed (suc n) i at h = (h i (read at) (omega arith) (omega arith), all_missed n (suc i) (read at).next (λ t l a b. h t l (omega arith) (omega arith)))

-- ---- words by their number

module _ {A : Type 0} (place : ℕ → Line → ℕ) (value : ℕ → A) (read : ℕ → Line) (P : ℕ) (d : A) where
  -- line m's place alone is P
  pub word_put : (n i at line m : ℕ) (w : List A) → i ≤ m → m < i + n → ((l : Line) → place m l ≡ P)
      → ((t : ℕ) (l : Line) → i ≤ t → t < i + n → (t ≡ m → ⊥) → place t l ≡ P → ⊥) → P < length w
      → get_or (spread (λ i l w. set w (place i l) (value l.word)) read n i at w) P d ≡ value (get_or (kept_from read word_in n line at) (m - i) 0)
  unfolding spread kept_from
  word_put zero i at line m w a b here other fits = absurd (omega arith)
  word_put (suc n) i at line m w a b here other fits =
      step
      (λ h. word_put n (suc i) (read at).next (line + 1) m (set w (place i (read at)) (value (read at).word)) h (omega arith) here
      (λ t l a b. other t l (omega arith) (omega arith)) (simp length-set fits)) (m - i) refl
    where
      l : Line
      l = read at

      left : A
      left = get_or (spread (λ i l w. set w (place i l) (value l.word)) read n (suc i) l.next (set w (place i l) (value l.word))) P d

      step : (suc i ≤ m → left ≡ value (get_or (kept_from read word_in n (line + 1) l.next) (m - suc i) 0)) → (k : ℕ) → m - i ≡ k
          → left ≡ value (get_or (l.word ∷ kept_from read word_in n (line + 1) l.next) k 0)
      step more zero e =
          let q : m ≡ i = omega arith in
          missed place (λ l. value l.word) read P d n (suc i) l.next (set w (place i l) (value l.word))
          (all_missed place (λ l. value l.word) read P d n (suc i) l.next (λ t l a b. other t l (omega arith) (omega arith) (λ z. omega arith)))
          ∙ ap (λ (p : ℕ). get_or (set w p (value l.word)) P d) (ap (λ (x : ℕ). place x l) (sym q) ∙ here l)
          ∙ get_or-set_same w P (value l.word) d fits
      step more (suc k) e =
          let q : m - suc i ≡ k = omega arith in
          more (omega arith) ∙ ap (λ (x : ℕ). value (get_or (kept_from read word_in n (line + 1) l.next) x 0)) q

-- ---- entries by their column and row

module _ {A : Type 0} (test : Entry → Bool) (value : Entry → A) (none : A) where
  -- the value of the first entry that passes
  abbrev pub chosen : List Entry → A
  chosen [] = none
  chosen (e ∷ l) = cond (test e) (value e) (chosen l)

-- no entry passes behind one that does
abbrev pub Only : (Entry → Bool) → List Entry → Type 0
Only test [] = Unit {0}
Only test (e ∷ l) = (test e ≡ true → Each (λ x. test x ≡ false) l) × Only test l

-- rising entries: one at most has a column and row
abbrev pub at_cell : ℕ → ℕ → Entry → Bool
at_cell col row e = eqb e.col col && eqb e.row row

pub at_cell_lem : (col row : ℕ) (e : Entry) → at_cell col row e ≡ true → (e.col ≡ col) × (e.row ≡ row)
at_cell_lem col row e h = let k = (and-eq-true_iff (eqb e.col col) (eqb e.row row)).0 h in (eqb-true e.col col k.0, eqb-true e.row row k.1)

pub rising_only : (col row : ℕ) (l : List Entry) → Rising l → Only (at_cell col row) l
rising_only col row [] r = tt
rising_only col row (e ∷ l) r = (
  λ h. let p = at_cell_lem col row e h in
      each_map (Earlier e) (λ x. at_cell col row x ≡ false)
      (λ x q. is_false (at_cell col row x) (λ g. let t = at_cell_lem col row x g in later x p t q)) l r.0,
  rising_only col row l r.1,
)
  where
    later : (x : Entry) → (e.col ≡ col) × (e.row ≡ row) → (x.col ≡ col) × (x.row ≡ row) → Earlier e x → ⊥
    later x p t q = let p₀ = p.0 in let p₁ = p.1 in let t₀ = t.0 in let t₁ = t.1 in ⊎_elim (λ a. omega arith) (λ a. let a₁ = a.1 in omega arith) q

pub none_pass : (test : Entry → Bool) (l : List Entry) → count_of test l ≡ 0 → Each (λ x. test x ≡ false) l
unfolding count_of
none_pass test [] z = tt
none_pass test (x ∷ l) z = step (none_pass test l) (test x) refl z
  where
    step : (count_of test l ≡ 0 → Each (λ x. test x ≡ false) l) → (b : Bool) → test x ≡ b → cond b (suc (count_of test l)) (count_of test l) ≡ 0
        → (test x ≡ false) × Each (λ x. test x ≡ false) l
    step f true q z = absurd (omega arith)
    step f false q z = (q, f z)

-- where one passes, no other does
pub count_only : (test : Entry → Bool) (l : List Entry) → count_of test l ≤ 1 → Only test l
unfolding count_of
count_only test [] h = tt
count_only test (e ∷ l) h = (λ p. none (test e) p h, count_only test l (fewer (test e) h))
  where
    none : (b : Bool) → b ≡ true → cond b (suc (count_of test l)) (count_of test l) ≤ 1 → Each (λ x. test x ≡ false) l
    none true p h = none_pass test l (omega arith)
    none false p h = absurd (true_false p refl)

    fewer : (b : Bool) → cond b (suc (count_of test l)) (count_of test l) ≤ 1 → count_of test l ≤ 1
    fewer true h = omega arith
    fewer false h = h

module _ {A : Type 0} (place : ℕ → ℕ → ℕ) (value : ℕ → ℕ → ℕ → A) (read : ℕ → Line) (P : ℕ) (d : A) where
  -- no entry's place is P
  pub entries_missed : (n i line at : ℕ) → Each (λ e. place e.col e.row ≡ P → ⊥) (kept_from read entry_in n line at)
      → Missed (λ i l. place l.first l.second) (λ l. value l.first l.second l.word) read P d n i at
  unfolding kept_from
  entries_missed zero i line at a = tt
  entries_missed (suc n) i line at a = (a.0, entries_missed n (suc i) (line + 1) (read at).next a.1)

  -- the entry that passes is the one whose place is P
  pub entry_put : (test : Entry → Bool) (none : A) (n i line at : ℕ) (w : List A) → Only test (kept_from read entry_in n line at)
      → Each (λ e. (place e.col e.row ≡ P → test e ≡ true) × (test e ≡ true → place e.col e.row ≡ P)) (kept_from read entry_in n line at)
      → P < length w → get_or w P d ≡ none
      → get_or (spread (λ i l w. set w (place l.first l.second) (value l.first l.second l.word)) read n i at w) P d
      ≡ chosen test (λ e. value e.col e.row e.word) none (kept_from read entry_in n line at)
  unfolding spread kept_from
  entry_put test none zero i line at w o m fits z = z
  entry_put test none (suc n) i line at w o m fits z =
      step (entry_put test none n (suc i) (line + 1) l.next (set w (place l.first l.second) (value l.first l.second l.word)) o.1 m.1 (simp length-set fits))
      (test (entry_in line l)) refl
    where
      l : Line
      l = read at

      kept : List Entry
      kept = kept_from read entry_in n (line + 1) l.next

      w' : List A
      w' = set w (place l.first l.second) (value l.first l.second l.word)

      left : A
      left = get_or (spread (λ i l w. set w (place l.first l.second) (value l.first l.second l.word)) read n (suc i) l.next w') P d

      step : (get_or w' P d ≡ none → left ≡ chosen test (λ e. value e.col e.row e.word) none kept) → (b : Bool) → test (entry_in line l) ≡ b
          → left ≡ cond b (value l.first l.second l.word) (chosen test (λ e. value e.col e.row e.word) none kept)
      step more true e =
          missed (λ i l. place l.first l.second) (λ l. value l.first l.second l.word) read P d n (suc i) l.next w'
          (entries_missed n (suc i) (line + 1) l.next
          (each_both (λ x. test x ≡ false) (λ x. (place x.col x.row ≡ P → test x ≡ true) × (test x ≡ true → place x.col x.row ≡ P)) (λ x. place x.col x.row ≡ P → ⊥)
          (λ x f g q. true_false (g.0 q) f) kept (o.0 e) m.1))
          ∙ ap (λ (p : ℕ). get_or (set w p (value l.first l.second l.word)) P d) (m.0.1 e)
          ∙ get_or-set_same w P (value l.first l.second l.word) d fits
      step more false e =
          more (get_or-set_other w (place l.first l.second) P (value l.first l.second l.word) d (λ q. true_false (m.0.0 (sym q)) e) ∙ z)
