-- What is known of a sheet that load writes: a valid layout, blocks that cover the rows, and in a sparse pair one entry in each column.
use Prim.Native.Nat.{ℕ, suc, ◌+◌, ◌-◌, ◌*◌, ◌≤◌, ◌<◌}
use mathlib.Core.Path.{◌≡◌, refl, sym, ap, subst, ◌∙◌}
use mathlib.Core.Bool.{Bool, true, false, cond, and-eq-true_iff}
use mathlib.Core.List.{List, [], ◌∷◌}
use mathlib.Core.Logic.{⊎_elim}
use Rattle.std.specs.Prelude.{None}
use native.Mathlib.Nat.{mul-le-mul_right}
use native.Mathlib.Omega.{arith}
use lib.Dec.{eqb}
use lib.ListN.{length}
use borrow.Author.Tests.{eqb-true, eq-eqb}
use Rattle.sheet.specs.Run.{Entry}
use Rattle.sheet.specs.declared.Starts.{Starts}
use Rattle.sheet.specs.Sheet.{Sheet, accepted, read_sheet}
use Rattle.sheet.specs.Fault.{fault_number}
use Rattle.sheet.specs.Whole.{Each, EntryInRange, Earlier, Rising}
use Rattle.sheet.proofs.Whole.{read_whole}
use Rattle.layout.specs.declared.Layout.{Layout}
use Rattle.layout.specs.Blocks.{sum}
use Rattle.layout.specs.Shapes.{levels, pairs}
use Rattle.layout.proofs.Sums.{sum_same}
use Rattle.heading_format.specs.Heading.{sheet_levels, valid_layout}
use Rattle.heading_format.proofs.Valid.{every_at}
use Rattle.workspace.specs.Loaded.{row_start, sheet_row, in_block, count_of, row_of, of_column, first_refused_pair, sheet_m, sorted_layout, layout_of_sheet, entry_row_in}
use Rattle.workspace.proofs.Valid.{no_refusal_lem, sum_levels, allowed_pairs, sheet_levels_lem, shaped_valid, sparse_columns}
use Rattle.block_places.proofs.sheet_rows.Rows.{in_block_lem}
use Rattle.load_numbers.proofs.sheet_words.Lands.{Sole}
use Rattle.load_numbers.proofs.sheet_words.Positions.{each_map, true_false, none_pass}

-- ---- the one entry that passes

row_found : (test : Entry → Bool) (l : List Entry) → count_of test l ≡ 1 → (e : Entry) × (test e ≡ true) × (row_of test l ≡ e.row)
unfolding count_of row_of
row_found test [] h = absurd (omega arith)
row_found test (e ∷ l) h = step (row_found test l) (test e) refl h
  where
    step : (count_of test l ≡ 1 → (e : Entry) × (test e ≡ true) × (row_of test l ≡ e.row)) → (b : Bool) → test e ≡ b → cond b (suc (count_of test l)) (count_of test l) ≡ 1
        → (x : Entry) × (test x ≡ true) × (cond b e.row (row_of test l) ≡ x.row)
    step f true q z = (e, q, refl)
    step f false q z = f z

row_sole : (test : Entry → Bool) (l : List Entry) → count_of test l ≤ 1 → Each (λ e. test e ≡ true → e.row ≡ row_of test l) l
unfolding count_of row_of
row_sole test [] h = tt
row_sole test (e ∷ l) h = step (row_sole test l) (test e) refl h
  where
    never : (l : List Entry) (r : ℕ) → count_of test l ≡ 0 → Each (λ x. test x ≡ true → x.row ≡ r) l
    never l r z = each_map (λ x. test x ≡ false) (λ x. test x ≡ true → x.row ≡ r) (λ x f p. absurd (true_false p f)) l (none_pass test l z)

    step : (count_of test l ≤ 1 → Each (λ e. test e ≡ true → e.row ≡ row_of test l) l) → (b : Bool) → test e ≡ b → cond b (suc (count_of test l)) (count_of test l) ≤ 1
        → (test e ≡ true → e.row ≡ cond b e.row (row_of test l)) × Each (λ x. test x ≡ true → x.row ≡ cond b e.row (row_of test l)) l
    step f true q z = (λ p. refl, never l e.row (omega arith))
    step f false q z = (λ p. absurd (true_false p q), f z)

each_swap : {A : Type 0} (P : ℕ → A → Type 0) (n : ℕ) (l : List A) → ((c : ℕ) → c < n → Each (P c) l) → Each (λ e. (c : ℕ) → c < n → P c e) l
each_swap P n [] h = tt
each_swap P n (x ∷ l) h = (λ c b. (h c b).0, each_swap P n l (λ c b. (h c b).1))

-- ---- all that is known

pub record Known (sheet : Sheet) (y : Layout) : Type 0 where
  pub ok : valid_layout y ≡ true
  pub rows : sum (sheet_levels y y.k) y.k ≡ sheet.counts.q
  pub p_is : sheet.counts.p ≡ y.p
  pub q_is : sheet.counts.q ≡ y.q
  pub k_is : sheet.counts.k ≡ y.k
  pub inner : y.sparse ≡ true → (y.k ≡ 2) × ((c : ℕ) → c < levels y 0 → entry_row_in sheet y c < levels y 1)
  pub each_once : y.sparse ≡ true → (c : ℕ) → c < levels y 0 → count_of (of_column y 1 0 c) sheet.zz ≡ 1

module _ (s : List ℕ) (sheet : Sheet) (z : Starts) (read : read_sheet s ≡ accepted sheet z) (fine : fault_number sheet ≡ 0)
    (gate : first_refused_pair sheet (layout_of_sheet sheet) (pairs (layout_of_sheet sheet).k) ≡ None) where
  valid_read : valid_layout (layout_of_sheet sheet) ≡ true
  unfolding layout_of_sheet sorted_layout
  valid_read =
      let h = (read_whole s sheet z read).shape in
      let r = no_refusal_lem sheet fine in
      shaped_valid sheet h.counts.n h.counts.p (r.0, h.counts.k) h.blocks h.blocks_length r.1 (allowed_pairs sheet (layout_of_sheet sheet) sheet.counts.k gate)

  rows_read : sum (sheet_levels (layout_of_sheet sheet) sheet.counts.k) sheet.counts.k ≡ sheet.counts.q
  rows_read =
      let h = (read_whole s sheet z read).shape in
      sum_same (sheet_levels (layout_of_sheet sheet) sheet.counts.k) (sheet_m sheet) sheet.counts.k (sheet_levels_lem sheet h.counts.k)
      ∙ ap (λ (n : ℕ). sum (sheet_m sheet) n) (sym h.blocks_length) ∙ sum_levels sheet.blocks ∙ sym (no_refusal_lem sheet fine).1

  one_each_read : (layout_of_sheet sheet).sparse ≡ true → (c : ℕ) → c < levels (layout_of_sheet sheet) 0 → count_of (of_column (layout_of_sheet sheet) 1 0 c) sheet.zz ≡ 1
  one_each_read q c b =
      let y : Layout = layout_of_sheet sheet in
      eqb-true (count_of (of_column y 1 0 c) sheet.zz) 1 (every_at (λ c. eqb (count_of (of_column y 1 0 c) sheet.zz) 1) (levels y 0) (sparse_columns sheet q).1 c b)

  inner_read : (layout_of_sheet sheet).sparse ≡ true
      → ((layout_of_sheet sheet).k ≡ 2) × ((c : ℕ) → c < levels (layout_of_sheet sheet) 0 → entry_row_in sheet (layout_of_sheet sheet) c < levels (layout_of_sheet sheet) 1)
  inner_read q =
      let y : Layout = layout_of_sheet sheet in (
        (sparse_columns sheet q).0,
        λ c b. let r = row_found (of_column y 1 0 c) sheet.zz (one_each_read q c b) in
            let x : Entry = r.0 in
            let t = (and-eq-true_iff (eqb x.col (sheet_row y 0 c)) (in_block y 1 x.row)).0 r.1 in
            let u = in_block_lem y 1 x.row t.1 in
            let u₀ = u.0 in
            let u₁ = u.1 in
            omega (arith, r.2),
      )

  known_read : Known sheet (layout_of_sheet sheet)
  unfolding layout_of_sheet sorted_layout
  known_read = record { ok = valid_read; rows = rows_read; p_is = refl; q_is = refl; k_is = refl; inner = inner_read; each_once = one_each_read }

pub known : (s : List ℕ) (sheet : Sheet) (z : Starts) (y : Layout) → read_sheet s ≡ accepted sheet z → fault_number sheet ≡ 0 → y ≡ layout_of_sheet sheet
    → first_refused_pair sheet y (pairs y.k) ≡ None → Known sheet y
known s sheet z y read fine e gate =
    subst (λ (x : Layout). Known sheet x) (sym e)
    (known_read s sheet z read fine (subst (λ (x : Layout). first_refused_pair sheet x (pairs x.k) ≡ None) e gate))

-- every entry of a sparse pair is the one of its column
pub soles : (sheet : Sheet) (y : Layout) → Known sheet y → Each (λ e. Sole y (entry_row_in sheet y) e.col e.row) sheet.zz
soles sheet y k = go y.sparse refl
  where
    go : (b : Bool) → y.sparse ≡ b → Each (λ e. Sole y (entry_row_in sheet y) e.col e.row) sheet.zz
    go true q =
        each_map (λ e. (c : ℕ) → c < levels y 0 → of_column y 1 0 c e ≡ true → e.row ≡ row_of (of_column y 1 0 c) sheet.zz)
        (λ e. Sole y (entry_row_in sheet y) e.col e.row)
        (λ e f g a b.
        let u = in_block_lem y 0 e.col a in
        let u₀ = u.0 in
        let u₁ = u.1 in
        let here : e.col ≡ sheet_row y 0 (e.col - row_start y 0) = omega arith in
        ap (λ (x : ℕ). x - row_start y 1)
        (f (e.col - row_start y 0) (omega arith)
        ((and-eq-true_iff (eqb e.col (sheet_row y 0 (e.col - row_start y 0))) (in_block y 1 e.row)).1 (eq-eqb e.col (sheet_row y 0 (e.col - row_start y 0)) here, b))))
        sheet.zz
        (each_swap (λ c e. of_column y 1 0 c e ≡ true → e.row ≡ row_of (of_column y 1 0 c) sheet.zz) (levels y 0) sheet.zz
        (λ c b. row_sole (of_column y 1 0 c) sheet.zz (omega (arith, k.each_once q c b))))
    go false q = each_map (λ e. Unit {0}) (λ e. Sole y (entry_row_in sheet y) e.col e.row) (λ e t g a b. absurd (true_false g q)) sheet.zz (units sheet.zz)
      where
        units : (l : List Entry) → Each (λ e. Unit {0}) l
        units [] = tt
        units (e ∷ l) = (tt, units l)

-- ---- rising entries are no more than the cells of the sheet's square

fill_square : (q col row : ℕ) → col < q → row < q → col * q + row < q * q
fill_square q col row h g = let a : col + 1 ≤ q = omega arith in omega (arith, mul-le-mul_right q a)

rise_square : (q : ℕ) (a b : Entry) → a.row < q → Earlier a b → a.col * q + a.row < b.col * q + b.row
rise_square q a b h e =
    ⊎_elim (λ l. let u : a.col + 1 ≤ b.col = omega arith in omega (arith, mul-le-mul_right q u)) (λ l. let u : a.col * q ≡ b.col * q = ap (λ (x : ℕ). x * q) l.0 in let v = l.1 in omega arith) e

few_from : (q : ℕ) (e : Entry) (l : List Entry) → Each (EntryInRange q) (e ∷ l) → Rising (e ∷ l) → length (e ∷ l) + (e.col * q + e.row) ≤ q * q
few_from q e [] a r = omega (arith, fill_square q e.col e.row a.0.col a.0.row)
few_from q e (x ∷ l) a r = omega (arith, few_from q x l a.1 r.1, rise_square q e x a.0.row r.0.0)

pub few_entries : (q : ℕ) (l : List Entry) → Each (EntryInRange q) l → Rising l → length l ≤ q * q
few_entries q [] a r = omega arith
few_entries q (e ∷ l) a r = omega (arith, few_from q e l a r)
