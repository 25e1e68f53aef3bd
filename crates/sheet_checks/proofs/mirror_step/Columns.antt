-- The cursors of the columns through a pass: each turn, what is faulty where a mirror does not come, and what holds at the end.
use Prim.Native.Nat.{ℕ, ◌+◌, ◌<◌, ◌≤◌}
use mathlib.Core.Path.{◌≡◌, refl, sym, ◌∙◌, ap, subst}
use mathlib.Core.Logic.{◌⊎◌, inl, inr, ⊎_elim, by_cases}
use mathlib.Core.Bool.{Bool, true, false}
use native.Mathlib.Omega.{arith}
use native.Mathlib.Decide.{dec_lt}
use borrow.Author.Tests.{ltb-true, ltb-false}
use lib.Dec.{ltb}
use Rattle.sheet.specs.Run.{Entry}
use Rattle.sheet.specs.Fault.{Mirror}
use Rattle.sheet.specs.Whole.{Earlier}
use Rattle.sheet_checks.specs.mirror_cursor.Columns.{Below, Above, Mirrored, Column}

-- ---- order
col_rises : (a b : Entry) → Earlier a b → a.col ≤ b.col
col_rises a b (inl h) = omega arith
col_rises a b (inr h) = omega (arith, h.0)

row_rises : (a b : Entry) → Earlier a b → a.col ≡ b.col → a.row < b.row
row_rises a b (inl h) e = absurd (omega arith)
row_rises a b (inr h) e = h.1

same_row : (a b : Entry) → Earlier a b → a.row ≡ b.row → a.col < b.col
same_row a b (inl h) e = h
same_row a b (inr h) e = absurd (omega (arith, h.1))

-- the last of i + 1 indexes, or one before it
pub last_or_before : (t i : ℕ) → t < i + 1 → (t < i) ⊎ (t ≡ i)
last_or_before t i h = by_cases (dec_lt t i) inl (λ l. inr (omega arith))

mirror_back : (a b : Entry) → Mirror a b → Mirror b a
mirror_back a b m = record { col = sym m.row; row = sym m.col; word = sym m.word }

-- no entry is a mirror of entry t
abbrev pub Unmirrored : (ℕ → Entry) → ℕ → ℕ → Type 0
Unmirrored e n t = (u : ℕ) → u < n → Mirror (e t) (e u) → ⊥

-- n entries that rise by column, then row, and start at rising places; behind them is the end
pub record InOrder (e : ℕ → Entry) (place : ℕ → ℕ) (n : ℕ) : Type 0 where
  pub rises : (a b : ℕ) → a < b → b < n → Earlier (e a) (e b)
  pub later : (a b : ℕ) → a < b → b ≤ n → place a < place b

module _ {e : ℕ → Entry} {place : ℕ → ℕ} {n : ℕ} (order : InOrder e place n) where
  -- from entry i on no column is smaller, so that an earlier column has the smaller index; one column and row has one index
  col_later : (i u : ℕ) → i ≤ u → u < n → (e i).col ≤ (e u).col
  col_later i u h k = go (last_or_before i u (omega arith))
    where
      go : (i < u) ⊎ (i ≡ u) → (e i).col ≤ (e u).col
      go (inl g) = col_rises (e i) (e u) (order.rises i u g k)
      go (inr g) = let q : (e i).col ≡ (e u).col = ap (λ (x : ℕ). (e x).col) g in omega arith

  col_before : (a b : ℕ) → a < n → (e a).col < (e b).col → a < b
  col_before a b g k = by_cases (dec_lt a b) (λ l. l) (λ l. absurd (omega (arith, col_later b a (omega arith) g)))

  one_index : (a b : ℕ) → a < n → b < n → (e a).col ≡ (e b).col → (e a).row ≡ (e b).row → a ≡ b
  one_index a b g h c r =
      by_cases (dec_lt a b) (λ l. absurd (omega (arith, row_rises (e a) (e b) (order.rises a b l h) c)))
      (λ l. by_cases (dec_lt b a) (λ m. absurd (omega (arith, row_rises (e b) (e a) (order.rises b a m g) (sym c)))) (λ m. omega arith))

  -- ---- the turns
  pub column_start : (first j : ℕ) → 0 < n → Column e place n 0 first 0 j (place 0)
  column_start first j h =
      record {
        x = 0;
        here = refl;
        near = omega arith;
        within = h;
        met = λ t g k b. absurd (omega arith);
        behind = λ u g k b. absurd (omega arith);
        ahead = λ t g k b u l a. absurd (omega arith);
        passed = λ t g b u k l a. absurd (omega arith);
        started = λ g. absurd (omega arith);
        unstarted = λ g t k b. absurd (omega arith);
      }

  module _ {i first due j y : ℕ} (c : Column e place n i first due j y) where
    -- of fewer entries less is said
    unfoldable pub column_less : (less : ℕ) → less ≤ first → Column e place n i less due j y
    column_less less h =
        record {
          x = c.x;
          here = c.here;
          near = c.near;
          within = c.within;
          met = λ t g k b. c.met t g (omega arith) b;
          behind = λ u g k b. c.behind u g (omega arith) b;
          ahead = c.ahead;
          passed = c.passed;
          started = c.started;
          unstarted = c.unstarted;
        }

    -- one entry more: what was said of those before it, and is of it
    behind_on : (place i < first → Above j (e i) → Mirrored e n i) → (u : ℕ) → u < i + 1 → place u < first → Above j (e u) → Mirrored e n u
    behind_on new u g k a =
        ⊎_elim (λ h. c.behind u h k a)
        (λ h. subst (λ (v : ℕ). Mirrored e n v) (sym h) (new (subst (λ (v : ℕ). place v < first) h k) (subst (λ (v : ℕ). Above j (e v)) h a)))
        (last_or_before u i g)

    ahead_on : (t : ℕ) → c.x ≤ t → t < n → Below j (e t) → (Above j (e i) → (e i).col < (e t).row) → (u : ℕ) → u < i + 1 → Above j (e u) → (e u).col < (e t).row
    ahead_on t g k b new u l a =
        ⊎_elim (λ h. c.ahead t g k b u h a)
        (λ h. subst (λ (v : ℕ). (e v).col < (e t).row) (sym h) (new (subst (λ (v : ℕ). Above j (e v)) h a))) (last_or_before u i l)

    unstarted_on : (due ≤ j → Below j (e i) → ⊥) → due ≤ j → (t : ℕ) → t < i + 1 → Below j (e t) → ⊥
    unstarted_on new d t g b = ⊎_elim (λ h. c.unstarted d t h b) (λ h. new d (subst (λ (v : ℕ). Below j (e v)) h b)) (last_or_before t i g)

    -- an entry that concerns another column, or no column that is due
    pub column_on : (Above j (e i) → ⊥) → (due ≤ j → Below j (e i) → ⊥) → Column e place n (i + 1) first due j y
    column_on above below =
        record {
          x = c.x;
          here = c.here;
          near = omega arith;
          within = c.within;
          met = c.met;
          behind = behind_on (λ k a. absurd (above a));
          ahead = λ t g k b. ahead_on t g k b (λ a. absurd (above a));
          passed = λ t g b u k l a. c.passed t g b u (omega arith) l a;
          started = c.started;
          unstarted = unstarted_on below;
        }

    -- the first entry below the diagonal in another column
    pub column_other : (col : ℕ) → i < n → Below col (e i) → due ≤ col → (j ≡ col → ⊥) → Column e place n (i + 1) first (col + 1) j y
    unfolding column_on
    column_other col h b d other =
        let o = column_on (λ a. omega (arith, a, b)) (λ g a. other (sym a.0 ∙ b.0)) in
        record {
          x = o.x;
          here = o.here;
          near = o.near;
          within = o.within;
          met = o.met;
          behind = o.behind;
          ahead = o.ahead;
          passed = o.passed;
          started = λ g t k l w. go g t k l w (ltb j due) refl;
          unstarted = λ g t k w. o.unstarted (omega arith) t k w;
        }
      where
        go : j < col + 1 → (t : ℕ) → t < n → c.x ≤ t → Below j (e t) → (u : Bool) → ltb j due ≡ u → Below j (e c.x)
        go g t k l w true q = c.started (ltb-true j due q) t k l w
        go g t k l w false q =
            let p : j < col = split (last_or_before j col g) in
            absurd (c.unstarted (ltb-false j due q) t (col_before t i k (omega (arith, w.0, b.0))) w)
          where
            split : (j < col) ⊎ (j ≡ col) → j < col
            split (inl x) = x
            split (inr x) = absurd (other x)

    -- the first entry below the diagonal in this column: none came above it
    pub column_new : i < n → Below j (e i) → due ≤ j → Column e place n (i + 1) first (j + 1) j (place i)
    column_new h b d =
        record {
          x = i;
          here = refl;
          near = omega arith;
          within = h;
          met = λ t g k w. absurd (c.unstarted d t g w);
          behind = λ u g k w. absurd (early u g w);
          ahead = λ t g k w u l a. absurd (early u l a);
          passed = λ t g w u k l a. absurd (c.unstarted d t g w);
          started = λ g t k l w. b;
          unstarted = λ g. absurd (omega arith);
        }
      where
        early : (u : ℕ) → u < i + 1 → Above j (e u) → ⊥
        early u g w = omega (arith, col_later u i (omega arith) h, w.1, b.0)

    -- the cursor moves on from an entry below the diagonal
    next_below : Below j (e c.x) → (t : ℕ) → t < n → c.x + 1 ≤ t → Below j (e t) → Below j (e (c.x + 1))
    next_below b t k l w = go (last_or_before (c.x + 1) t (omega arith))
      where
        go : (c.x + 1 < t) ⊎ (c.x + 1 ≡ t) → Below j (e (c.x + 1))
        go (inr q) = subst (λ (v : ℕ). Below j (e v)) (sym q) w
        go (inl q) =
            let f = order.rises c.x (c.x + 1) (omega arith) (omega arith) in
            let p = col_later (c.x + 1) t l k in
            let same : (e c.x).col ≡ (e (c.x + 1)).col = omega (arith, col_rises (e c.x) (e (c.x + 1)) f, b.0, w.0) in
            (omega (arith, b.0), omega (arith, row_rises (e c.x) (e (c.x + 1)) f same, b.1))

    -- entry i above the diagonal
    module _ (h : i < n) (a : Above j (e i)) where
      cursor_before : (e c.x).col ≡ j → c.x < i
      cursor_before b = col_before c.x i c.within (omega (arith, a.1))

      -- the entry at the cursor is at a row that entry i is past: nothing is said of it
      pub column_skip : Below j (e c.x) → (e c.x).row < (e i).col → first ≤ place c.x → Column e place n i first due j (place (c.x + 1))
      column_skip b r f =
          let low : c.x < i = cursor_before b.0 in
          record {
            x = c.x + 1;
            here = refl;
            near = omega arith;
            within = omega arith;
            met = λ t g k w. done t k w (last_or_before t c.x g);
            behind = c.behind;
            ahead = λ t g k w u l v. c.ahead t (omega arith) k w u l v;
            passed = λ t g w u k l v. gone t w u k l v (last_or_before t c.x g);
            started = λ g t k l w. next_below b t k l w;
            unstarted = c.unstarted;
          }
        where
          done : (t : ℕ) → place t < first → Below j (e t) → (t < c.x) ⊎ (t ≡ c.x) → Mirrored e n t
          done t k w (inl g) = c.met t g k w
          done t k w (inr g) = let q : place t ≡ place c.x = ap place g in absurd (omega arith)

          gone : (t : ℕ) → Below j (e t) → (u : ℕ) → i ≤ u → u < n → Above j (e u) → (t < c.x) ⊎ (t ≡ c.x) → (e t).row < (e u).col
          gone t w u k l v (inl g) = c.passed t g w u k l v
          gone t w u k l v (inr g) = let q : (e t).row ≡ (e c.x).row = ap (λ (m : ℕ). (e m).row) g in omega (arith, col_later i u k l)

      -- the entry at the cursor is opposite: each is the other's mirror, or nothing is said of both
      pub column_met : (e c.x).col ≡ j → (e c.x).row ≡ (e i).col → Mirror (e i) (e c.x) ⊎ (first ≤ place c.x) → Column e place n (i + 1) first due j (place (c.x + 1))
      column_met p q m =
          let low : c.x < i = cursor_before p in
          record {
            x = c.x + 1;
            here = refl;
            near = omega arith;
            within = omega arith;
            met = λ t g k w. done t k w m (last_or_before t c.x g);
            behind = behind_on (λ k w. here k m);
            ahead = λ t g k w.
                ahead_on t (omega arith) k w (λ v. omega (arith, row_rises (e c.x) (e t) (order.rises c.x t (omega arith) k) (p ∙ sym w.0)));
            passed = λ t g w u k l v. gone t w u k l v (last_or_before t c.x g);
            started = λ g t k l w. next_below (p, omega (arith, a.1)) t k l w;
            unstarted = unstarted_on (λ g w. omega (arith, w.1, a.0));
          }
        where
          done : (t : ℕ) → place t < first → Below j (e t) → Mirror (e i) (e c.x) ⊎ (first ≤ place c.x) → (t < c.x) ⊎ (t ≡ c.x) → Mirrored e n t
          done t k w r (inl g) = c.met t g k w
          done t k w (inl r) (inr g) = (i, h, subst (λ (v : ℕ). Mirror (e v) (e i)) (sym g) (mirror_back (e i) (e c.x) r))
          done t k w (inr r) (inr g) = let s : place t ≡ place c.x = ap place g in absurd (omega arith)

          here : place i < first → Mirror (e i) (e c.x) ⊎ (first ≤ place c.x) → Mirrored e n i
          here k (inl r) = (c.x, c.within, r)
          here k (inr r) = absurd (omega (arith, order.later c.x i (cursor_before p) (omega arith)))

          gone : (t : ℕ) → Below j (e t) → (u : ℕ) → i + 1 ≤ u → u < n → Above j (e u) → (t < c.x) ⊎ (t ≡ c.x) → (e t).row < (e u).col
          gone t w u k l v (inl g) = c.passed t g w u (omega arith) l v
          gone t w u k l v (inr g) =
              let s : (e t).row ≡ (e c.x).row = ap (λ (m : ℕ). (e m).row) g in
              omega (arith, same_row (e i) (e u) (order.rises i u (omega arith) l) (a.0 ∙ sym v.0))

      -- the entry at the cursor is neither: entry i has no mirror
      module _ (apart : Below j (e c.x) → (e i).col < (e c.x).row) where
        row_ahead : (t : ℕ) → c.x ≤ t → t < n → Below j (e t) → (e i).col < (e t).row
        row_ahead t g k w = go (ltb j due) (last_or_before c.x t (omega arith)) refl
          where
            go : (b : Bool) → (c.x < t) ⊎ (c.x ≡ t) → ltb j due ≡ b → (e i).col < (e t).row
            go false s q = absurd (c.unstarted (ltb-false j due q) t (col_before t i k (omega (arith, w.0, a.1))) w)
            go true (inr s) q = subst (λ (v : ℕ). (e i).col < (e v).row) s (apart (subst (λ (v : ℕ). Below j (e v)) (sym s) w))
            go true (inl s) q =
                let b = c.started (ltb-true j due q) t k g w in
                omega (arith, apart b, row_rises (e c.x) (e t) (order.rises c.x t s k) (b.0 ∙ sym w.0))

        pub column_missing : first ≤ place i → Column e place n (i + 1) first due j y
        column_missing f =
            record {
              x = c.x;
              here = c.here;
              near = omega arith;
              within = c.within;
              met = c.met;
              behind = behind_on (λ k w. absurd (omega arith));
              ahead = λ t g k w. ahead_on t g k w (λ v. row_ahead t g k w);
              passed = λ t g w u k l v. c.passed t g w u (omega arith) l v;
              started = c.started;
              unstarted = unstarted_on (λ g w. omega (arith, w.1, a.0));
            }

        pub entry_unmirrored : Unmirrored e n i
        entry_unmirrored u g m = go (ltb u c.x) refl
          where
            b : Below j (e u)
            b = (m.col ∙ a.0, omega (arith, m.row, a.1))

            go : (p : Bool) → ltb u c.x ≡ p → ⊥
            go true q = omega (arith, c.passed u (ltb-true u c.x q) b i (omega arith) h a, m.row)
            go false q = omega (arith, row_ahead u (ltb-false u c.x q) g b, m.row)

      -- the entry at the cursor is opposite, with another word
      pub unequal_unmirrored : (e c.x).col ≡ j → (e c.x).row ≡ (e i).col → ((e c.x).word ≡ (e i).word → ⊥) → Unmirrored e n c.x
      unequal_unmirrored p q differ u g m =
          let s = one_index u i g h (m.col ∙ q) (m.row ∙ p ∙ sym a.0) in
          differ (sym m.word ∙ ap (λ (v : ℕ). (e v).word) s)

    -- every mirror that the entry at the cursor could have would have come
    pub cursor_unmirrored : Below j (e c.x) → ((u : ℕ) → u < n → Mirror (e c.x) (e u) → u < i) → Unmirrored e n c.x
    cursor_unmirrored b all u g m = omega (arith, c.ahead c.x (omega arith) c.within b u (all u g m) (m.row ∙ b.0, omega (arith, m.col, b.1)), m.col)

    pub passed_unmirrored : i < n → Below j (e c.x) → (e c.x).row < (e i).col → Unmirrored e n c.x
    passed_unmirrored h b r = cursor_unmirrored b (λ u g m. col_before u i g (omega (arith, m.col)))

  -- ---- the end: before the entry that the cursor stands at below the diagonal, all of the column's have their mirrors
  pub column_closed : {first due j y : ℕ} (c : Column e place n n first due j y) → (j < due → Below j (e c.x) → first ≤ place c.x)
      → (t : ℕ) → t < n → place t < first → Below j (e t) → Mirrored e n t
  column_closed {first} {due} {j} c low t h k b = go (ltb t c.x) (ltb j due) refl refl
    where
      go : (p q : Bool) → ltb t c.x ≡ p → ltb j due ≡ q → Mirrored e n t
      go true q x y = c.met t (ltb-true t c.x x) k b
      go false false x y = absurd (c.unstarted (ltb-false j due y) t h b)
      go false true x y =
          let d = ltb-true j due y in
          let l = ltb-false t c.x x in
          let f = low d (c.started d t h l b) in
          absurd (split f (last_or_before c.x t (omega arith)))
        where
          split : first ≤ place c.x → (c.x < t) ⊎ (c.x ≡ t) → ⊥
          split f (inl s) = omega (arith, order.later c.x t s (omega arith))
          split f (inr s) = let q : place c.x ≡ place t = ap place s in omega arith
