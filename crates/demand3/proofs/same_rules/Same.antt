-- A workspace with the layout, the sparse rows and the loaded numbers of a sheet has the rules of a freshly loaded one, and begin starts its blocks alike.
use Prim.Native.Nat.{ℕ, ◌+◌, ◌<◌, ◌≤◌}
use mathlib.Core.Path.{◌≡◌, refl, sym, ap, ◌∙◌}
use mathlib.Core.Bool.{Bool, true}
use mathlib.Core.List.{List, ◌++◌}
use native.Mathlib.Omega.{arith}
use lib.ListN.{length, take, drop, take-append-drop}
use lib.Ieee.{Float}
use Rattle.storage.specs.Shape.{Shape, packed, diagonal, columns, entries, size_of}
use Rattle.storage.specs.Part.{part}
use Rattle.storage.proofs.Blocks.{length_fill}
use Rattle.storage.proofs.Parts.{part_left}
use Rattle.step_order.specs.Steps.{Step, S, C, T, IsStep, row, col}
use Rattle.step_order.specs.Progress.{State, made, summed, refused_now}
use Rattle.sheet.specs.Sheet.{Sheet}
use Rattle.layout.specs.declared.Layout.{Layout}
use Rattle.heading_format.specs.declared.Progress.{Progress}
use Rattle.layout.specs.Shapes.{levels, shape, loaded_shape, sizes, loaded_sizes, loaded_length, loaded_at}
use Rattle.heading_format.specs.Heading.{layout_of, stage_of, entry_row}
use Rattle.layout.proofs.Places.{size_working, size_loaded, loaded_inside}
use Rattle.layout.proofs.Rows.{shape_factor}
use Rattle.workspace.specs.Memory.{Workspace, loaded_block, loaded_some, working_block, log_sum, zeros}
use Rattle.workspace.specs.Load.{heading_of}
use Rattle.update.specs.Working.{factored, refused_row, solved, subtracted, logged, scaled}
use Rattle.update.specs.Calls.{made_by, sum_by, refused_by}
use Rattle.book.specs.Book.{layout, last}
use Rattle.book.specs.Values.{rules_here, start_here}
use Rattle.update.proofs.Lengths.{length_solved}
use Rattle.demand3.proofs.same_rules.Rows.{some_of, some_rows, solved_rows_lem, logged_rows, subtracted_rows, scaled_rows}

-- ---- what a rule makes is as long as its shape says, if the block was

-- S always fills its target's shape
length_subtracted : (y : Layout) (row : ℕ → ℕ) (loaded : ℕ → ℕ → Bool) (i j h : ℕ) (t a b : List Float)
    → length (subtracted y row loaded i j h t a b) ≡ size_of (shape y row i j)
unfolding subtracted
length_subtracted y row loaded i j h t a b = length_fill (shape y row i j) _

-- C fills a triangle or a diagonal, and leaves any other block
length_factored : (s : Shape) (b : List Float) → length b ≡ size_of s → length (factored s b) ≡ size_of s
unfolding factored
length_factored (packed n) b e = length_fill (packed n) _
length_factored (diagonal n) b e = length_fill (diagonal n) _
length_factored (columns rows cols) b e = e
length_factored (entries cols row) b e = e

module _ (sheet : Sheet) where
  -- the workspace v as the order theorem sees an update: the stages of g, the working blocks, the logarithms' sum
  abbrev pub state_of : (loaded theta : List Float) → Workspace → Progress → State (rules_here sheet loaded theta)
  state_of loaded theta v g = record { stage = stage_of g; block = working_block v.heading v.doubles; sum = log_sum v.heading v.doubles }

  -- v has the sheet's layout and sparse rows, and these loaded numbers
  pub record Alike (loaded : List Float) (v : Workspace) : Type 0 where
    pub same_layout : layout_of v.heading ≡ layout sheet
    pub same_rows : (layout sheet).sparse ≡ true → (c : ℕ) → c < levels (layout sheet) 0 → entry_row v.heading c ≡ entry_row (heading_of sheet (layout sheet)) c
    pub same_loaded : take (loaded_length (layout sheet)) v.doubles ≡ loaded
    pub many : length loaded ≡ loaded_length (layout sheet)
    -- the heading of a fresh workspace has the sheet's layout
    pub fresh_layout : layout_of (heading_of sheet (layout sheet)) ≡ layout sheet
    -- only a pair of two blocks is sparse
    pub two : (layout sheet).sparse ≡ true → (layout sheet).k ≡ 2

  module _ (loaded theta : List Float) (v : Workspace) (a : Alike loaded v) (g : Progress) where
    -- the sheet's layout, heading and doubles of v, and those of a fresh workspace
    abbrev y : Layout
    y = layout sheet

    abbrev h : List ℕ
    h = v.heading

    abbrev h' : List ℕ
    h' = heading_of sheet (layout sheet)

    abbrev w : List Float
    w = v.doubles

    abbrev w' : List Float
    w' = loaded ++ zeros (layout sheet)

    -- What is the same at the sheet's layout is the same at the layouts of the two headings.
    at_layout : {A : Type 0} (F F' : Layout → (ℕ → ℕ) → A) → F y (entry_row h) ≡ F' y (entry_row h') → F (layout_of h) (entry_row h) ≡ F' (layout_of h') (entry_row h')
    at_layout F F' e =
        ap (λ (x : Layout). F x (entry_row h)) a.same_layout ∙ e ∙ sym (ap (λ (x : Layout). F' x (entry_row h')) a.fresh_layout)

    -- a part of the loaded doubles is the same in both
    part_loaded : (off n : ℕ) → off + n ≤ loaded_length y → part off n w ≡ part off n w'
    part_loaded off n l =
        let fits : off + n ≤ length loaded = omega (arith, a.many) in
        let rest : List Float = drop (loaded_length y) w in
        ap (part off n) (sym (take-append-drop (loaded_length y) w) ∙ ap (λ (x : List Float). x ++ rest) a.same_loaded)
        ∙ part_left loaded rest off n fits ∙ sym (part_left loaded (zeros y) off n fits)

    -- so is a loaded block
    pub loaded_same : (i j : ℕ) → j ≤ i → i ≤ last sheet
        → loaded_block v.heading v.doubles i j ≡ loaded_block (heading_of sheet (layout sheet)) (loaded ++ zeros (layout sheet)) i j
    loaded_same i j l m =
        at_layout (λ x row. part (loaded_at x i j) (size_of (loaded_shape x row i j)) w) (λ x row. part (loaded_at x i j) (size_of (loaded_shape x row i j)) w')
        (ap (λ (n : ℕ). part (loaded_at y i j) n w) (size_loaded y (entry_row h) i j) ∙ part_loaded (loaded_at y i j) (loaded_sizes y i j) (loaded_inside y i j l m)
        ∙ sym (ap (λ (n : ℕ). part (loaded_at y i j) n w') (size_loaded y (entry_row h') i j)))

    -- the cells of pair (1,0) that were loaded non-zero, where there is such a pair
    some_same : 1 ≤ last sheet → loaded_some h w ≡ loaded_some h' w'
    some_same l =
        at_layout (λ x row. some_of x row (loaded_block h w 1 0)) (λ x row. some_of x row (loaded_block h' w' 1 0))
        (some_rows y (entry_row h) (entry_row h') a.same_rows (loaded_block h w 1 0) ∙ ap (some_of y (entry_row h')) (loaded_same 1 0 (omega arith) l))

    -- a block's size by the heading of v
    size_here : (i j : ℕ) → size_of (shape (layout_of h) (entry_row h) i j) ≡ sizes y i j
    size_here i j = ap (λ (x : Layout). size_of (shape x (entry_row h) i j)) a.same_layout ∙ size_working y (entry_row h) i j

    -- C makes the same factor of a block
    factored_same : (j : ℕ) (b : List Float) → factored (shape (layout_of h) (entry_row h) j j) b ≡ factored (shape (layout_of h') (entry_row h') j j) b
    factored_same j b =
        at_layout (λ x row. factored (shape x row j j) b) (λ x row. factored (shape x row j j) b)
        (ap (λ (d : Shape). factored d b) (shape_factor y (entry_row h) (entry_row h') j))

    -- a step makes the same block by the rules of v as by those of a fresh workspace
    pub made_same : (s : Step) → IsStep (last sheet) s → made_by v.heading v.doubles s ≡ made (rules_here sheet loaded theta) s (state_of loaded theta v g)
    unfolding made_by
    made_same (S i j x) n =
        let t = working_block h w i j in
        let p = working_block h w i x in
        let q = working_block h w j x in
        at_layout (λ z row. subtracted z row (loaded_some h w) i j x t p q) (λ z row. subtracted z row (loaded_some h' w') i j x t p q)
        (subtracted_rows y (entry_row h) (entry_row h') a.same_rows (loaded_some h w) i j x t p q a.two n.0 n.1 n.2
        ∙ ap (λ (f : ℕ → ℕ → Bool). subtracted y (entry_row h') f i j x t p q) (some_same (omega (arith, n.0, n.1, n.2))))
    made_same (C j) n = factored_same j (working_block h w j j)
    made_same (T i j) n =
        let t = working_block h w i j in
        let f = working_block h w j j in
        at_layout (λ z row. solved (shape z row i j) (shape z row j j) t f) (λ z row. solved (shape z row i j) (shape z row j j) t f)
        (solved_rows_lem y (entry_row h) (entry_row h') a.same_rows i j t f)

    -- and the same sum of logarithms
    pub sum_same : (s : Step) → IsStep (last sheet) s → sum_by v.heading v.doubles s ≡ summed (rules_here sheet loaded theta) s (state_of loaded theta v g)
    unfolding sum_by
    sum_same (S i j x) n = refl
    sum_same (C j) n =
        let f = factored (shape (layout_of h) (entry_row h) j j) (working_block h w j j) in
        at_layout (λ z row. logged z row (loaded_some h w) j (log_sum h w) f) (λ z row. logged z row (loaded_some h' w') j (log_sum h w) f)
        (logged_rows y (entry_row h) (entry_row h') a.same_rows (loaded_some h w) (loaded_some h' w') j (log_sum h w) f)
        ∙ ap (logged (layout_of h') (entry_row h') (loaded_some h' w') j (log_sum h w)) (factored_same j (working_block h w j j))
    sum_same (T i j) n = refl

    -- and refuses the same pivot
    pub refused_same : (s : Step) → IsStep (last sheet) s → refused_by v.heading v.doubles s ≡ refused_now (rules_here sheet loaded theta) s (state_of loaded theta v g)
    unfolding refused_by
    refused_same (S i j x) n = refl
    refused_same (C j) n =
        let b = working_block h w j j in
        at_layout (λ z row. refused_row (shape z row j j) b) (λ z row. refused_row (shape z row j j) b)
        (ap (λ (d : Shape). refused_row d b) (shape_factor y (entry_row h) (entry_row h') j))
    refused_same (T i j) n = refl

    -- what a step makes is as long as its target, where the target's own block is
    pub made_length : (s : Step) → IsStep (last sheet) s → length (working_block v.heading v.doubles (row s) (col s)) ≡ sizes (layout sheet) (row s) (col s)
        → length (made_by v.heading v.doubles s) ≡ sizes (layout sheet) (row s) (col s)
    unfolding made_by
    made_length (S i j x) n e =
        length_subtracted (layout_of h) (entry_row h) (loaded_some h w) i j x (working_block h w i j) (working_block h w i x) (working_block h w j x) ∙ size_here i j
    made_length (C j) n e = length_factored (shape (layout_of h) (entry_row h) j j) (working_block h w j j) (e ∙ sym (size_here j j)) ∙ size_here j j
    made_length (T i j) n e =
        length_solved (shape (layout_of h) (entry_row h) i j) (shape (layout_of h) (entry_row h) j j) (working_block h w i j) (working_block h w j j) (e ∙ sym (size_here i j))
        ∙ size_here i j

    -- begin writes the same block
    pub scaled_same : (i j : ℕ) → j ≤ i → i ≤ last sheet
        → scaled (layout_of v.heading) (entry_row v.heading) (loaded_some v.heading v.doubles) theta i j
        (loaded_block v.heading v.doubles i j)
        ≡ start_here sheet loaded theta i j
    scaled_same i j l m =
        at_layout (λ z row. scaled z row (loaded_some h w) theta i j (loaded_block h w i j))
        (λ z row. scaled z row (loaded_some h' w') theta i j (loaded_block h' w' i j))
        (scaled_rows y (entry_row h) (entry_row h') a.same_rows (loaded_some h w) (loaded_some h' w') theta i j (loaded_block h w i j)
        ∙ ap (scaled y (entry_row h') (loaded_some h' w') theta i j) (loaded_same i j l m))
