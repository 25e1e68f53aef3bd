-- `replace_response` (document 01, Record 3): a new response for the old in the loaded numbers, progress none; no working double is touched.
use Rattle.std.specs.Prelude.{ℕ, ◌≡◌, eqb, length, get_or, Float}
use Rattle.std.proofs.Math.Bool.{cond}
use mathlib.Core.List.{List, [], ◌∷◌, ◌++◌}
use Rattle.storage.specs.Shape.{fill}
use Rattle.storage.specs.Part.{store}
use Rattle.rules.specs.Arithmetic.{ieee}
use Rattle.layout.specs.declared.Layout.{Layout}
use Rattle.layout.specs.Shapes.{Target, target, pick, across, loaded_shape, loaded_at, response_row}
use Rattle.heading_format.specs.Heading.{layout_of, entry_row, valid_heading, idle}
use Rattle.workspace.specs.Memory.{cell_of, loaded_block, heading_with}
use Rattle.workspace.specs.Answers.{Outcome, accept, unchanged, untouched, lengths, length_fault, word_fault, list_fault, unless_refused}
use Rattle.workspace.specs.Loaded.{sheet_row}

-- Z'y by sheet rows, X'y, and y'y, a list of one number
pub record Response : Type 0 where
  pub zy : List Float
  pub xy : List Float
  pub yy : List Float

abbrev pub response : List Float → List Float → List Float → Response
response zy xy yy = record { zy = zy; xy = xy; yy = yy }

-- its lists by their numbers 0, 1, 2, and the lengths that a layout prescribes
abbrev pub lists_of : Response → List (List Float)
lists_of r = r.zy ∷ r.xy ∷ r.yy ∷ []

abbrev pub response_lengths : Layout → List ℕ
response_lengths y = y.q ∷ y.p ∷ 1 ∷ []

-- a response of these lengths
abbrev pub Prescribed : Layout → Response → Type 0
Prescribed y r = lengths (lists_of r) ≡ response_lengths y

-- the response's row of the last block: y'y in its corner, X'y left of it, Z'y in the fixed rows of block j
abbrev pub response_cell : Layout → Response → ℕ → ℕ → Float
response_cell y r j c =
    pick (eqb j y.k) (cond (eqb c (response_row y)) (get_or r.yy 0 ieee.zero) (get_or r.xy c ieee.zero)) (get_or r.zy (sheet_row y j c) ieee.zero)

module _ (h : List ℕ) (w : List Float) (new : Response) where
  -- loaded block (k, j) with the new response in its row
  unfoldable pub responded_block : ℕ → List Float
  unfolding loaded_shape
  responded_block j =
      let y = layout_of h in
      let s = loaded_shape y (entry_row h) y.k j in
      fill s (λ r c. cond (eqb r (response_row y)) (response_cell y new j c) (cell_of s (loaded_block h w y.k j) r c))

  -- all blocks (k, j)
  unfoldable pub store_response : List Target → List Float → List Float
  unfolding responded_block loaded_at
  store_response [] v = v
  store_response (t ∷ l) v = store_response l (store (loaded_at (layout_of h) t.row t.col) (responded_block t.col) v)

  unfoldable pub responded : Outcome
  unfolding store_response across
  responded =
      let k = (layout_of h).k in
      accept (heading_with h (idle k)) (store_response (across k k ++ (target k k ∷ [])) w)

  -- 20; 13, every length first; 14
  unfoldable pub replace_of : Outcome
  unfolding valid_heading length_fault word_fault responded
  replace_of =
      pick (valid_heading h (length w)) (unless_refused (list_fault (response_lengths (layout_of h)) (lists_of new)) (unchanged h w) responded) (untouched h w 20 0 0)
