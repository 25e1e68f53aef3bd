-- Where C accepts, no pivot of the factor that stands there afterwards is 0 of either sign (document 01, Record 4).
use Prim.Native.Nat.{ℕ, ◌<◌}
use mathlib.Core.Path.{◌≡◌, sym, ap, ◌∙◌}
use mathlib.Core.Bool.{false}
use mathlib.Core.List.{List}
use native.Mathlib.Omega.{arith}
use lib.ListN.{length}
use lib.Ieee.{Float}
use Rattle.storage.specs.Shape.{size_of, fill}
use Rattle.storage.specs.Part.{part, store}
use Rattle.storage.specs.declared.Block.{Block}
use Rattle.storage.specs.Placed.{Placed, as_triangle, as_diagonal, Lies, read, put}
use Rattle.storage.proofs.Starts.{start_single}
use Rattle.storage.proofs.Parts.{length_part, part_same}
use Rattle.storage.proofs.Blocks.{length_fill}
use Rattle.rules.specs.Arithmetic.{ieee}
use Rattle.rules.specs.Cholesky.{factor}
use Rattle.rules.proofs.Doubles.{Double}
use Rattle.std.specs.Prelude.{Ok}
use Rattle.re_lower.proofs.Blocks.{store_whole}
use Rattle.re_lower.proofs.Pivotal.{triangle_never_null, diagonal_never_null}
use Rattle.re_factor.specs.Factor.{pivot_at, TriangleFactored, DiagonalFactored}

-- each of the first n pivots of a block is a double
abbrev pub Doubles : Placed → ℕ → List Float → Type 0
Doubles p n w = (r : ℕ) → r < n → Double (pivot_at p w r)

-- none of them is 0
abbrev pub NoneNull : Placed → ℕ → List Float → Type 0
NoneNull p n w = (r : ℕ) → r < n → ieee.null (pivot_at p w r) ≡ false

-- a whole block is stored: the part where it lies, as a list of its own
stored_block : (p : Placed) (f : ℕ → ℕ → Float) (w w' : List Float) → Lies (length w) p → w' ≡ put p f w
    → part p.at (size_of p.shape) w' ≡ store 0 (fill p.shape f) (part p.at (size_of p.shape) w)
stored_block p f w w' h e =
    let k : length (fill p.shape f) ≡ size_of p.shape = length_fill p.shape f in
    ap (part p.at (size_of p.shape)) e ∙ part_same p.at (fill p.shape f) w (omega arith) (size_of p.shape) k
    ∙ sym (store_whole (fill p.shape f) (part p.at (size_of p.shape) w) (omega (arith, length_part p.at (size_of p.shape) w h)))

module _ (b : Block) (w w' : List Float) where
  -- a packed triangle
  pub triangle_factor : Lies (length w) (as_triangle b) → Doubles (as_triangle b) b.rows w → TriangleFactored b w w' (Ok tt) → NoneNull (as_triangle b) b.rows w'
  triangle_factor h doubles c =
      let p : Placed = as_triangle b in
      triangle_never_null (part p.at (size_of p.shape) w) (part p.at (size_of p.shape) w') b.rows (omega (arith, length_part p.at (size_of p.shape) w h)) doubles
      record { answer = c.answer; left = stored_block p (factor ieee (read p w) b.rows) w w' h c.exit }

  -- a diagonal
  pub diagonal_factor : Lies (length w) (as_diagonal b) → Doubles (as_diagonal b) b.rows w → DiagonalFactored b w w' (Ok tt) → NoneNull (as_diagonal b) b.rows w'
  diagonal_factor h doubles c =
      let p : Placed = as_diagonal b in
      diagonal_never_null (part p.at (size_of p.shape) w) (part p.at (size_of p.shape) w') b.rows (omega (arith, length_part p.at (size_of p.shape) w h, start_single b.rows)) doubles
      record { answer = c.answer; left = stored_block p (λ r x. ieee.root (pivot_at p w r)) w w' h c.exit }
