-- A factor's shape, and where a cell of any block lies, ask nothing of the rows of sparse entries.
use Prim.Native.Nat.{ℕ}
use mathlib.Core.Path.{◌≡◌, refl}
use mathlib.Core.Bool.{Bool, true, false, ◌&&◌}
use mathlib.Core.List.{List}
use lib.Dec.{ltb, eqb}
use borrow.Author.Tests.{eq-eqb}
use Rattle.storage.specs.Shape.{Shape, cell}
use Rattle.layout.specs.declared.Layout.{Layout}
use Rattle.layout.specs.Shapes.{pick, shape, loaded_shape}

-- two choices by one test are equal where what is chosen is equal
pub pick_ext : {A : Type 0} (b : Bool) (s s' t t' : A) → (b ≡ true → s ≡ s') → (b ≡ false → t ≡ t') → pick b s t ≡ pick b s' t'
pick_ext true s s' t t' p q = p refl
pick_ext false s s' t t' p q = q refl

-- so are two chosen functions, at one place
pub pick_at : {A B : Type 0} (b : Bool) (f f' g g' : A → B) (x : A) → (b ≡ true → f x ≡ f' x) → (b ≡ false → g x ≡ g' x) → pick b f g x ≡ pick b f' g' x
pick_at true f f' g g' x p q = p refl
pick_at false f f' g g' x p q = q refl

-- two choices of a shape are read alike where what is chosen is
cell_pick : {A : Type 0} (d : A) (b : Bool) (s s' t t' : Shape) (l : List A) → cell d s l ≡ cell d s' l → cell d t l ≡ cell d t' l
    → cell d (pick b s t) l ≡ cell d (pick b s' t') l
cell_pick d true s s' t t' l p q = p
cell_pick d false s s' t t' l p q = q

module _ (y : Layout) (row row' : ℕ → ℕ) where
  -- a factor's shape asks no rows
  pub shape_factor : (j : ℕ) → shape y row j j ≡ shape y row' j j
  unfolding shape
  shape_factor j = rw (eq-eqb j j refl) refl

  -- where a cell of a working or a loaded block lies asks no rows either
  pub cell_shape : {A : Type 0} (d : A) (i j : ℕ) (l : List A) → cell d (shape y row i j) l ≡ cell d (shape y row' i j) l
  unfolding shape
  cell_shape d i j l = cell_pick d (eqb i y.k) _ _ _ _ l refl (cell_pick d (eqb i j) _ _ _ _ l refl (cell_pick d y.sparse _ _ _ _ l refl refl))

  pub cell_loaded : {A : Type 0} (d : A) (i j : ℕ) (l : List A) → cell d (loaded_shape y row i j) l ≡ cell d (loaded_shape y row' i j) l
  unfolding loaded_shape
  cell_loaded d i j l = cell_pick d (eqb i j && ltb j y.k) _ _ _ _ l refl (cell_shape d i j l)
