-- The solve inside a factor: how many rows it has, and that it looks at no others.
use Prim.Native.Nat.{ℕ, ◌<◌}
use mathlib.Core.Path.{◌≡◌, refl, ap, subst, ◌∙◌}
use mathlib.Core.List.{List}
use mathlib.Core.Logic.{◌⊎◌, inl, inr, ⊎_elim}
use native.Mathlib.Omega.{arith}
use lib.ListN.{length}
use lib.Ieee.{Float}
use Rattle.storage.specs.Runs.{tab}
use Rattle.storage.specs.Shape.{Shape, packed, diagonal}
use Rattle.storage.proofs.Cells.{length_tab, tab_ext}
use Rattle.rules.specs.Arithmetic.{ieee}
use Rattle.rules.specs.Cholesky.{forward}
use Rattle.rules.specs.Solves.{backward}
use Rattle.rules.proofs.Rows.{length_forward}
use Rattle.re_lower.proofs.Laws.{forward_ext}
use Rattle.re_lower.proofs.Back.{length_backward, backward_ext}
use Rattle.layout.specs.declared.Layout.{Layout}
use Rattle.layout.specs.declared.FactorKind.{FactorKind}
use Rattle.layout.specs.declared.FactorKind.TheVariants.{Diagonal, Packed}
use Rattle.layout.specs.Shapes.{levels, factor_kind, shape}
use Rattle.heading_format.specs.Heading.{layout_of, entry_row}
use Rattle.workspace.specs.Memory.{cell_of}
use Rattle.block_places.proofs.block_kinds.Shapes.{factor_shape_lem, rows_level}
use Rattle.profile.specs.Solves.{forward_in, backward_in, factor_shape_of}

-- a factor of n rows: a diagonal or a triangle
abbrev Factor : Shape → ℕ → Type 0
Factor s n = (s ≡ diagonal n) ⊎ (s ≡ packed n)

pub factor_at : (h : List ℕ) (w : List Float) (y : Layout) → y ≡ layout_of h → (i : ℕ) → i < y.k → Factor (factor_shape_of h w i) (levels y i)
factor_at h w y e i l = subst (λ (x : Layout). Factor (shape x (entry_row h) i i) (levels y i)) e (go (factor_kind y i) refl)
  where
    go : (d : FactorKind) → factor_kind y i ≡ d → Factor (shape y (entry_row h) i i) (levels y i)
    go Diagonal e = inl (factor_shape_lem y (entry_row h) i (λ q. omega arith) e ∙ ap diagonal (rows_level y i l))
    go Packed e = inr (factor_shape_lem y (entry_row h) i (λ q. omega arith) e ∙ ap packed (rows_level y i l))

-- a solve that makes n rows of those alone
pub record Inside (n : ℕ) (solve : (ℕ → Float) → List Float) : Type 0 where
  pub long : (v : ℕ → Float) → length (solve v) ≡ n
  pub local : (v v' : ℕ → Float) → ((x : ℕ) → x < n → v x ≡ v' x) → solve v ≡ solve v'

module _ (s : Shape) (n : ℕ) (is : Factor s n) (f : List Float) where
  divides : Inside n (λ v. tab n (λ c. ieee.over (v c) (cell_of (diagonal n) f c c)))
  divides =
      record {
        long = λ v. length_tab n _;
        local = λ v v' h. tab_ext n _ _ (λ c l. ap (λ (x : Float). ieee.over x (cell_of (diagonal n) f c c)) (h c l));
      }

  forwards : Inside n (λ v. forward ieee v (cell_of (packed n) f) n)
  forwards = record { long = λ v. length_forward ieee v _ n; local = λ v v' h. forward_ext ieee v v' _ _ n h (λ r c l m. refl) }

  backwards : Inside n (λ v. backward ieee v (cell_of (packed n) f) n n)
  backwards = record { long = λ v. length_backward ieee v _ n n; local = λ v v' h. backward_ext ieee v v' _ _ n n (omega arith) h (λ r c l m. refl) }

  pub forward_inside : Inside n (forward_in s f)
  forward_inside = ⊎_elim (λ e. rw e divides) (λ e. rw e forwards) is

  pub backward_inside : Inside n (backward_in s f)
  backward_inside = ⊎_elim (λ e. rw e divides) (λ e. rw e backwards) is
