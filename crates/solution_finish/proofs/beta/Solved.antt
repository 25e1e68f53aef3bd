-- What the steps to beta make of a list of its own, b: a copy of the right side, solved forward and backward.
use Prim.Native.Nat.{ℕ, ◌+◌, ◌≤◌, ◌<◌}
use mathlib.Core.Path.{◌≡◌, refl, sym, ap, ◌∙◌}
use mathlib.Core.List.{List}
use native.Mathlib.Omega.{arith}
use lib.ListN.{length, take}
use lib.Ieee.{Float, nan}
use Rattle.storage.specs.Runs.{tab}
use Rattle.storage.specs.Shape.{packed}
use Rattle.storage.specs.Part.{store}
use Rattle.storage.specs.Placed.{block_of}
use Rattle.storage.proofs.Cells.{length_tab, get_or_tab, take_tab}
use Rattle.storage.proofs.Parts.{length_store, part_same}
use Rattle.rules.specs.Arithmetic.{ieee}
use Rattle.rules.specs.Cholesky.{at, forward}
use Rattle.rules.proofs.Rows.{length_forward}
use Rattle.re_lower.proofs.Laws.{forward_ext}
use Rattle.re_lower.proofs.Back.{length_backward, backward_ext}
use Rattle.block_runs.specs.blocks.Blocks.{block, entry}
use Rattle.block_runs.specs.axpy.Axpy.{run}
use Rattle.block_runs.specs.axpy.Axpy as Axpy
use Rattle.cross_matvec.specs.Products.{column_sum}
use Rattle.cross_matvec.proofs.Vectors.{read_entry}
use Rattle.cross_matvec.proofs.Dense.{column_sum_lem}
use Rattle.re_factor.specs.Factor.{solved_forward, solved_backward}
use Rattle.solution_finish.specs.beta.Beta.{beta_of, Effects}

-- n doubles stored at the start of a list are its first n entries
first_entries : (l w : List Float) (n : ℕ) → length l ≡ n → n ≤ length w → (i : ℕ) → entry 0 n (store 0 l w) i ≡ at ieee l i
first_entries l w n e h i = ap (λ (x : List Float). at ieee x i) (part_same 0 l w (omega arith) n e)

module _ (off p : ℕ) (v b₀ b₁ b₂ b₃ : List Float) (short : p ≤ length b₀) (room : p ≤ length v)
    (e₁ : b₁ ≡ run 0 p (λ i. Axpy.at v (0 + i)) b₀) (e₂ : b₂ ≡ solved_forward 0 (block_of off p p) v b₁) (e₃ : b₃ ≡ solved_backward 0 (block_of off p p) v b₂) where
  abbrev L : ℕ → ℕ → Float
  L = block off (packed p) v

  copied : (i : ℕ) → i < p → entry 0 p b₁ i ≡ entry 0 p v i
  copied i h =
      ap (λ (x : List Float). entry 0 p x i) e₁ ∙ first_entries (tab p (λ j. Axpy.at v (0 + j))) b₀ p (length_tab p _) short i
      ∙ get_or_tab p (λ j. Axpy.at v (0 + j)) i ieee.zero h ∙ read_entry 0 p v i h (omega arith)

  long₁ : length b₁ ≡ length b₀
  long₁ = ap length e₁ ∙ length_store 0 (tab p (λ i. Axpy.at v (0 + i))) b₀ (omega (arith, length_tab p (λ i. Axpy.at v (0 + i))))

  abbrev z : List Float
  z = forward ieee (entry 0 p v) L p

  ahead : b₂ ≡ store 0 z b₁
  ahead = e₂ ∙ ap (λ (x : List Float). store 0 x b₁) (forward_ext ieee (entry 0 p b₁) (entry 0 p v) L L p copied (λ x y l m. refl))

  long₂ : length b₂ ≡ length b₀
  long₂ = ap length ahead ∙ length_store 0 z b₁ (omega (arith, length_forward ieee (entry 0 p v) L p, long₁)) ∙ long₁

  back : b₃ ≡ store 0 (beta_of off p v) b₂
  back =
      e₃
      ∙ ap (λ (x : List Float). store 0 x b₂)
      (backward_ext ieee (entry 0 p b₂) (at ieee z) L L p p (omega arith)
      (λ x h. ap (λ (l : List Float). entry 0 p l x) ahead ∙ first_entries z b₁ p (length_forward ieee (entry 0 p v) L p) (omega (arith, long₁)) x) (λ x y l m. refl))

  many : length (beta_of off p v) ≡ p
  many = length_backward ieee (at ieee z) L p p

  pub long₃ : length b₃ ≡ length b₀
  long₃ = ap length back ∙ length_store 0 (beta_of off p v) b₂ (omega (arith, many, long₂)) ∙ long₂

  is_beta : (i : ℕ) → entry 0 p b₃ i ≡ at ieee (beta_of off p v) i
  is_beta i = ap (λ (x : List Float). entry 0 p x i) back ∙ first_entries (beta_of off p v) b₂ p many (omega (arith, long₂)) i

  put_beta : tab p (λ i. Axpy.at b₃ (0 + i)) ≡ beta_of off p v
  put_beta =
      sym (take_tab nan p _ b₃ (omega (arith, long₃)) (λ i h. ap (Axpy.at b₃) (omega arith))) ∙ ap (take p) back
      ∙ part_same 0 (beta_of off p v) b₂ (omega (arith, many, long₂)) p many

  pub solved : (r : Float) (v' : List Float) → r ≡ column_sum b₃ 0 v 0 p → v' ≡ run 0 p (λ i. Axpy.at b₃ (0 + i)) v → Effects off p v v' r
  solved r v' f g =
      record {
        exit = g ∙ ap (λ (l : List Float). store 0 l v) put_beta;
        answer =
            f
            ∙ column_sum_lem b₃ 0 v 0 p (at ieee (beta_of off p v)) (entry 0 p v) (λ i h. read_entry 0 p b₃ i h (omega (arith, long₃)) ∙ is_beta i)
            (λ i h. read_entry 0 p v i h (omega arith));
      }
