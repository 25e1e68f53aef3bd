-- Too little room for every text, and enough: the text then stands in the first 131,072 bytes.
use Rattle.std.specs.Array.{IsFirstChunk}
use Prim.Native.Nat.{ℕ, ◌≤◌, ◌<◌}
use mathlib.Core.Path.{refl, sym, ap, ◌∙◌}
use mathlib.Core.List.{List, ◌++◌}
use native.Mathlib.Omega.{arith}
use lib.Dec.{lit≤}
use lib.ListN.{length, take, drop, take-append-drop}
use lib.Seq.{take-append-le, drop-append-le, length-take-le}
use Rattle.factor_text.proofs.refusal_text.Texts.{Printed}
use Rattle.factor_text.specs.Written.{Written}

pub too_little : (s w : List ℕ) → length w < 131072 → Written s w 0 w
too_little s w h = (lit≤ tt, λ _. (refl, refl), λ g. absurd (omega (arith, h, g)))

module _ {w m : List ℕ} (f : IsFirstChunk w m 131072) where
  pub chunk_length : 131072 ≤ length m
  chunk_length = omega (arith, ap length f.same, length-take-le 131072 w f.enough)

  pub enough : (s : List ℕ) (n : ℕ) (out : List ℕ) → Printed s n m out → Written s w n (out ++ drop 131072 w)
  enough s n out p =
      let rest = drop 131072 w in
      let fits : n ≤ length out = omega (arith, p.0, p.3, chunk_length) in
      let few : n ≤ length (take 131072 w) = omega (arith, p.0, length-take-le 131072 w f.enough) in (
        p.0,
        λ g. absurd (omega (arith, g, f.enough)),
        λ _. (
          take-append-le n out rest fits ∙ p.1,
          drop-append-le n out rest fits ∙ ap (λ (l : List ℕ). l ++ rest) (p.2 ∙ ap (drop n) f.same) ∙ sym (drop-append-le n (take 131072 w) rest few) ∙ ap (drop n) (take-append-drop 131072 w),
        ),
      )
