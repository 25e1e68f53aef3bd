-- What is written from a place on, and where it ends: one byte, a text, and one text behind another.
use Prim.Native.Nat.{ℕ, ◌+◌, ◌≤◌}
use mathlib.Core.Path.{◌≡◌, sym, ap, ap₂, ◌∙◌}
use mathlib.Core.List.{List, [], ◌∷◌, ◌++◌, append_assoc}
use native.Mathlib.Nat.{add-zero}
use native.Mathlib.Omega.{arith}
use lib.ListN.{length, take, drop, set, length-append}
use lib.Seq.{drop-drop}
use borrow.Rule.Slice.PartMut.{put_mid}
use Rattle.storage.specs.Part.{store}
use Rattle.text_output.specs.Written.{Put}
use Rattle.storage.proofs.Parts.{length_store, store_nil, store_one, store_more}

-- one text behind another
pub put_then : (at : ℕ) (l m w : List ℕ) {r r' : ℕ} {w' w'' : List ℕ} → at + length l ≤ length w → Put at l w r w' → Put r m w' r' w'' → Put at (l ++ m) w r' w''
put_then at l m w fits p q = (
  omega (arith, p.0, q.0, length-append l m),
  q.1 ∙ ap₂ (λ (k : ℕ) (v : List ℕ). store k m v) p.0 p.1 ∙ store_more at l w fits m,
)

-- a byte and a text behind another
pub put_field : (at : ℕ) (l : List ℕ) (b : ℕ) (m w : List ℕ) {r s u : ℕ} {w₁ w₂ w₃ : List ℕ} → at + length l + 1 ≤ length w → Put at l w r w₁ → Put r (b ∷ []) w₁ s w₂ → Put s m w₂ u w₃ → Put at (l ++ (b ∷ m)) w u w₃
put_field at l b m w {r} {w₁ = w₁} fits p q t =
    let kept = ap length p.1 ∙ length_store at l w (omega arith) in
    put_then at l (b ∷ m) w (omega arith) p (put_then r (b ∷ []) m w₁ (omega (arith, kept, p.0)) q t)

-- one byte
pub byte_put : (at b : ℕ) (w : List ℕ) → at + 1 ≤ length w → set w at b ≡ store at (b ∷ []) w
byte_put at b w fits =
    ap₂ (λ (v : List ℕ) (k : ℕ). set v k b) (sym (store_nil at w)) (sym (add-zero at))
    ∙ store_one at [] w (omega arith) b (omega arith)

-- a text that is copied into its place
pub copy_put : (at n : ℕ) (l m w : List ℕ) → n ≡ length l → m ≡ l → put_mid at n w m ≡ store at l w
unfolding store
copy_put at n l m w e f =
    ap₂ (λ (k : ℕ) (v : List ℕ). take at w ++ (v ++ drop k (drop at w))) e f
    ∙ ap (λ (v : List ℕ). take at w ++ (l ++ v)) (drop-drop (length l) at w)
    ∙ sym (append_assoc (take at w) l (drop (at + length l) w))
