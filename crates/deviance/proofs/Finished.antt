-- A workspace whose factor is finished, or a refusal: what follows from either for what is asked of it.
use Prim.Native.Nat.{ℕ}
use mathlib.Core.Path.{◌≡◌, refl, sym, ap}
use mathlib.Core.Bool.{Bool, true, false}
use mathlib.Core.List.{List}
use Rattle.std.specs.Prelude.{Result, Ok, Err}
use Rattle.refusal.specs.declared.Refusal.{Refusal}
use Rattle.refusal.specs.Numbers.{refusal}
use Rattle.refusal.proofs.Meaning.{differ}
use Rattle.layout.specs.declared.Layout.{Layout}
use Rattle.layout.specs.Shapes.{pick}
use Rattle.heading_format.specs.Heading.{layout_of, progress_of, valid_heading}
use Rattle.heading_format.specs.Fits.{Room}
use Rattle.heading_format.proofs.Fits.{fits, read_fits, room_of_lem}
use Rattle.profile.specs.Deviance.{is_finished, of_finished}

abbrev tested : {A : Type 0} → Bool → Bool → Result A Refusal → Result A Refusal
tested b c v = pick b (pick c v (Err (refusal 25 0 0))) (Err (refusal 20 0 0))

module _ {A : Type 0} (h : List ℕ) (n : ℕ) (a : A) where
  -- what is asked of it is answered from the value
  pub finished : {B : Type 0} {x : A} → (f : A → Result B Refusal) → ◌≡◌ {A = Result A Refusal} (Ok x) (of_finished h n (Ok a)) → f x ≡ of_finished h n (f a)
  finished {B} {x} f e = go (valid_heading h n) (is_finished (progress_of h).state) e
    where
      go : (b c : Bool) → ◌≡◌ {A = Result A Refusal} (Ok x) (tested b c (Ok a)) → f x ≡ tested b c (f a)
      go true true e = let q : x ≡ a = cc in ap f q
      go true false e = absurd (differ e)
      go false c e = absurd (differ e)

  pub refused : {B : Type 0} {r : Refusal} → (v : Result B Refusal) → ◌≡◌ {A = Result A Refusal} (Err r) (of_finished h n (Ok a)) → Err r ≡ of_finished h n v
  refused {B} {r} v e = go (valid_heading h n) (is_finished (progress_of h).state) e
    where
      go : (b c : Bool) → ◌≡◌ {A = Result A Refusal} (Err r) (tested b c (Ok a)) → Err r ≡ tested b c v
      go true true e = absurd (differ (sym e))
      go true false e = let q : r ≡ refusal 25 0 0 = cc in ap Err q
      go false c e = let q : r ≡ refusal 20 0 0 = cc in ap Err q

  -- where there is a value, the heading is valid
  pub valid : {x : A} → ◌≡◌ {A = Result A Refusal} (Ok x) (of_finished h n (Ok a)) → (valid_heading h n ≡ true) × (x ≡ a)
  valid {x} e = go (valid_heading h n) (is_finished (progress_of h).state) e refl
    where
      go : (b c : Bool) → ◌≡◌ {A = Result A Refusal} (Ok x) (tested b c (Ok a)) → valid_heading h n ≡ b → (valid_heading h n ≡ true) × (x ≡ a)
      go true true e q = (q, cc)
      go true false e q = absurd (differ e)
      go false c e q = absurd (differ e)

-- the layout has its room among the doubles
pub room_of_finished : (h : List ℕ) (n : ℕ) {y : Layout} → ◌≡◌ {A = Result Layout Refusal} (Ok y) (of_finished h n (Ok (layout_of h))) → Room y n
room_of_finished h n e = let v = valid h n (layout_of h) e in room_of_lem (read_fits v.1 (fits h n v.0))
