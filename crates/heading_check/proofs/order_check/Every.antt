-- A test of every number below n, by `all` over the range.
use Prim.Native.Nat.{ℕ, suc, ◌+◌, ◌<◌}
use mathlib.Core.Path.{◌≡◌, refl, sym, ap, subst, ◌∙◌}
use mathlib.Core.Bool.{Bool, true, false, true≢false}
use mathlib.Core.List.{List}
use native.Mathlib.Omega.{arith}
use native.Mathlib.Numerals.{add-one}
use lib.ListN.{length}
use denote.Param.Members.{Mut}
use Rattle.std.specs.declared.option.Option.{Option}
use Rattle.std.specs.declared.ops.Range.{Range}
use Rattle.std.specs.Iterator.{YieldsThen}
use Rattle.std.specs.List.{FoldsTo, range_with_len, AllWithin, HoldsAt}
use Rattle.std.specs.Fn.{Called}
use Rattle.std.specs.Option.{MatchOption}
use Rattle.std.specs.Bool.{MatchBool}
use Rattle.std.proofs.iter.Yields.{nat_range_steps}
use Rattle.std.proofs.lemmas.Iterator.{YieldsList-from_range, cases_from_all}
use Rattle.std.proofs.lemmas.List.FromFn.{length-range_with_len, get_or-range_with_len}
use Rattle.heading_format.specs.Heading.{every}
use Rattle.heading_format.proofs.Valid.{every_of, every_at, is_false}

-- how `all` over the numbers below n may have answered r
abbrev Ran : {F : Type 0} → Mut F (ℕ × Unit {0}) Bool → Range ℕ → F → Bool → ℕ → Type 0
Ran {F} g u f r n =
    (xs : List ℕ) × (o : Option ℕ) × (j : F) × YieldsThen nat_range_steps (record { start = 0; end = n }) xs o u
    × FoldsTo (λ p x q. Called g p (x, tt) true q) f xs j × MatchOption o (r ≡ true) (λ x. (r ≡ false) × ((h : F) × Called g j (x, tt) false h))

module _ {F : Type 0} {g : Mut F (ℕ × Unit {0}) Bool} {u : Range ℕ} {f : F} {r : Bool} (test : ℕ → Bool) (n : ℕ) where
  -- the closure answers `test`, and changes nothing
  pub every_all : Ran g u f r n → ((x : ℕ) (b : Bool) (q : F) → Called g f (x, tt) b q → (q ≡ f) × (b ≡ test x)) → r ≡ every test n
  every_all ran same =
      by r
      (cases_from_all u f r (λ x. test x ≡ true) (λ x. test x ≡ false) ran (YieldsList-from_range 0 n n refl (omega arith))
      (λ x q k. let h = same x true q k in (h.0, sym h.1)) (λ x q k. sym (same x false q k).1))
    where
      all : List ℕ
      all = range_with_len 0 n

      long : length all ≡ n
      long = length-range_with_len 0 n

      at : (P : ℕ → Type 0) (k : ℕ) → k < n → HoldsAt P all k → P k
      at P k l h = subst P {y = k} (omega (arith, get_or-range_with_len 0 n k 0 l)) (h 0)

      by : (b : Bool) → MatchBool b (AllWithin (λ x. test x ≡ true) all 0 (length all)) ((k : ℕ) × (k < length all) × HoldsAt (λ x. test x ≡ false) all k) → b ≡ every test n
      by true h = sym (every_of test n (λ k l. at (λ x. test x ≡ true) k l (λ d. h k d (omega arith) (omega (arith, long)))))
      by false h =
          let k : ℕ = h.0 in
          let l : k < n = omega (arith, long, h.1) in
          sym (is_false (every test n) (λ a. true≢false (sym (every_at test n a k l) ∙ at (λ x. test x ≡ false) k l h.2)))

-- the same of every number up to n
pub every_through : {F : Type 0} {g : Mut F (ℕ × Unit {0}) Bool} {u : Range ℕ} {f : F} {r : Bool} (test : ℕ → Bool) (n : ℕ) → Ran g u f r (n + 1)
    → ((x : ℕ) (b : Bool) (q : F) → Called g f (x, tt) b q → (q ≡ f) × (b ≡ test x)) → r ≡ every test (suc n)
every_through test n ran same = every_all test (n + 1) ran same ∙ ap (every test) (add-one n)
