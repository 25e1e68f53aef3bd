use mathlib.Core.Path.{◌≡◌, refl, ap, ◌∙◌}
use Prim.Native.Nat.{ℕ, ◌≤◌, ◌<◌, ◌-◌, ◌+◌, suc}
use native.Mathlib.Omega.{arith}
use lib.ListN.{length, length-set}
use Rattle.storage.specs.Runs.{start, triangle}
use Rattle.storage.specs.Part.{store}
use Rattle.storage.proofs.Starts.{start_triangle, start_le}
use Rattle.re_lower.proofs.Back.{start_half, start_before, back_to, back_none, back_all, back_turn}
use Rattle.re_lower.proofs.back_substitution.backward.Goals as goal

-- row i - 1 of the triangle ends at `from`, within the list
near : (i n from m : ℕ) → 0 < i → i ≤ n → from ≡ start triangle i → start triangle n ≤ m → (from ≡ start triangle (i - 1) + i) × (from ≤ m)
near i n from m p q e h = (e ∙ start_before i p, omega (arith, start_le triangle i n q))

pub overflow_mul-from : goal.overflow_mul-from
overflow_mul-from c = omega (arith, start_triangle c.args.n)

pub loop-i-init : goal.loop-i-init
loop-i-init c = let a = c.args in (omega arith, start_half a.n, refl, back_none a.t.now a.l.now a.n)

pub overflow_sub-from : goal.overflow_sub-from
overflow_sub-from c = omega (arith, near c.loop-i.i c.args.n c.loop-i.from (length c.args.l.now) c.loop-i-test.true c.loop-i.invariant.0 c.loop-i.invariant.1 (omega arith))

pub chain_column-requires : goal.chain_column-requires
chain_column-requires c = let l = c.loop-i in let e : l.i ≡ l.i - 1 + 1 = omega arith in
    (omega arith, omega arith, omega arith, l.invariant.1 ∙ ap (start triangle) e)

pub offset_bounds-l-from : goal.offset_bounds-l-from
offset_bounds-l-from c = omega (arith, near c.loop-i.i c.args.n c.loop-i.from (length c.args.l.now) c.loop-i-test.true c.loop-i.invariant.0 c.loop-i.invariant.1 (omega arith))

pub bounds-l-from : goal.bounds-l-from
bounds-l-from c = omega (arith, near c.loop-i.i c.args.n c.loop-i.from (length c.args.l.now) c.loop-i-test.true c.loop-i.invariant.0 c.loop-i.invariant.1 (omega arith))

pub loop-i-preserved : goal.loop-i-preserved
loop-i-preserved c = let a = c.args in
    let l = c.loop-i in let k = near c.loop-i.i c.args.n c.loop-i.from (length c.args.l.now) c.loop-i-test.true c.loop-i.invariant.0 c.loop-i.invariant.1 (omega arith) in
    let e : l.i ≡ suc (l.i - 1) = omega arith in
    let f : suc (a.n - suc (l.i - 1)) ≡ a.n - (l.i - 1) = omega arith in (
      omega arith,
      omega (arith, k),
      simp length-set l.invariant.2,
      back_turn a.t.now a.l.now a.n (l.i - 1) (a.n - suc (l.i - 1)) refl (omega arith) (omega arith) l.t l.invariant.2
          (l.invariant.3 ∙ ap (λ (x : ℕ). store x (back_to a.t.now a.l.now a.n (a.n - x)) a.t.now) e) _ (omega (arith, k)) (omega (arith, k)) _ c.chain_column.ensures
          ∙ ap (λ (d : ℕ). store (l.i - 1) (back_to a.t.now a.l.now a.n d) a.t.now) f,
    )

pub returns : goal.returns
returns c = let a = c.args in let l = c.loop-i in
    l.invariant.3 ∙ back_all a.t.now a.l.now a.n l.i (omega arith)
