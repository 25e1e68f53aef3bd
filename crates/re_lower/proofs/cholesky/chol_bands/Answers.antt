use mathlib.Core.Path.{◌≡◌, refl, sym, ap, ◌∙◌}
use Prim.Native.Nat.{ℕ, ◌+◌, ◌≤◌}
use native.Mathlib.Omega.{arith}
use native.Mathlib.Numerals.{add-one}
use lib.ListN.{length, length-set}
use Rattle.storage.specs.Runs.{start, triangle, cells}
use Rattle.storage.specs.Shape.{fill}
use Rattle.storage.specs.Part.{store}
use Rattle.storage.proofs.Starts.{start_below}
use Rattle.storage.proofs.Parts.{store_nil}
use Rattle.rules.specs.Arithmetic.{ieee}
use Rattle.rules.specs.Cholesky.{radicand, first_bad}
use Rattle.re_lower.specs.Lower.{lower, answer_of}
use Rattle.re_lower.proofs.Laws.{goes_on, refused_at_lem}
use Rattle.re_lower.proofs.Band.{row_ready}
use Rattle.re_lower.proofs.Turns.{rows_to, row_done, is_radicand, chol_turn, chain_lent}
use Rattle.re_lower.proofs.cholesky.chol_bands.Goals as goal

pub loop-r-init : goal.loop-r-init
unfolding start cells first_bad
loop-r-init c = (omega arith, refl, refl, sym (store_nil 0 c.args.t.now), refl, omega arith, refl, (λ i y h k m. absurd (omega arith)))

pub next_band-base-requires : goal.next_band-base-requires
next_band-base-requires c = let l = c.loop-r in
    (omega arith, omega arith, omega arith, l.invariant.1, omega arith)

pub band_row-requires : goal.band_row-requires
band_row-requires c = let a = c.args in
    let l = c.loop-r in
    let k = c.next_band-base in (
      l.invariant.1,
      omega (arith, start_below triangle c.loop-r.r c.args.n c.loop-r-test.true),
      k.ensures.within,
      k.ensures.short,
      k.ensures.room,
      row_ready a.t.now a.n c.requires.0 l.t l.r c.loop-r-test.true l.invariant.3 k.new.x k.result l.from k.ensures.within k.ensures.short l.invariant.1
          (k.ensures.ready a.t.now c.requires.0 l.invariant.3 l.invariant.7),
    )

pub returns-then-refused : goal.returns-then-refused
unfolding fill
returns-then-refused c = let tested : c.refused.result ≡ ieee.refused (radicand ieee (lower c.args.t.now) c.loop-r.r) = let a = c.args in
    let l = c.loop-r in
    let k : l.from + l.r ≤ length c.band_row.new.t = omega (arith, start_below triangle l.r a.n c.loop-r-test.true) in
    c.refused.ensures ∙ ap ieee.refused (is_radicand a.t.now a.n c.requires.0 l.r c.loop-r-test.true l.t _ (omega arith) l.invariant.3 l.from l.invariant.1 c.band_row.ensures _ (c.chain-d.ensures ∙ chain_lent _ c.band_row.new.t c.band_row.new.t l.from l.from _ _ l.r (omega arith) (omega arith) k k)) in
    let a = c.args in
    let l = c.loop-r in
    record {
      answer = ap answer_of (sym (refused_at_lem ieee (radicand ieee (lower a.t.now)) l.r a.n c.loop-r-test.true l.invariant.4 (sym tested ∙ c.if-refused.true)));
      left = row_done a.t.now a.n c.requires.0 l.r c.loop-r-test.true l.t _ (omega arith) l.invariant.3 l.from l.invariant.1 c.band_row.ensures;
    }

pub loop-r-preserved : goal.loop-r-preserved
unfolding start
loop-r-preserved c = let tested : c.refused.result ≡ ieee.refused (radicand ieee (lower c.args.t.now) c.loop-r.r) = let a = c.args in
    let l = c.loop-r in
    let k : l.from + l.r ≤ length c.band_row.new.t = omega (arith, start_below triangle l.r a.n c.loop-r-test.true) in
    c.refused.ensures ∙ ap ieee.refused (is_radicand a.t.now a.n c.requires.0 l.r c.loop-r-test.true l.t _ (omega arith) l.invariant.3 l.from l.invariant.1 c.band_row.ensures _ (c.chain-d.ensures ∙ chain_lent _ c.band_row.new.t c.band_row.new.t l.from l.from _ _ l.r (omega arith) (omega arith) k k)) in
    let a = c.args in
    let l = c.loop-r in
    let b = c.next_band-base in
    let k : l.from + l.r ≤ length c.band_row.new.t = omega (arith, start_below triangle l.r a.n c.loop-r-test.true) in (
      omega arith,
      rw add-one (omega arith),
      simp length-set (omega arith),
      rw add-one (chol_turn a.t.now a.n c.requires.0 l.r c.loop-r-test.true l.t _ (omega arith) l.invariant.3 l.from l.invariant.1 c.band_row.ensures _ (c.chain-d.ensures ∙ chain_lent _ c.band_row.new.t c.band_row.new.t l.from l.from _ _ l.r (omega arith) (omega arith) k k) _ c.sqrt.ensures),
      rw add-one (goes_on ieee (radicand ieee (lower a.t.now)) l.r l.invariant.4 (sym tested ∙ c.if-refused.false)),
      omega (arith, b.ensures.within),
      omega arith,
      b.ensures.ready a.t.now c.requires.0 l.invariant.3 l.invariant.7,
    )

pub returns : goal.returns
unfolding fill
returns c = let a = c.args in let e : c.loop-r.r ≡ a.n = omega arith in record {
  answer = ap answer_of (sym (rw e at c.loop-r.invariant.4));
  left = c.loop-r.invariant.3 ∙ ap (λ (x : ℕ). store 0 (rows_to a.t.now x) a.t.now) e;
}
