use mathlib.Core.Path.{refl}
use Prim.Native.Nat.{◌+◌, ◌-◌}
use borrow.Rule.Slice.PartMut.{put_mid}
use native.Mathlib.Omega.{arith}
use native.Mathlib.Numerals.{add-one}
use lib.ListN.{length-set}
use Rattle.storage.specs.Runs.{start, triangle}
use Rattle.storage.specs.Placed.{block_of, as_triangle}
use Rattle.storage.proofs.Starts.{start_below, start_single}
use Rattle.block_runs.proofs.blocks.Laws.{has_packed}
use Rattle.re_factor.specs.Factor.{loaded_of}
use Rattle.re_factor.proofs.Turns.{begun_none, begun_cells, begun_pivot, begun_all, off_diagonal_zero}
use Rattle.re_factor.proofs.Lends.{cleared}
use Rattle.re_factor.proofs.triangle_init.init.Goals as goal

pub loop-r-init : goal.loop-r-init
unfolding start
loop-r-init c = let a = c.args in
    (omega arith, omega arith, refl, omega (arith, start_single a.b.rows), begun_none (as_triangle a.b) (loaded_of a.b a.src) a.t a.doubles.now c.requires.0)

pub loop-r-preserved : goal.loop-r-preserved
unfolding start
loop-r-preserved c = let a = c.args in
    let l = c.loop-r in let v = c.fill.new.self in
    let e = cleared l.doubles l.at l.r l.r refl (omega (arith, start_below triangle l.r a.b.rows c.loop-r-test.true)) v (c.fill.ensures.after (λ y e. e)) in
    let z = begun_cells (as_triangle a.b) (loaded_of a.b a.src) a.t a.doubles.now c.requires.0 l.r l.r (omega arith) (omega arith) l.doubles l.invariant.4
    l.at (omega arith) _ (off_diagonal_zero (loaded_of a.b a.src) a.t a.doubles.now l.r) (put_mid l.at (l.at + l.r - l.at) l.doubles v) e in
    let t = begun_pivot (as_triangle a.b) (block_of a.src a.b.rows a.b.cols) a.t a.doubles.now c.requires.0 c.requires.1 c.requires.2 l.r (omega arith)
    (has_packed a.b.rows l.r l.r (omega arith) (omega arith)) refl (put_mid l.at (l.at + l.r - l.at) l.doubles v) z (l.at + l.r) (omega arith) in
    (omega arith, rw add-one (omega arith), simp length-set (omega arith), l.invariant.3, rw add-one t)

pub returns : goal.returns
returns c = let a = c.args in let l = c.loop-r in
    begun_all (as_triangle a.b) (loaded_of a.b a.src) a.t a.doubles.now c.requires.0 l.r (omega arith) l.doubles l.invariant.4
