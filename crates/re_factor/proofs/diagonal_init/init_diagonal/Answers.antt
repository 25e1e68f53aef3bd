use mathlib.Core.Path.{refl}
use Prim.Native.Nat.{◌+◌}
use native.Mathlib.Omega.{arith}
use native.Mathlib.Numerals.{add-one}
use lib.ListN.{length-set}
use Rattle.storage.specs.Placed.{block_of, as_diagonal}
use Rattle.storage.proofs.Starts.{start_single}
use Rattle.block_runs.proofs.blocks.Laws.{has_diagonal}
use Rattle.re_factor.specs.Factor.{loaded_of}
use Rattle.re_factor.proofs.Turns.{begun_none, begun_pivot, begun_all}
use Rattle.re_factor.proofs.diagonal_init.init_diagonal.Goals as goal

pub loop-r-init : goal.loop-r-init
loop-r-init c = let a = c.args in let k = start_single a.b.rows in
    (omega arith, refl, omega arith, omega arith, begun_none (as_diagonal a.b) (loaded_of a.b a.src) a.t a.doubles.now c.requires.0)

pub loop-r-preserved : goal.loop-r-preserved
loop-r-preserved c = let a = c.args in let l = c.loop-r in
    let t = begun_pivot (as_diagonal a.b) (block_of a.src a.b.rows a.b.cols) a.t a.doubles.now c.requires.0 c.requires.1 c.requires.2
    l.r (omega arith) (has_diagonal a.b.rows l.r (omega arith)) refl l.doubles l.invariant.4 (a.b.at + l.r) (omega (arith, start_single l.r)) in
    (omega arith, simp length-set (omega arith), l.invariant.2, l.invariant.3, rw add-one t)

pub returns : goal.returns
returns c = let a = c.args in let l = c.loop-r in
    begun_all (as_diagonal a.b) (loaded_of a.b a.src) a.t a.doubles.now c.requires.0 l.r (omega arith) l.doubles l.invariant.4
