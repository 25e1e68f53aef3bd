-- `begin::init_blocks::copy`: what the library's copy leaves.
use mathlib.Core.Path.{ap, ◌∙◌}
use Prim.Native.Nat.{ℕ}
use native.Mathlib.Omega.{arith}
use lib.ListN.{drop, length-drop}
use lib.Seq.{paste}
use Rattle.storage.proofs.Parts.{store_paste}
use Rattle.begin.proofs.init_blocks.copy.Goals as goal

pub returns : goal.returns
returns c = let a = c.args in
    c.copy_within.ensures.after
    ∙ ap (λ (k : ℕ). paste a.doubles.now a.off (drop a.src a.doubles.now) k) (omega arith)
    ∙ store_paste a.off (drop a.src a.doubles.now) a.doubles.now a.n (simp length-drop (omega arith))
