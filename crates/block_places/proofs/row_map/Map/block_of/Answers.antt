use Prim.Native.Nat.{ℕ, ◌+◌}
use mathlib.Core.Path.{◌≡◌, sym, ap, ◌∙◌}
use mathlib.Core.Bool.{Bool, true, false, cond, ◌&&◌}
use native.Mathlib.Omega.{arith}
use lib.Dec.{leb, ltb}
use Rattle.layout.specs.Shapes.{levels}
use Rattle.workspace.specs.Loaded.{in_block}
use Rattle.heading_format.proofs.Valid.{is_valid}
use Rattle.block_places.specs.sheet_rows.Blocks.{block_of_row}
use Rattle.block_places.proofs.sheet_rows.Rows.{start_small, block_none, block_more}
use Rattle.block_places.proofs.row_map.Map.block_of.Goals as goal
use Rattle.block_places.proofs.row_map.Map.block_of.Goals.{then-within, else-within}

pub loop-j-init : goal.loop-j-init
loop-j-init c = let m = c.args.self.now in ((is_valid m.layout m.valid).blocks.1, block_none m.layout c.args.x)

pub within-requires : goal.within-requires
within-requires c = let m = c.args.self.now in let j = c.loop-j.j in (
  omega (arith, m.rows j (omega arith), start_small m.layout m.valid j (omega arith)),
  omega (arith, ((is_valid m.layout m.valid).level j (omega arith)).1),
)

pub loop-j-preserved : goal.loop-j-preserved
loop-j-preserved c = let m = c.args.self.now in
    let l = c.loop-j in
    let x : ℕ = c.args.x in
    let is : c.within.result ≡ in_block m.layout l.j x =
    c.within.ensures ∙ ap (λ (u : ℕ). leb u x && ltb x (u + levels m.layout l.j)) (m.rows l.j (omega arith)) in
    let here : (r : ℕ) (b : Bool) → r ≡ cond b l.j l.block → b ≡ in_block m.layout l.j x → r ≡ block_of_row m.layout (l.j + 1) x =
    λ r b e q. block_more m.layout l.j x l.block r l.invariant.1 (e ∙ ap (λ (t : Bool). cond t l.j l.block) q) in (
      l.invariant.0,
      elim c.if-within.branch [ then-within w ↦ here c.if-within.block true w.block-is (sym w.if-within.true ∙ is) | else-within w ↦ here c.if-within.block false w.block-is (sym w.if-within.false ∙ is) ],
    )

pub returns : goal.returns
returns c = let l = c.loop-j in l.invariant.1 ∙ ap (λ (j : ℕ). block_of_row c.args.self.now.layout j c.args.x) (omega arith)
