-- `square_root::whole_root::Radicand::root` meets its contract: what the whole root's square leaves says which of two numbers it is.
use native.Mathlib.Omega.{arith}
use Rattle.square_root.proofs.whole_root.Rest.{from_floor}
use Rattle.square_root.proofs.whole_root.Radicand.root.Goals as goal

pub returns : goal.returns
returns c = let x = c.args.self.in_range in let e = c.isqrt-r.ensures in
    from_floor _ _ _ _ x.0 x.1 (omega (arith, c.from-n.ensures, x.1)) e.square_le e.next_square_gt c.from.ensures
