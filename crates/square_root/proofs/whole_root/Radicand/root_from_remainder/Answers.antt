-- `square_root::whole_root::Radicand::root_from_remainder` meets its contract: what is left of the square says which of two numbers it is.
use Rattle.square_root.proofs.whole_root.Rest.{from_rest}
use Rattle.square_root.proofs.whole_root.Radicand.root_from_remainder.Goals as goal

pub returns : goal.returns
returns c = let x = c.args.self.in_range in from_rest _ _ _ _ x.0 x.1 c.requires.1 c.if-rest-g.false c.from.ensures
