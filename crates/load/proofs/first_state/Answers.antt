-- `first_state` meets its contract: no seed but 0 is refused.
use Rattle.std.proofs.Common.{lit<}
use Rattle.generator.proofs.Door.{made}
use Rattle.load.proofs.first_state.Goals as goal

pub unwrap-requires : goal.unwrap-requires
unwrap-requires c = rw (made _ (lit< tt) _ c.make_generator.ensures)

pub returns : goal.returns
returns c = let m = made _ (lit< tt) _ c.make_generator.ensures in cc
