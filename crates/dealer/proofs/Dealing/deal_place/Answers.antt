-- `dealer::Dealing::deal_place` meets its contract.
use Rattle.std.proofs.Common.{arith, rules}
use Rattle.dealer.proofs.Work.{room, after_place}
use Rattle.dealer.proofs.Dealing.deal_place.Goals as goal

pub overflow_add-self : goal.overflow_add-self
overflow_add-self c = omega (arith, room c.args.self.now.lent c.requires)

pub returns : goal.returns
returns c = record { put = search rules; next = rw c.put_place.ensures.1 (after_place c.requires) }
