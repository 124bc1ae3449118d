-- `dealer::Dealing::deal_drawn` meets its contract.
use Rattle.std.proofs.Common.{arith}
use Rattle.book.specs.Book.{drawn}
use Rattle.dealer.proofs.Work.{drawn-room, next_drawn}
use Rattle.dealer.proofs.Dealing.deal_drawn.Goals as goal

pub offset_bounds-self-self : goal.offset_bounds-self-self
offset_bounds-self-self c = omega (arith, drawn-room c.requires.0 c.requires.1 c.args.self.now.lent)

pub bounds-self-self : goal.bounds-self-self
bounds-self-self c = omega (arith, drawn-room c.requires.0 c.requires.1 c.args.self.now.lent)

pub overflow_add-self : goal.overflow_add-self
overflow_add-self c = omega (arith, drawn-room c.requires.0 c.requires.1 c.args.self.now.lent)

pub deal_place-requires : goal.deal_place-requires
deal_place-requires c = next_drawn c.requires.0 c.requires.1

pub returns-clause-value : goal.returns-clause-value
unfolding drawn
returns-clause-value c = rw c.requires.1
