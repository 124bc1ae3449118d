-- `dealer::Dealing::deal_triples` meets its contract.
use Rattle.std.proofs.Common.{◌*◌}
use Rattle.book.specs.Book.{triple_at}
use Rattle.dealer.specs.Runs.{params, Wrote}
use Rattle.dealer.proofs.Dealing.deal_triples.Given as goal

abbrev pub invariant-loop-t : goal.invariant-loop-t
invariant-loop-t l = Wrote l.initial.self (triple_at (params l.initial.self) l.c 0) (3 * l.t) l.self
