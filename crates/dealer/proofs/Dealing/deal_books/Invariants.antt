-- `dealer::Dealing::deal_books` meets its contract.
use Rattle.book.specs.Book.{mask_at}
use Rattle.dealer.specs.Runs.{params, Wrote}
use Rattle.dealer.proofs.Dealing.deal_books.Given as goal

abbrev pub invariant-loop-c : goal.invariant-loop-c
invariant-loop-c l = Wrote l.initial.self 0 (mask_at (params l.initial.self) l.c) l.self
