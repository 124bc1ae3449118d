-- `dealer::Dealing::deal_vectors` meets its contract.
use Rattle.field.specs.Sums.{sum_to}
use Rattle.settings.specs.Sets.{base}
use Rattle.book.specs.Book.{vector_at}
use Rattle.dealer.specs.Runs.{params, Wrote}
use Rattle.dealer.proofs.Dealing.deal_vectors.Given as goal

abbrev pub invariant-loop-i : goal.invariant-loop-i
invariant-loop-i l =
    let p = params l.initial.self in
    Wrote l.initial.self (vector_at p l.c 0) (sum_to l.i (base p.scale)) l.self
