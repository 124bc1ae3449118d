-- `book::triple_at` meets its contract. Assumes nothing.
use Rattle.book.specs.Book.{triple_at}
use native.Mathlib.Omega.{arith}
use Rattle.book.proofs.triple_at.Goals as goal

pub returns : goal.returns
unfolding triple_at
returns c = omega arith
