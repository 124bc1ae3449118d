-- `book::vector_at` meets its contract. Assumes nothing.
use Rattle.book.specs.Book.{vector_at}
use native.Mathlib.Omega.{arith}
use Rattle.book.proofs.vector_at.Goals as goal

pub returns : goal.returns
unfolding vector_at
returns c = omega arith
