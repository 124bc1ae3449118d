-- `book::group_at` meets its contract. Assumes nothing.
use Rattle.book.specs.Book.{group_at}
use borrow.Author.Tests.{eq-eqb, ne_eqb}
use native.Mathlib.Omega.{arith}
use Rattle.book.proofs.group_at.Goals as goal

pub returns-then-shape-eq0 : goal.returns-then-shape-eq0
unfolding group_at
returns-then-shape-eq0 c = rw (eq-eqb _ _ c.if-shape-eq0.true) (omega arith)

pub returns : goal.returns
unfolding group_at
returns c = rw (ne_eqb _ _ c.if-shape-eq0.false) (omega arith)
