-- `book::start_of` meets its contract.
use mathlib.Core.Path.{refl}
use native.Mathlib.Omega.{arith}
use Rattle.field.specs.Sums.{sum_to}
use Rattle.book.proofs.Starts.{start-at}
use Rattle.book.proofs.start_of.Goals as goal

pub returns-in-0 : goal.returns-in-0
unfolding sum_to
returns-in-0 c = start-at _ _ 0 _ (omega arith) c.in-0.is (refl, omega arith)

pub returns-in-1 : goal.returns-in-1
unfolding sum_to
returns-in-1 c = start-at _ _ 1 _ (omega arith) c.in-1.is (refl, omega arith)

pub returns-in-2 : goal.returns-in-2
unfolding sum_to
returns-in-2 c = start-at _ _ 2 _ (omega arith) c.in-2.is (refl, omega arith)

pub returns-in-3 : goal.returns-in-3
unfolding sum_to
returns-in-3 c = start-at _ _ 3 _ (omega arith) c.in-3.is (refl, omega arith)

pub returns-in-4 : goal.returns-in-4
unfolding sum_to
returns-in-4 c = start-at _ _ 4 _ (omega arith) c.in-4.is (refl, omega arith)

pub returns-in-5 : goal.returns-in-5
unfolding sum_to
returns-in-5 c = start-at _ _ 5 _ (omega arith) c.in-5.is (refl, omega arith)

pub returns-in-6 : goal.returns-in-6
unfolding sum_to
returns-in-6 c = start-at _ _ 6 _ (omega arith) c.in-6.is (refl, omega arith)

pub returns-in-7 : goal.returns-in-7
unfolding sum_to
returns-in-7 c = start-at _ _ 7 _ (omega arith) c.in-7.is (refl, omega arith)

pub returns-in-8 : goal.returns-in-8
unfolding sum_to
returns-in-8 c = start-at _ _ 8 _ (omega arith) c.in-8.is (refl, omega arith)

pub returns-in-9 : goal.returns-in-9
unfolding sum_to
returns-in-9 c = start-at _ _ 9 _ (omega arith) c.in-9.is (refl, omega arith)

pub returns-in-10 : goal.returns-in-10
unfolding sum_to
returns-in-10 c = start-at _ _ 10 _ (omega arith) c.in-10.is (refl, omega arith)

pub returns-in_default : goal.returns-in_default
unfolding sum_to
returns-in_default c = start-at c.args.set c.args.i 11 _ (omega arith) (omega arith) (refl, omega arith)
