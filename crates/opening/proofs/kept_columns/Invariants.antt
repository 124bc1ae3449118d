-- `opening::kept_columns` meets its contract. Assumes nothing.
use Rattle.opening.specs.Work.{columns_to}
use Rattle.slice.specs.Layout.{own_in}
use mathlib.Core.Path.{◌≡◌}
use Rattle.opening.proofs.kept_columns.Given as goal

abbrev pub invariant-loop-f : goal.invariant-loop-f
invariant-loop-f l = l.sent ≡ columns_to l.count (own_in l.work) l.initial.sent l.f
