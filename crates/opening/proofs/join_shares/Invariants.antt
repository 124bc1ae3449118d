-- `opening::join_shares` meets its contract.
use mathlib.Core.Path.{◌≡◌}
use Rattle.lists.specs.Lists.{fill}
use Rattle.opening.specs.Work.{joined_at}
use Rattle.opening.proofs.join_shares.Given as goal

abbrev pub invariant-loop-o : goal.invariant-loop-o
invariant-loop-o l = l.opened ≡ fill l.initial.opened 0 l.o (joined_at l.own l.fields)
