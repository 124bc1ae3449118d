-- `opening::put_in_turn` meets its contract.
use mathlib.Core.Path.{◌≡◌}
use Rattle.lists.specs.Lists.{fill}
use Rattle.opening.specs.Work.{in_turn}
use Rattle.opening.proofs.put_in_turn.Given as goal

abbrev pub invariant-loop-x : goal.invariant-loop-x
invariant-loop-x l = l.fields ≡ fill l.initial.fields 0 l.x (in_turn l.sent)
