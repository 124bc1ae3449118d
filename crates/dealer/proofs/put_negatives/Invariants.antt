-- `dealer::put_negatives` meets its contract.
use Rattle.std.proofs.Common.{◌≡◌, ℕ, get_or}
use Rattle.lists.specs.Lists.{fill}
use Rattle.field.specs.Field.{q, sub}
use Rattle.dealer.proofs.put_negatives.Given as goal

abbrev pub invariant-loop-i : goal.invariant-loop-i
invariant-loop-i l = l.server ≡ fill l.initial.server 0 l.i (λ (j : ℕ). sub q 0 (get_or l.phone j 0))
