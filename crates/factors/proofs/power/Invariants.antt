-- The product so far is the power of as many factors.
use Rattle.std.proofs.Common.{◌≡◌, ◌%◌, ◌^◌}
use Rattle.field.specs.Field.{q}
use Rattle.factors.proofs.power.Given as goal

abbrev pub invariant-loop : goal.invariant-loop
invariant-loop l = l.product ≡ 1753 ^ l.counter % q
