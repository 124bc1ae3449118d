-- `steps::looks_at` meets its contract.
use Rattle.std.proofs.Common.{arith}
use Rattle.std.proofs.lemmas.Bool.Decides.{nat_tests}
use Rattle.steps.specs.Context.{looks_at}
use Rattle.steps.proofs.looks_at.Goals as goal

pub returns-then-round-ge2 : goal.returns-then-round-ge2
unfolding looks_at
returns-then-round-ge2 c = grind (arith, nat_tests)

pub returns-else-round-ge2 : goal.returns-else-round-ge2
unfolding looks_at
returns-else-round-ge2 c = grind (arith, nat_tests)
