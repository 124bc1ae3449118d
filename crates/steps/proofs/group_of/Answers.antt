-- `steps::group_of` meets its contract.
use borrow.Author.Tests.{eq-eqb, ne_eqb}
use Rattle.steps.specs.Steps.{group_of}
use Rattle.steps.proofs.group_of.Goals as goal

pub returns-then-kind-eq0 : goal.returns-then-kind-eq0
unfolding group_of
returns-then-kind-eq0 c = rw (eq-eqb _ _ c.if-kind-eq0.true)

pub returns : goal.returns
unfolding group_of
returns c = rw (ne_eqb _ _ c.if-kind-eq0.false)
