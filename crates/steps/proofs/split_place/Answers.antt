-- `steps::split_place` meets its contract. Assumes nothing.
use Rattle.steps.specs.Context.{split_place}
use borrow.Author.Tests.{eq-eqb, ne_eqb}
use Rattle.steps.proofs.split_place.Goals as goal

pub returns-then-kind-eq0 : goal.returns-then-kind-eq0
unfolding split_place
returns-then-kind-eq0 c = rw (eq-eqb _ _ c.if-kind-eq0.true)

pub returns : goal.returns
unfolding split_place
returns c = rw (ne_eqb _ _ c.if-kind-eq0.false)
