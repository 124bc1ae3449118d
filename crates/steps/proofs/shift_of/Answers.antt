-- `steps::shift_of` meets its contract.
use borrow.Author.Tests.{eq-eqb, ne_eqb}
use Rattle.steps.specs.Steps.{shift_of}
use Rattle.steps.proofs.shift_of.Goals as goal

pub returns-then-shape-eq0 : goal.returns-then-shape-eq0
unfolding shift_of
returns-then-shape-eq0 c = rw (eq-eqb _ _ c.if-shape-eq0.true, ← c.alpha_of.ensures.0)

pub returns : goal.returns
unfolding shift_of
returns c = rw (ne_eqb _ _ c.if-shape-eq0.false)
