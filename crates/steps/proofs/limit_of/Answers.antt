-- `steps::limit_of` meets its contract.
use native.Mathlib.Omega.{arith}
use borrow.Author.Tests.{lt-ltb, le-ltb}
use Rattle.steps.specs.Steps.{limit_of}
use Rattle.steps.proofs.limit_of.Goals as goal

pub returns-then-i-lt4 : goal.returns-then-i-lt4
unfolding limit_of
returns-then-i-lt4 c = (rw (lt-ltb _ _ c.if-i-lt4.true) c.base_of.ensures.0, c.base_of.ensures.1, c.base_of.ensures.2)

pub returns : goal.returns
unfolding limit_of
returns c = (rw (le-ltb _ _ c.if-i-lt4.false) c.parts_of.ensures.0, c.parts_of.ensures.1, omega arith)
