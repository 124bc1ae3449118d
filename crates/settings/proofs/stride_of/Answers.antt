-- `settings::stride_of` meets its contract. Assumes nothing.
use Rattle.settings.specs.Sizes.{stride}
use borrow.Author.Tests.{eq-eqb, ne_eqb}
use native.Mathlib.Omega.{arith}
use Rattle.settings.proofs.stride_of.Goals as goal

pub returns-then-shape-eq0 : goal.returns-then-shape-eq0
unfolding stride
returns-then-shape-eq0 c = rw (eq-eqb _ _ c.if-shape-eq0.true) (omega arith)

pub returns : goal.returns
unfolding stride
returns c = rw (ne_eqb _ _ c.if-shape-eq0.false) (omega arith)
