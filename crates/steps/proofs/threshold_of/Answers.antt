-- `steps::threshold_of` meets its contract.
use borrow.Author.Tests.{eq-eqb, ne_eqb}
use Rattle.rounding.specs.Rounds.{threshold}
use Rattle.steps.proofs.threshold_of.Goals as goal

pub returns-then-which-eq0 : goal.returns-then-which-eq0
unfolding threshold
returns-then-which-eq0 c = rw (eq-eqb _ _ c.if-which-eq0.true) c.sub_mod.ensures

pub returns : goal.returns
unfolding threshold
returns c = rw (ne_eqb _ _ c.if-which-eq0.false) c.sub_mod-2.ensures
