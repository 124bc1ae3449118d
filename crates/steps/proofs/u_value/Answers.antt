-- `steps::u_value` meets its contract. Assumes nothing.
use Rattle.steps.specs.Gates.{u_form}
use borrow.Author.Tests.{eq-eqb, ne_eqb}
use Rattle.steps.proofs.u_value.Goals as goal

pub returns-then-gate-eq0 : goal.returns-then-gate-eq0
unfolding u_form
returns-then-gate-eq0 c = λ κ. rw (eq-eqb _ _ c.if-gate-eq0.true) c.register.ensures

pub returns : goal.returns
unfolding u_form
returns c = λ κ. rw (ne_eqb _ _ c.if-gate-eq0.false) c.register-2.ensures
