-- `steps::addend_value` meets its contract.
use Rattle.steps.specs.Gates.{addend_form}
use borrow.Author.Tests.{eq-eqb, ne_eqb}
use Rattle.steps.proofs.addend_value.Goals as goal
use Rattle.steps.proofs.addend_value.Goals.{else-gate-eq0-via-then-gate-eq0+else-gate-eq1, else-gate-eq0-via-else-gate-eq0}

pub returns-then-gate-eq1 : goal.returns-then-gate-eq1
unfolding addend_form
returns-then-gate-eq1 c = λ κ. rw (eq-eqb _ _ c.if-gate-eq0.true, eq-eqb _ _ c.if-gate-eq1.true, ← c.sum_value-a.ensures κ, ← c.register.ensures) c.add_mod.ensures

pub returns : goal.returns
unfolding addend_form
returns c =
    elim c.else-gate-eq0.branch [
      | else-gate-eq0-via-then-gate-eq0+else-gate-eq1 w ↦ λ κ. rw (eq-eqb _ _ w.if-gate-eq0.true, ne_eqb _ _ w.if-gate-eq1.false) (c.sum_value-a.ensures κ)
      | else-gate-eq0-via-else-gate-eq0 w ↦ λ κ. rw (ne_eqb _ _ w.if-gate-eq0.false) (c.sum_value-a.ensures κ)
    ]
