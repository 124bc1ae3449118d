-- `steps::v_value` meets its contract. Assumes nothing.
use Rattle.steps.specs.Gates.{v_form}
use native.Mathlib.Nat.{add-zero}
use borrow.Author.Tests.{eq-eqb, ne_eqb}
use Rattle.steps.proofs.v_value.Goals as goal

pub returns-then-gate-eq0 : goal.returns-then-gate-eq0
unfolding v_form
returns-then-gate-eq0 c = λ κ. rw (eq-eqb _ _ c.if-gate-eq0.true, add-zero) (c.raised_by.ensures κ)

pub returns : goal.returns
unfolding v_form
returns c = λ κ. rw (ne_eqb _ _ c.if-gate-eq0.false) c.register.ensures
