-- `side::sent_side` meets its contract.
use native.Mathlib.Numerals.{add-one}
use Rattle.side.specs.Side.{sent_side}
use Rattle.side.proofs.sent_side.Goals as goal

pub returns : goal.returns
unfolding sent_side
returns c = rw (← c.step_of.ensures.0, ← add-one c.step_of.result) c.at_step.ensures
