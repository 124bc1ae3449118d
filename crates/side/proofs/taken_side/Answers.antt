-- `side::taken_side` meets its contract.
use native.Mathlib.Numerals.{add-one}
use Rattle.side.specs.Side.{taken_side}
use Rattle.side.proofs.taken_side.Goals as goal

pub returns : goal.returns
unfolding taken_side
returns c = rw (← c.step_of.ensures.0, ← add-one c.step_of.result, ← c.kept_answer-kept.ensures) c.at_step.ensures
