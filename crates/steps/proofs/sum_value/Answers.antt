-- `steps::sum_value` meets its contract. Assumes nothing.
use native.Mathlib.Nat.{add-zero}
use Rattle.steps.proofs.sum_value.Goals as goal

pub returns : goal.returns
returns c = λ κ. rw add-zero (c.weighted_sum.ensures κ)
