-- `generator::next_state` meets its contract.
use mathlib.Core.Path.{refl}
use Rattle.generator.specs.Step.{step, mixed_left, mixed_right}
use Rattle.generator.proofs.next_state.Goals as goal

pub returns : goal.returns
unfolding step mixed_left mixed_right
returns c = refl
