-- `state::phase_after` meets its contract.
use Rattle.lists.proofs.Choices.{choices}
use Rattle.state.specs.State.{phase_after}
use Rattle.state.proofs.phase_after.Goals as goal

pub returns-then-m-ge-STEPS : goal.returns-then-m-ge-STEPS
unfolding phase_after
returns-then-m-ge-STEPS c = search choices

pub returns-then-sends_after : goal.returns-then-sends_after
unfolding phase_after
returns-then-sends_after c = search choices

pub returns : goal.returns
unfolding phase_after
returns c = search choices
