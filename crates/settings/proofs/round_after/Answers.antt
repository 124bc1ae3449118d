-- `settings::round_after` meets its contract.
use Rattle.lists.proofs.Choices.{choices}
use Rattle.settings.specs.Schedule.{round_after}
use Rattle.settings.proofs.round_after.Goals as goal

pub returns-then-m-lt-STEPS : goal.returns-then-m-lt-STEPS
unfolding round_after
returns-then-m-lt-STEPS c = search choices

pub returns : goal.returns
unfolding round_after
returns c = search choices
