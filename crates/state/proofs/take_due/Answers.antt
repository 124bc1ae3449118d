-- `state::take_due` meets its contract.
use Rattle.state.specs.State.{take_due}
use Rattle.state.proofs.take_due.Goals as goal

pub returns : goal.returns
unfolding take_due
returns c = c.stands.ensures
