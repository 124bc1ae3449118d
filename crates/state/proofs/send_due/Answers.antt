-- `state::send_due` meets its contract.
use Rattle.state.specs.State.{send_due}
use Rattle.state.proofs.send_due.Goals as goal

pub returns : goal.returns
unfolding send_due
returns c = c.stands.ensures
