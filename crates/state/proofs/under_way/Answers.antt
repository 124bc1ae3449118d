-- `state::under_way` meets its contract.
use Rattle.state.specs.State.{under_way}
use Rattle.state.proofs.under_way.Goals as goal

pub returns-then-send_due : goal.returns-then-send_due
unfolding under_way
returns-then-send_due c = rw (← c.send_due.ensures, c.if-send_due.true)

pub returns-else-send_due : goal.returns-else-send_due
unfolding under_way
returns-else-send_due c = rw (← c.send_due.ensures, c.if-send_due.false) c.take_due.ensures
