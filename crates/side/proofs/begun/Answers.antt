-- `side::begun` meets its contract.
use Rattle.side.specs.Side.{begun_side}
use Rattle.side.proofs.begun.Goals as goal

pub returns : goal.returns
unfolding begun_side
returns c = rw (← c.round_after.ensures, ← c.phase_after.ensures)
