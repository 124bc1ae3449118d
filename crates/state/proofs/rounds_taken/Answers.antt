-- `state::rounds_taken` meets its contract.
use native.Mathlib.Omega.{arith}
use Rattle.state.specs.State.{rounds_taken}
use Rattle.state.proofs.rounds_taken.Goals as goal

pub returns : goal.returns
unfolding rounds_taken
returns c = (rw (← c.step_of.ensures.0) c.taken_by.ensures, omega arith)
