-- The rounds so far.
use Rattle.std.proofs.Common.{None}
use Rattle.execution.specs.Held.{held_in, RoundsRun}
use Rattle.execution.proofs.Execution.run_rounds.Given as goal

abbrev pub invariant-loop : goal.invariant-loop
invariant-loop l = RoundsRun l.counter l.initial.self (held_in l.initial.server l.initial.phone l.initial.messages) None l.self (held_in l.server l.phone l.messages)
