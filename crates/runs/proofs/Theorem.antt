-- Progress, messages and demand 2, for any number of keys.
use Prim.Native.Nat.{ℕ}
use Rattle.message.proofs.RoundTrip.{round_trip}
use Rattle.book.proofs.Laws.{laws}
use Rattle.column.proofs.Joins.{work-joins}
use Rattle.column.proofs.PlainRun.{plain_run}
use Rattle.runs.specs.Honest.{Runs}
use Rattle.runs.specs.Demands.{Demand2, Demand2Steady}
use Rattle.runs.specs.Theorems.{Progress, MessagesAreSteps}
use Rattle.runs.proofs.Whole.{progress_law}
use Rattle.runs.proofs.Steady.{steady}
use Rattle.runs.proofs.Answers.{demand2}
use Rattle.runs.proofs.Runs.{runs}
use Rattle.runs.proofs.Sent.{messages_are_steps}

module _ (k : ℕ) where
  -- the honest run, by ColumnsJoin, messages and books
  pub honest : Runs k
  honest = runs k work-joins round_trip laws

  pub progress : Progress k
  progress = progress_law k honest

  pub every_run_ends : Demand2 k
  every_run_ends = demand2 k progress plain_run

  pub every_run_steady : Demand2Steady k
  every_run_steady = steady k honest

  pub every_message_is_a_step : MessagesAreSteps k
  every_message_is_a_step = messages_are_steps k honest work-joins laws
