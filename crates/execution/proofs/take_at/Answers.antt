-- `execution::take_at` meets its contract.
use Rattle.execution.specs.declared.CallKind.TheVariants.{Take}
use Rattle.execution.proofs.Calls.{left}
use Rattle.execution.proofs.take_at.Goals as goal

pub returns : goal.returns
returns c = rw c.answer_at.ensures (left Take c.args.party c.args.e.now c.take-done.result c.take-done.new.side _ _ c.take-done.ensures)
