-- `execution::begin_at` meets its contract.
use Rattle.execution.specs.declared.CallKind.TheVariants.{Begin}
use Rattle.execution.proofs.Calls.{left}
use Rattle.execution.proofs.begin_at.Goals as goal

pub returns : goal.returns
returns c = rw c.answer_at.ensures (left Begin c.args.party c.args.e.now c.begin-done.result c.begin-done.new.side _ _ c.begin-done.ensures)
