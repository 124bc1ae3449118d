-- `calls::put_call` meets its contract.
use Rattle.desk.specs.Desk.{call_result}
use Rattle.desk.proofs.calls.put_call.Goals as goal

pub returns-in-Parts : goal.returns-in-Parts
unfolding call_result
returns-in-Parts c = rw c.in-Parts.is c.put_parts.ensures

pub returns-in-BoundVerdict : goal.returns-in-BoundVerdict
unfolding call_result
returns-in-BoundVerdict c = rw c.in-BoundVerdict.is c.put_verdict.ensures

pub returns-in-Choose : goal.returns-in-Choose
unfolding call_result
returns-in-Choose c = rw c.in-Choose.is c.put_choose.ensures

pub returns-in-Draw : goal.returns-in-Draw
unfolding call_result
returns-in-Draw c = rw c.in-Draw.is c.put_draw.ensures
