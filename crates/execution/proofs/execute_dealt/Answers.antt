-- `execution::execute_dealt` meets its contract.
use Rattle.execution.proofs.Whole.{ends-noted}
use Rattle.execution.proofs.execute_dealt.Goals as goal

pub deal_and_play-requires-clause-room : goal.deal_and_play-requires-clause-room
deal_and_play-requires-clause-room c = (c.new-x.ensures, c.requires.2)

pub returns : goal.returns
returns c = rw c.err-x.ensures.value (ends-noted _ _ c.deal_and_play.new.self _ _ _ c.deal_and_play.ensures)
