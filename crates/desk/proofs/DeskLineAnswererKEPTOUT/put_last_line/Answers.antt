-- Nothing stands behind the answers.
use Rattle.text.proofs.Puts.{puts_none}
use Rattle.desk.proofs.DeskLineAnswererKEPTOUT.put_last_line.Goals as goal

pub returns-clause-text_after : goal.returns-clause-text_after
returns-clause-text_after c = puts_none _
