-- `syntax::put_answer` meets its contract.
use Rattle.text.proofs.Puts.{puts_then}
use Rattle.syntax.specs.Answer.{answer_text}
use Rattle.syntax.proofs.put_answer.Goals as goal

pub returns : goal.returns
unfolding answer_text
returns c = puts_then _ _ (puts_then _ _ c.put_number.ensures c.put_result.ensures) c.put_byte.ensures
