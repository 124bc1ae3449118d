-- `page::put_head` meets its contract.
use Rattle.text.proofs.Puts.{puts_then}
use Rattle.top_digits.specs.Page.{head_text}
use Rattle.top_digits.proofs.page.put_head.Goals as goal

pub returns : goal.returns
unfolding head_text
returns c = puts_then _ _ c.put_bytes.ensures (puts_then _ _ c.put_number.ensures c.put_bytes-2.ensures)
