-- `page::put_page` meets its contract.
use Rattle.text.proofs.Puts.{puts_then}
use Rattle.top_digits.specs.Page.{page_text}
use Rattle.top_digits.proofs.page.put_page.Goals as goal

pub returns : goal.returns
unfolding page_text
returns c = rw (← c.top_digits.ensures) (puts_then _ _ c.put_head.ensures c.put_entries.ensures)
