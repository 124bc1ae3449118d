-- `page::put_refusal` meets its contract.
use Rattle.std.proofs.Common.{[], ◌∷◌}
use Rattle.text.proofs.Puts.{puts_then}
use Rattle.top_digits.specs.Page.{refusal_line}
use Rattle.top_digits.proofs.page.put_refusal.Goals as goal

pub returns : goal.returns
unfolding refusal_line
returns c = rw (← c.number.ensures.0) (puts_then (33 ∷ []) _ c.put_byte.ensures (puts_then _ _ c.put_number.ensures c.put_byte-2.ensures))
