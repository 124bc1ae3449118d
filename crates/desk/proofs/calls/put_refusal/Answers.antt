-- `desk::calls::put_refusal` meets its contract.
use Rattle.std.proofs.Common.{[], ◌∷◌}
use Rattle.text.proofs.Puts.{puts_then}
use Rattle.desk.specs.Desk.{refusal_text}
use Rattle.desk.proofs.calls.put_refusal.Goals as goal

pub returns : goal.returns
unfolding refusal_text
returns c = rw (← c.number.ensures.0) (puts_then (33 ∷ []) _ c.put_byte.ensures c.put_number.ensures)
