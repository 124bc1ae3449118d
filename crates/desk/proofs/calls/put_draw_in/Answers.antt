-- `calls::put_draw_in` meets its contract.
use Rattle.std.proofs.Common.{[], ◌∷◌}
use borrow.Author.Tests.{ne_eqb}
use Rattle.settings.specs.Refusals.{number_of}
use Rattle.settings.proofs.Refused.{number_nonzero}
use Rattle.desk.specs.Desk.{drawn_text}
use Rattle.text.proofs.Puts.{puts_then}
use Rattle.desk.proofs.calls.put_draw_in.Goals as goal

pub returns-in-Err : goal.returns-in-Err
unfolding drawn_text
returns-in-Err c =
    rw (← c.in-Err.ensures, ne_eqb (number_of c.in-Err.no) 0 (number_nonzero c.in-Err.no)) c.put_refusal.ensures

pub returns : goal.returns
unfolding drawn_text
returns c =
    rw (← c.in_default.ensures)
    (puts_then _ _ c.put_part.ensures (puts_then (32 ∷ []) _ c.put_byte.ensures c.put_number.ensures))
