-- `calls::put_choice` meets its contract.
use borrow.Author.Tests.{ne_eqb}
use Rattle.settings.specs.Refusals.{number_of}
use Rattle.settings.proofs.Refused.{number_nonzero}
use Rattle.desk.specs.Desk.{choose_text}
use Rattle.desk.proofs.calls.put_choice.Goals as goal

pub returns-in-Err : goal.returns-in-Err
unfolding choose_text
returns-in-Err c =
    rw (← c.in-Err.ensures, ne_eqb (number_of c.in-Err.no) 0 (number_nonzero c.in-Err.no)) c.put_refusal.ensures

pub returns : goal.returns
unfolding choose_text
returns c = rw (← c.in_default.ensures, ← c.choose.ensures) c.put_part.ensures
