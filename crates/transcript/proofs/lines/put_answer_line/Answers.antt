-- `transcript::lines::put_answer_line` meets its contract.
use borrow.Author.Tests.{ne_eqb}
use Rattle.lists.proofs.Lists.{take_min}
use Rattle.settings.specs.Refusals.{number_of}
use Rattle.settings.proofs.Refused.{number_nonzero}
use Rattle.transcript.specs.Transcript.{answer_or_refusal}
use Rattle.transcript.proofs.lines.put_answer_line.Goals as goal

pub returns-in-Ok : goal.returns-in-Ok
unfolding answer_or_refusal
returns-in-Ok c =
    rw c.in-Ok.is
    (rw (take_min c.in-Ok.length c.min-length.result c.args.numbers.now c.min-length.ensures) at c.put_numbers_line.ensures)

pub returns-in-Err : goal.returns-in-Err
unfolding answer_or_refusal
returns-in-Err c = rw (c.in-Err.is, ne_eqb (number_of c.in-Err.refusal) 0 (number_nonzero c.in-Err.refusal)) c.put_refusal_line.ensures
