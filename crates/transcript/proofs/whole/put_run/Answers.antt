-- `transcript::whole::put_run` meets its contract. Assumes nothing.
use Rattle.text.proofs.Puts.{puts_then}
use Rattle.transcript.specs.Transcript.{run_text}
use Rattle.transcript.proofs.whole.put_run.Goals as goal

pub returns : goal.returns
unfolding run_text
returns c =
    puts_then _ _
    (puts_then _ _
    (puts_then _ _
    c.put_messages.ensures
    c.put_end.ensures)
    c.put_openings.ensures)
    c.put_openings-2.ensures
