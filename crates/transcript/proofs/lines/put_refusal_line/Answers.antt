-- `transcript::lines::put_refusal_line` meets its contract. Assumes nothing.
use Rattle.text.proofs.Puts.{puts_then}
use Rattle.transcript.specs.Transcript.{refusal_line}
use Rattle.transcript.proofs.lines.put_refusal_line.Goals as goal

pub returns : goal.returns
unfolding refusal_line
returns c =
    rw (← c.number.ensures.0)
    (puts_then _ _
    (puts_then _ _
    (puts_then _ _
    (puts_then _ _
    (puts_then _ _
    (puts_then _ _
    c.put_bytes.ensures
    c.put_call.ensures)
    c.put_byte.ensures)
    c.put_party.ensures)
    c.put_byte-2.ensures)
    c.put_number.ensures)
    c.put_byte-3.ensures)
