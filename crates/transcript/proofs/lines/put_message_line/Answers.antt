-- `transcript::lines::put_message_line` meets its contract. Assumes nothing.
use Rattle.text.proofs.Puts.{puts_then}
use Rattle.transcript.specs.Transcript.{message_line}
use Rattle.transcript.proofs.lines.put_message_line.Goals as goal

pub returns : goal.returns
unfolding message_line
returns c =
    puts_then _ _
    (puts_then _ _
    (puts_then _ _
    (puts_then _ _
    (puts_then _ _
    c.put_number.ensures
    c.put_byte.ensures)
    c.put_number-2.ensures)
    c.put_byte-2.ensures)
    c.put_hex.ensures)
    c.put_byte-3.ensures
