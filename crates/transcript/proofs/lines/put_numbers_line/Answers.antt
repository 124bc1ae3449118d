-- `transcript::lines::put_numbers_line` meets its contract. Assumes nothing.
use Rattle.text.proofs.Puts.{puts_then}
use Rattle.transcript.specs.Transcript.{numbers_line}
use Rattle.transcript.proofs.lines.put_numbers_line.Goals as goal

pub returns : goal.returns
unfolding numbers_line
returns c =
    rw (← c.number.ensures)
    (puts_then _ _
    (puts_then _ _
    (puts_then _ _
    c.put_bytes.ensures
    c.put_number.ensures)
    c.put_numbers.ensures)
    c.put_byte.ensures)
