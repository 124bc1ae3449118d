-- `transcript::lines::put_openings` meets its contract. Assumes nothing.
use Rattle.text.proofs.Puts.{puts_then}
use Rattle.transcript.specs.Transcript.{openings_line}
use Rattle.transcript.proofs.lines.put_openings.Goals as goal

pub returns : goal.returns
unfolding openings_line
returns c =
    rw (← c.opening_count-count.ensures, ← c.number.ensures)
    (puts_then _ _
    (puts_then _ _
    (puts_then _ _
    (puts_then _ _
    c.put_bytes.ensures
    c.put_number.ensures)
    c.put_byte.ensures)
    c.put_number-2.ensures)
    c.put_byte-2.ensures)
