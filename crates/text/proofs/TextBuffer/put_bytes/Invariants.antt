-- `text::TextBuffer::put_bytes` meets its contract.
use lib.ListN.{take}
use Rattle.text.specs.Text.{Puts}
use Rattle.text.proofs.TextBuffer.put_bytes.Given as goal

abbrev pub invariant-loop-byte : goal.invariant-loop-byte
invariant-loop-byte l = Puts l.initial.self l.self (take l.byte-index l.bytes)
