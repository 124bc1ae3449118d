-- `text::TextBuffer::put_hex` meets its contract.
use lib.ListN.{take}
use Rattle.text.specs.Text.{Puts, hex_bytes}
use Rattle.text.proofs.TextBuffer.put_hex.Given as goal

abbrev pub invariant-loop-byte : goal.invariant-loop-byte
invariant-loop-byte l = Puts l.initial.self l.self (hex_bytes (take l.byte-index l.bytes))
