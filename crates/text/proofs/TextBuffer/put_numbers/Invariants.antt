-- `text::TextBuffer::put_numbers` meets its contract.
use lib.ListN.{take}
use Rattle.text.specs.Text.{Puts, numbers_text}
use Rattle.text.proofs.TextBuffer.put_numbers.Given as goal

abbrev pub invariant-loop-number : goal.invariant-loop-number
invariant-loop-number l = Puts l.initial.self l.self (numbers_text (take l.number-index l.numbers))
