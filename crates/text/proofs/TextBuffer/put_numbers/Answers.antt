-- `text::TextBuffer::put_numbers` meets its contract.
use Rattle.std.proofs.Common.{arith}
use Rattle.text.specs.Text.{numbers_text}
use Rattle.text.proofs.Puts.{puts_none, numbers_more}
use Rattle.text.proofs.TextBuffer.put_numbers.Goals as goal

pub loop-number-init : goal.loop-number-init
unfolding numbers_text
loop-number-init c = puts_none _

pub loop-number-preserved : goal.loop-number-preserved
loop-number-preserved c =
    numbers_more c.args.numbers.now c.loop-number.number-index (omega arith) c.loop-number.invariant c.put_byte.ensures c.put_number.ensures
