-- `text::number_in` meets its contract.
use Rattle.std.proofs.Common.{arith, ◌∙◌}
use Rattle.text.proofs.Words.{digits_more, digits_stop, digits-done}
use Rattle.text.proofs.number_in.Goals as goal

pub returns-in_err-read : goal.returns-in_err-read
returns-in_err-read c =
    rw c.from_residual.ensures (digits_stop _ c.args.word.now c.loop-byte.byte-index c.loop-byte.invariant (omega arith) c.in_err-read.ensures)

pub loop-byte-preserved : goal.loop-byte-preserved
loop-byte-preserved c = digits_more _ c.args.word.now c.loop-byte.byte-index c.loop-byte.invariant c.in_ok-read.read (omega arith) c.in_ok-read.ensures

pub returns : goal.returns
returns c = c.end_digits.ensures ∙ digits-done _ c.args.word.now c.loop-byte.byte-index c.loop-byte.invariant (omega arith)
