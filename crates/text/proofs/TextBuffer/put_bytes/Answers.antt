-- `text::TextBuffer::put_bytes` meets its contract.
use Rattle.std.proofs.Common.{arith}
use Rattle.text.proofs.Puts.{puts_none, bytes_more}
use Rattle.text.proofs.TextBuffer.put_bytes.Goals as goal

pub loop-byte-init : goal.loop-byte-init
loop-byte-init c = puts_none _

pub loop-byte-preserved : goal.loop-byte-preserved
loop-byte-preserved c = bytes_more c.args.bytes.now c.loop-byte.byte-index (omega arith) c.loop-byte.invariant c.put_byte.ensures
