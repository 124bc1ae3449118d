-- `text::TextBuffer::put_hex` meets its contract.
use Rattle.std.proofs.Common.{arith}
use Rattle.text.specs.Text.{hex_bytes}
use Rattle.text.proofs.Puts.{puts_none, hex_more}
use Rattle.text.proofs.TextBuffer.put_hex.Goals as goal

pub loop-byte-init : goal.loop-byte-init
unfolding hex_bytes
loop-byte-init c = puts_none _

pub loop-byte-preserved : goal.loop-byte-preserved
loop-byte-preserved c = hex_more c.args.bytes.now c.loop-byte.byte-index (omega arith) c.loop-byte.invariant c.put_hex_byte.ensures
