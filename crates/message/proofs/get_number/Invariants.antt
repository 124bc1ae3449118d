-- `message::get_number`: the number of the bytes so far.
use Rattle.std.proofs.Common.{◌≡◌, take}
use Rattle.message.specs.Bits.{number_of}
use Rattle.message.proofs.get_number.Given as goal

abbrev pub invariant-loop-byte : goal.invariant-loop-byte
invariant-loop-byte l = l.x ≡ number_of (take l.byte-index l.bytes)
