-- `message::put_message` meets its contract.
use Rattle.std.proofs.Common.{arith, rules, refl}
use Rattle.message.proofs.Packing.{part_written}
use Rattle.message.proofs.Writing.{put_message_is}
use Rattle.message.proofs.Numbers.{Bytes}
use Rattle.message.proofs.put_message.Goals as goal

pub returns : goal.returns
returns c =
    let a = c.args in
    let bytes : Bytes a.out.now = λ j. search rules in
    let written = part_written a.out.now c.write_number.new.out 0 8 8 c.number.result refl (omega arith) c.write_number.ensures in
    (c.length_of.ensures, cc (put_message_is a.out.now bytes _ c.number.result a.fields.now (omega arith) (omega arith) written))
