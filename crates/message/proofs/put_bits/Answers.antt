-- `message::put_bits` meets its contract.
use Rattle.std.proofs.Common.{◌/◌, arith, rules}
use Rattle.message.proofs.Packing.{put_is, part_written}
use Rattle.message.proofs.Numbers.{Bytes}
use Rattle.message.proofs.put_bits.Goals as goal

pub returns : goal.returns
returns c =
    let a = c.args in
    let bytes : Bytes a.out.now = λ j. search rules in
    put_is a.out.now bytes a.at a.width a.value a.head _ (omega arith) (omega arith)
    c.requires.head_value.1 (omega arith) c.requires.head_value.0
    (part_written a.out.now c.write_number.new.out (a.at / 8) _ _ _ (omega arith) (omega arith) (rw c.from.ensures at c.write_number.ensures))
