-- `message::get_number` meets its contract.
use Rattle.std.proofs.Common.{arith, rules}
use Rattle.message.proofs.Numbers.{Bytes, number_none, number_more, number_small}
use Rattle.message.proofs.get_number.Goals as goal

pub loop-byte-init : goal.loop-byte-init
loop-byte-init c = number_none

pub overflow_mul-x : goal.overflow_mul-x
overflow_mul-x c =
    let bytes : Bytes c.args.bytes.now = λ j. search rules in
    omega (arith, number_small c.args.bytes.now bytes c.loop-byte.byte-index (omega arith))

pub overflow_add-x : goal.overflow_add-x
overflow_add-x c =
    let bytes : Bytes c.args.bytes.now = λ j. search rules in
    omega (arith, number_small c.args.bytes.now bytes c.loop-byte.byte-index (omega arith))

pub loop-byte-preserved : goal.loop-byte-preserved
loop-byte-preserved c =
    let k = c.loop-byte.byte-index in
    rw (c.loop-byte.invariant, c.from.ensures) (number_more c.args.bytes.now k c.loop-byte-test.true)
