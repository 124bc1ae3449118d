-- `message::get_bits` meets its contract.
use Rattle.message.proofs.Numbers.{Bytes, one_shl, bits-local, number_part}
use Rattle.settings.specs.Sizes.{bytes_for}
use Rattle.message.specs.Bits.{padding}
use Rattle.std.proofs.Common.{arith, rules, ◌≡◌, ◌-◌, ◌+◌, ◌*◌, ◌/◌, ◌%◌}
use Rattle.message.proofs.get_bits.Goals as goal

pub returns : goal.returns
returns c =
    let a = c.args in
    let bytes : Bytes a.bytes.now = λ j. search rules in
    let n = bytes_for (a.at % 8 + a.width) in
    let part : a.at / 8 + n - a.at / 8 ≡ n = omega arith in
    let e : 8 * n - a.at % 8 - a.width ≡ padding (a.at % 8 + a.width) = omega arith in
    rw (one_shl a.width (omega arith), c.get_number-x.ensures, part, number_part a.bytes.now bytes (a.at / 8) n (omega arith), e)
    (bits-local a.bytes.now a.at a.width (omega arith))
