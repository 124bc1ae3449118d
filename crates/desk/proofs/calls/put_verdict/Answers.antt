-- `calls::put_verdict` meets its contract.
use mir.Val.{bool_byte}
use Rattle.lists.specs.Answers.{bit}
use Rattle.std.proofs.Common.{◌≡◌, refl, Bool, true, false, length, ◌-◌, drop, arith, length-drop}
use lib.Seq.{take_all}
use borrow.Author.Tests.{lt-ltb, le-ltb}
use Rattle.desk.specs.Desk.{verdict_result, verdict_text}
use Rattle.desk.proofs.calls.put_verdict.Goals as goal

-- a verdict as a number
bit_byte : (b : Bool) → bit b ≡ bool_byte b
unfolding bit
bit_byte true = refl
bit_byte false = refl

pub returns-then-numbers-lt2 : goal.returns-then-numbers-lt2
unfolding verdict_result
returns-then-numbers-lt2 c = rw (lt-ltb (length c.args.numbers.now) 2 c.if-numbers-lt2.true) c.put_malformed.ensures

pub returns-in-Ok : goal.returns-in-Ok
unfolding verdict_result verdict_text
returns-in-Ok c =
    let ns = c.args.numbers.now in
    let all = take_all (length ns - 2) (drop 2 ns) (omega (arith, length-drop 2 ns)) in
    rw (le-ltb (length ns) 2 c.if-numbers-lt2.false, ← all, ← c.in-Ok.ensures, bit_byte c.in-Ok.inside, ← c.from.ensures) c.put_number.ensures

pub returns-in-Err : goal.returns-in-Err
unfolding verdict_result verdict_text
returns-in-Err c =
    let ns = c.args.numbers.now in
    let all = take_all (length ns - 2) (drop 2 ns) (omega (arith, length-drop 2 ns)) in
    rw (le-ltb (length ns) 2 c.if-numbers-lt2.false, ← all, ← c.in-Err.ensures) c.put_refusal.ensures
