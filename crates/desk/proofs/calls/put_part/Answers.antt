-- `calls::put_part` meets its contract.
use Rattle.std.proofs.Common.{length, ◌-◌, drop, arith, length-drop}
use lib.Seq.{take_all}
use Rattle.text.proofs.Puts.{puts_none, puts_then}
use Rattle.desk.proofs.Putting.{part_none, part-some}
use Rattle.desk.proofs.calls.put_part.Goals as goal

pub returns-then-part-eq0 : goal.returns-then-part-eq0
returns-then-part-eq0 c = rw (part_none c.args.part.now c.if-part-eq0.true) (puts_none _)

pub returns : goal.returns
returns c =
    let part = c.args.part.now in
    let all = take_all (length part - 1) (drop 1 part) (omega (arith, length-drop 1 part)) in
    rw (← part-some part (omega arith)) (puts_then _ _ c.put_number.ensures (rw all at c.put_numbers.ensures))
