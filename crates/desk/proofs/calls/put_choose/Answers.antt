-- `calls::put_choose` meets its contract.
use Rattle.std.proofs.Common.{length, ◌-◌, drop, arith, length-drop}
use lib.Seq.{take_all}
use borrow.Author.Tests.{lt-ltb, le-ltb}
use Rattle.desk.specs.Desk.{choose_result}
use Rattle.desk.proofs.calls.put_choose.Goals as goal

pub returns-then-numbers-lt5 : goal.returns-then-numbers-lt5
unfolding choose_result
returns-then-numbers-lt5 c = rw (lt-ltb (length c.args.numbers.now) 5 c.if-numbers-lt5.true) c.put_malformed.ensures

pub returns : goal.returns
unfolding choose_result
returns c =
    let ns = c.args.numbers.now in
    let all = take_all (length ns - 5) (drop 5 ns) (omega (arith, length-drop 5 ns)) in
    rw (le-ltb (length ns) 5 c.if-numbers-lt5.false, ← all) c.put_stocks.ensures
