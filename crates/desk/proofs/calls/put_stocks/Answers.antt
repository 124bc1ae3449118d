-- `calls::put_stocks` meets its contract.
use Rattle.std.proofs.Common.{length, ◌-◌, drop, arith, length-drop}
use lib.Seq.{take_all}
use borrow.Author.Tests.{lt-ltb, le-ltb}
use Rattle.desk.specs.Desk.{stocks_text}
use Rattle.desk.proofs.calls.put_stocks.Goals as goal

pub returns-then-count-stocks : goal.returns-then-count-stocks
unfolding stocks_text
returns-then-count-stocks c = rw (lt-ltb (length c.args.stocks.now) c.args.count c.if-count-stocks.true) c.put_malformed.ensures

pub returns : goal.returns
unfolding stocks_text
returns c =
    let s = c.args.stocks.now in
    let n = c.args.count in
    let all = take_all (length s - n) (drop n s) (omega (arith, length-drop n s)) in
    rw (le-ltb (length s) n c.if-count-stocks.false, ← all) c.put_choice.ensures
