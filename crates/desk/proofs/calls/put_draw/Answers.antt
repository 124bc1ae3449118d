-- `calls::put_draw` meets its contract.
use Rattle.std.proofs.Common.{length}
use borrow.Author.Tests.{eq-eqb, ne_eqb}
use Rattle.desk.specs.Desk.{draw_result, draw_text}
use Rattle.desk.proofs.calls.put_draw.Goals as goal

pub returns-then-numbers-ne4 : goal.returns-then-numbers-ne4
unfolding draw_result
returns-then-numbers-ne4 c = rw (ne_eqb (length c.args.numbers.now) 4 c.if-numbers-ne4.true) c.put_malformed.ensures

pub returns-in-Ok : goal.returns-in-Ok
unfolding draw_result draw_text
returns-in-Ok c = rw (eq-eqb (length c.args.numbers.now) 4 c.if-numbers-ne4.false, ← c.in-Ok.ensures) c.put_draw_of.ensures

pub returns-in-Err : goal.returns-in-Err
unfolding draw_result draw_text
returns-in-Err c = rw (eq-eqb (length c.args.numbers.now) 4 c.if-numbers-ne4.false, ← c.in-Err.ensures) c.put_refusal.ensures
