-- `calls::put_parts` meets its contract.
use Rattle.std.proofs.Common.{length}
use borrow.Author.Tests.{eq-eqb, ne_eqb}
use Rattle.desk.specs.Desk.{parts_result, decomposed_text}
use Rattle.desk.proofs.calls.put_parts.Goals as goal

pub returns-then-numbers-ne2 : goal.returns-then-numbers-ne2
unfolding parts_result
returns-then-numbers-ne2 c = rw (ne_eqb (length c.args.numbers.now) 2 c.if-numbers-ne2.true) c.put_malformed.ensures

pub returns-in-Ok : goal.returns-in-Ok
unfolding parts_result decomposed_text
returns-in-Ok c = rw (eq-eqb (length c.args.numbers.now) 2 c.if-numbers-ne2.false, ← c.in-Ok.ensures.value) c.put_high_low.ensures

pub returns-in-Err : goal.returns-in-Err
unfolding parts_result decomposed_text
returns-in-Err c = rw (eq-eqb (length c.args.numbers.now) 2 c.if-numbers-ne2.false, ← c.in-Err.ensures.value) c.put_refusal.ensures
