-- `answers::answer_left` meets its contract.
use Rattle.std.proofs.Common.{ap, arith}
use mathlib.Core.Bool.{not}
use Rattle.text.proofs.Puts.{front-put, at-put}
use Rattle.stream.proofs.Waiting.{last_none, last_some}
use Rattle.stream.proofs.answers.answer_left.Goals as goal

pub returns-then-not-is_left-clause-state_after : goal.returns-then-not-is_left-clause-state_after
returns-then-not-is_left-clause-state_after g c =
    let a = c.args in
    let h = g.A.LineAnswerer in
    last_none h.handler a.stream a.kept.now (h.carried a.answerer.now) c.is_left.result c.is_left.ensures (ap not c.if-not-is_left.true)

pub returns-clause-state_after : goal.returns-clause-state_after
returns-clause-state_after g c =
    let a = c.args in
    let h = g.A.LineAnswerer in
    let line = c.answer_at in
    last_some h.handler a.stream a.kept.now (h.carried a.answerer.now) c.is_left.result c.is_left.ensures _ (h.carried line.new.answerer) c.min-n.result (ap not c.if-not-is_left.false)
    c.min-n.ensures (front-put a.out.now 0 _ _ line.result line.ensures.result_after (omega (arith, line.ensures.answer_len_bound, c.told-out, g.met.A.LineAnswerer.has_room)))
    line.ensures.carried_after

pub returns-clause-at_bound : goal.returns-clause-at_bound
returns-clause-at_bound g c =
    let a = c.args in
    let line = c.answer_at in
    omega (arith, at-put a.out.now 0 _ _ line.result line.ensures.result_after (omega (arith, line.ensures.answer_len_bound, c.told-out, g.met.A.LineAnswerer.has_room)), line.ensures.answer_len_bound)
