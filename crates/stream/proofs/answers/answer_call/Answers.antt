-- `answers::answer_call` meets its contract.
use Rattle.std.proofs.Common.{sym, arith}
use lib.Seq.{length-take-le}
use Rattle.text.proofs.Puts.{front-put, within-put, length-put}
use Rattle.stream.proofs.Waiting.{held_in, called_open, called_ended}
use Rattle.stream.proofs.answers.answer_call.Goals as goal

pub returns-then-not-here-clause-state_after : goal.returns-then-not-here-clause-state_after
returns-then-not-here-clause-state_after g c =
    let a = c.args in
    let h = g.A.LineAnswerer in
    let step = c.next_line-step in
    called_open a.stream a.kept.now a.bytes.now step.result step.ensures.value h.handler a.out.now _ a.waiting (h.carried a.answerer.now) step.ensures.kept_after c.if-not-here.true

pub slice_bounds-answer_at-end-2 : goal.slice_bounds-answer_at-end-2
slice_bounds-answer_at-end-2 g c =
    let a = c.args in
    let step = c.next_line-step in
    omega (arith, held_in a.stream a.kept.now a.bytes.now step.result step.ensures.value)

pub slice_bounds-answer_at-end-3 : goal.slice_bounds-answer_at-end-3
slice_bounds-answer_at-end-3 g c =
    let a = c.before.before.before.before.before.before.args in
    let step = c.before.before.before.before.next_line-step in
    sym (length-take-le _ _ (omega (arith, held_in a.stream a.kept.now a.bytes.now step.result step.ensures.value)))

pub returns-clause-state_after : goal.returns-clause-state_after
returns-clause-state_after g c =
    let a = c.args in
    let h = g.A.LineAnswerer in
    let step = c.next_line-step in
    let line = c.answer_at-end in
    called_ended a.stream a.kept.now a.bytes.now step.result step.ensures.value h.handler a.out.now _ a.waiting (h.carried a.answerer.now) step.ensures.kept_after
    line.result _ (h.carried line.new.answerer) c.if-not-here.false
    (front-put a.out.now a.waiting _ _ line.result line.ensures.result_after (omega (arith, line.ensures.answer_len_bound, c.requires)))
    line.ensures.carried_after

pub returns-clause-waiting_in_bounds : goal.returns-clause-waiting_in_bounds
returns-clause-waiting_in_bounds g c =
    let a = c.args in
    let line = c.answer_at-end in
    omega (
      arith,
      within-put a.out.now a.waiting _ _ line.result line.ensures.result_after (omega (arith, line.ensures.answer_len_bound, c.requires)),
      length-put a.out.now a.waiting _ _ line.result line.ensures.result_after,
    )
