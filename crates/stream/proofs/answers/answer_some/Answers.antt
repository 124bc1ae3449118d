-- `answers::answer_some` meets its contract.
use Rattle.std.proofs.Common.{arith}
use Rattle.stream.proofs.Waiting.{more_used, used_in, calls_on}
use Rattle.stream.proofs.answers.answer_some.Goals as goal

pub overflow_add-used : goal.overflow_add-used
overflow_add-used g c =
    let loop = c.loop-used in
    let call = c.answer_call-call in
    omega (arith, used_in loop.here loop.kept c.args.bytes.now loop.used call.result.used (omega (arith, c.loop-used-test.true)) call.ensures.used_value, c.well_formed)

pub loop-used-smaller : goal.loop-used-smaller
loop-used-smaller g c =
    let loop = c.loop-used in
    let call = c.answer_call-call in
    omega (arith, more_used loop.here loop.kept c.args.bytes.now loop.used call.result.used (omega (arith, c.loop-used-test.true)) call.ensures.used_value)

pub loop-used-preserved : goal.loop-used-preserved
loop-used-preserved g c =
    let h = g.A.LineAnswerer in
    let bytes = c.args.bytes.now in
    let loop = c.loop-used in
    let call = c.answer_call-call in
    let more = more_used loop.here loop.kept bytes loop.used call.result.used (omega (arith, c.loop-used-test.true)) call.ensures.used_value in
    record {
      in_range = used_in loop.here loop.kept bytes loop.used call.result.used (omega (arith, c.loop-used-test.true)) call.ensures.used_value;
      waits = omega (arith, call.ensures.waiting_in_bounds);
      some = omega (arith, more);
      room = loop.invariant.room;
      same = calls_on loop.here loop.kept bytes loop.used call.result.used (omega (arith, c.loop-used-test.true)) call.ensures.used_value h.handler loop.out
          loop.waiting (h.carried loop.answerer) _ _ call.ensures.state_after loop.invariant.same;
    }
