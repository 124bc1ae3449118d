-- A call and the write behind it go on where the part stood; at its end the part is used up.
use Rattle.std.proofs.Common.{arith}
use Rattle.stream.proofs.Flushing.{part_on, part-done}
use Rattle.stream.proofs.reading.answer_part.Goals as goal

pub loop-at-preserved : goal.loop-at-preserved
loop-at-preserved g c =
    let h = g.A.LineAnswerer in
    let call = c.answer_some-call in
    let at = c.loop-at in
    record {
      in_range = omega arith;
      same = part_on h.handler at.here call.result.stream at.kept call.new.kept c.args.bytes.now call.new.out at.at call.result.used
          call.result.waiting (h.carried at.answerer) (h.carried call.new.answerer) _ call.ensures.bytes_after at.invariant.same;
    }

pub returns : goal.returns
returns g c =
    let h = g.A.LineAnswerer in
    part-done h.handler c.loop-at.here c.loop-at.kept c.args.bytes.now c.loop-at.at (h.carried c.loop-at.answerer) _ (omega arith) c.loop-at.invariant.same
