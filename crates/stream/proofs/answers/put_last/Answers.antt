-- `answers::put_last` meets its contract.
use Rattle.std.proofs.Common.{arith}
use Rattle.stream.proofs.Closing.{closed-is, closed-within}
use Rattle.stream.proofs.answers.put_last.Goals as goal

pub returns-clause-out_after : goal.returns-clause-out_after
returns-clause-out_after g c =
    let h = g.A.LineAnswerer in
    let left = c.answer_left-end in
    let put = c.last_line_at in
    closed-is h.last_line _ _ _ left.result (h.carried left.new.answerer) _ left.ensures.state_after put.ensures.result_after
    (omega (arith, left.ensures.at_bound, put.ensures.last_len_bound, g.met.A.LineAnswerer.has_room))

pub returns-clause-upper_bound : goal.returns-clause-upper_bound
returns-clause-upper_bound g c =
    let h = g.A.LineAnswerer in
    let left = c.answer_left-end in
    let put = c.last_line_at in
    omega (
      arith,
      closed-within h.last_line _ _ _ left.result (h.carried left.new.answerer) _ left.ensures.state_after put.ensures.result_after
          (omega (arith, left.ensures.at_bound, put.ensures.last_len_bound, g.met.A.LineAnswerer.has_room)),
    )
