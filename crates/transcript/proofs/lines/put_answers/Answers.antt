-- `transcript::lines::put_answers` meets its contract. Assumes nothing.
use Rattle.transcript.proofs.Putting.{answer_both}
use Rattle.transcript.proofs.lines.put_answers.Goals as goal

pub returns : goal.returns
returns c =
    let a = c.args in
    let result₀ = c.answer-result0.ensures in
    let result₁ = c.answer-result1.ensures in
    answer_both a.server a.phone _ result₀ c.put_answer_line.ensures _ result₁ c.put_answer_line-2.ensures
