-- `lines::answer_line` meets its contract.
use Rattle.lines.specs.Plain.{line_answer}
use Rattle.lines.proofs.answer_line.Goals as goal

pub returns-clause-text_after : goal.returns-clause-text_after
unfolding line_answer
returns-clause-text_after c = rw (← c.line_result-result.ensures.result_value) c.put_result.ensures.text_after

pub returns-clause-line_len_bound : goal.returns-clause-line_len_bound
unfolding line_answer
returns-clause-line_len_bound c = rw (← c.line_result-result.ensures.result_value) c.put_result.ensures.res_len_bound
