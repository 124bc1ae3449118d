-- `line::answer_line` meets its contract.
use Rattle.std.proofs.Common.{[], ◌∷◌, arith, length-append}
use Rattle.text.proofs.Puts.{puts_then}
use Rattle.desk.specs.Desk.{line_result, desk_answer}
use Rattle.desk.proofs.line.answer_line.Goals as goal

pub returns : goal.returns
unfolding desk_answer
returns c =
    let put = c.put_result.ensures in
    record {
      text_after = puts_then _ _ put.text_after c.put_byte.ensures;
      line_len_bound = omega (arith, length-append (line_result c.args.line.now) (10 ∷ []), put.line_len_bound);
    }
