-- `stream::next_line` meets its contract. Assumes nothing.
use Rattle.stream.proofs.Held.{line_ended, line_open, line_kept}
use Rattle.stream.proofs.next_line.Goals as goal

pub returns-then-n-bytes : goal.returns-then-n-bytes
returns-then-n-bytes c =
    let a = c.args in
    let line = c.at_line-line in
    let n = c.length_before_by_blocks-n in
    let hold = c.hold-held in record {
      value = line_ended a.stream line.result a.kept.now a.bytes.now n.result hold.result
          line.ensures n.ensures.0 hold.ensures.value c.if-n-bytes.true;
      kept_after = line_kept a.stream line.result a.kept.now a.bytes.now n.result hold.result
          line.ensures n.ensures.0 hold.ensures.value _ hold.ensures.kept_after;
    }

pub returns : goal.returns
returns c =
    let a = c.args in
    let line = c.at_line-line in
    let n = c.length_before_by_blocks-n in
    let hold = c.hold-held in record {
      value = line_open a.stream line.result a.kept.now a.bytes.now n.result hold.result
          line.ensures n.ensures.0 hold.ensures.value c.if-n-bytes.false;
      kept_after = line_kept a.stream line.result a.kept.now a.bytes.now n.result hold.result
          line.ensures n.ensures.0 hold.ensures.value _ hold.ensures.kept_after;
    }
