-- `transcript::lines::put_messages` meets its contract.
use Rattle.std.proofs.Common.{◌∙◌}
use native.Mathlib.Omega.{arith}
use Rattle.text.specs.Text.{text_of}
use Rattle.transcript.proofs.Putting.{lines_more, lines_done, lines_end}
use Rattle.transcript.proofs.lines.put_messages.Goals as goal

pub returns-then-from-messages : goal.returns-then-from-messages
returns-then-from-messages c =
    let loop = c.loop-i in
    record {
      same_slice = loop.invariant.same_slice;
      text = lines_done c.args.shape (text_of loop.text) _ c.args.messages.now _ loop.i loop.from (omega arith) loop.invariant.left;
    }

pub loop-i-preserved : goal.loop-i-preserved
loop-i-preserved c =
    let loop = c.loop-i in
    let put = c.put_message_line.ensures in
    record {
      within = omega arith;
      same_slice = put.same_slice ∙ loop.invariant.same_slice;
      left = lines_more c.args.shape (text_of loop.text) _ _ c.args.messages.now loop.i loop.from _ (omega arith) (omega arith) (rw (← c.message_size.ensures) c.min.ensures)
          loop.invariant.left put.text;
    }

pub returns : goal.returns
returns c =
    let loop = c.loop-i in
    record {
      same_slice = loop.invariant.same_slice;
      text = lines_end c.args.shape (text_of loop.text) _ c.args.messages.now loop.i loop.from (omega arith) loop.invariant.left;
    }
