-- `message::read_message` meets its contract.
use Rattle.std.proofs.Common.{arith, sym}
use Rattle.lists.proofs.Fill.{fill_none, front-more}
use Rattle.message.proofs.read_message.Goals as goal

pub loop-field-init : goal.loop-field-init
loop-field-init c = record {
  same_message = cc;
  place = omega arith;
  read_so_far = sym (fill_none _ _ _);
}

pub loop-field-preserved : goal.loop-field-preserved
loop-field-preserved c =
    let read = c.read.ensures in
    let kept = c.loop-field.invariant in
    record {
      same_message = cc;
      place = omega arith;
      read_so_far = rw (kept.read_so_far, read.0, kept.same_message, kept.place) (sym (front-more _ _ _));
    }
