-- `message::read_message`: the fields so far are read, and the reader stands behind them in the same message.
use Rattle.std.proofs.Common.{◌≡◌, ◌+◌, ◌*◌}
use Rattle.lists.specs.Lists.{fill}
use Rattle.message.specs.Fields.{field_at}
use Rattle.message.proofs.read_message.Given as goal

abbrev pub invariant-loop-field : goal.invariant-loop-field
invariant-loop-field l = record {
  same_message : l.reader.bytes.now ≡ l.message;
  place : l.reader.at ≡ 64 + 23 * l.field-index;
  read_so_far : l.fields ≡ fill l.initial.fields 0 l.field-index (field_at l.message);
}
