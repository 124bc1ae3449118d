-- `message::put_fields`: the fields so far stand behind the header.
use Rattle.std.proofs.Common.{◌≡◌, ◌+◌, ◌*◌, ◌%◌, ◌^◌}
use Rattle.message.proofs.Writing.{put_to}
use Rattle.message.specs.Fields.{first_bits}
use Rattle.message.proofs.put_fields.Given as goal

abbrev pub invariant-loop-field : goal.invariant-loop-field
invariant-loop-field l = record {
  place : l.at ≡ 64 + 23 * l.field-index;
  written : l.out ≡ put_to l.initial.out l.fields l.field-index;
  left : l.head ≡ first_bits l.out l.at % 2 ^ (l.at % 8);
}
