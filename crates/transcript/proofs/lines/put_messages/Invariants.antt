-- The lines so far, and those of the messages that are left, are all.
use Prim.Native.Nat.{◌≤◌, ◌-◌, ◌*◌}
use mathlib.Core.Path.{◌≡◌}
use lib.ListN.{length, drop}
use Rattle.settings.specs.Schedule.{rounds}
use Rattle.text.specs.Text.{text_of, puts}
use Rattle.transcript.specs.Transcript.{message_lines}
use Rattle.transcript.proofs.lines.put_messages.Given as goal

abbrev pub invariant-loop-i : goal.invariant-loop-i
invariant-loop-i l =
    record {
      within : l.from ≤ length l.messages;
      same_slice : l.text.out.ghost_name ≡ l.initial.text.out.ghost_name;
      left : puts (text_of l.text) (message_lines l.shape (2 * rounds - l.i) l.i (drop l.from l.messages)) ≡ puts (text_of l.initial.text) (message_lines l.shape (2 * rounds) 0 l.messages);
    }
