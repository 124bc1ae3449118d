-- What is left of the part leads where all of it did; an answer waits only once bytes are used; one more has room.
use Rattle.std.proofs.Common.{length, ◌-◌, ◌+◌, ◌≤◌, ◌≡◌, drop, min}
use Rattle.stream.specs.Waiting.{standing, all_calls}
use Rattle.stream.proofs.answers.answer_some.Given as goal

abbrev pub invariant-loop-used : goal.invariant-loop-used
invariant-loop-used g l =
    let h = g.A.LineAnswerer in
    record {
      in_range : l.used ≤ length l.bytes;
      waits : l.waiting ≤ g.row.OUT;
      some : min l.waiting 1 ≤ l.used;
      room : l.most + h.LONGEST_ANSWER ≡ g.row.OUT;
      same : all_calls h.handler (standing l.here l.kept l.out l.waiting (h.carried l.answerer)) (drop l.used l.bytes)
          ≡ all_calls h.handler (standing l.initial.here l.initial.kept l.initial.out 0 (h.carried l.initial.answerer)) l.bytes;
    }

abbrev pub decreases-loop-used : goal.decreases-loop-used
decreases-loop-used g l = length l.bytes - l.used
