-- What holds between two calls of `answer_some`: what is left of the part leads where all of it did.
use Rattle.std.proofs.Common.{length, ◌-◌, ◌≡◌, [], ◌≤◌, drop}
use Rattle.stream.specs.Waiting.{standing, flushed, all_calls}
use Rattle.stream.proofs.reading.answer_part.Given as goal

abbrev pub invariant-loop-at : goal.invariant-loop-at
invariant-loop-at g l =
    let h = g.A.LineAnswerer in
    record {
      in_range : l.at ≤ length l.bytes;
      same : flushed (all_calls h.handler (standing l.here l.kept [] 0 (h.carried l.answerer)) (drop l.at l.bytes))
          ≡ flushed (all_calls h.handler (standing l.initial.here l.initial.kept [] 0 (h.carried l.initial.answerer)) l.bytes);
    }

abbrev pub decreases-loop-at : goal.decreases-loop-at
decreases-loop-at g l = length l.bytes - l.at
