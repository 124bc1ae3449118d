-- The numbers that stand, and the words that are left, are those of the line.
use Rattle.std.proofs.Common.{length, ◌-◌, ◌+◌, ◌≤◌, ◌≡◌}
use Rattle.syntax.specs.Line.{words, values_of}
use Rattle.desk.specs.Desk.{fields_of}
use Rattle.desk.proofs.Numbers.{numbers_from}
use Rattle.desk.proofs.words.read_numbers.Given as goal

abbrev pub invariant-loop-at : goal.invariant-loop-at
invariant-loop-at l =
    record {
      in_range : l.at ≤ length l.line + 1;
      room : l.count + l.count ≤ l.at;
      values : numbers_from l.line l.numbers l.count l.at ≡ values_of (fields_of (words l.line));
    }

abbrev pub decreases-loop-at : goal.decreases-loop-at
decreases-loop-at l = length l.line + 1 - l.at
