-- `syntax::read_words` meets its contract.
use Rattle.std.proofs.Common.{◌≡◌, ◌+◌, length}
use Rattle.syntax.specs.Line.{words}
use Rattle.syntax.specs.Reading.{with_words, start_words}
use Rattle.syntax.proofs.Words.{left_by}
use Rattle.syntax.proofs.Readings.{reading}
use Rattle.syntax.proofs.read_words.Given as goal

abbrev pub invariant-loop-word : goal.invariant-loop-word
invariant-loop-word l =
    record {
      places : length l.values ≡ 11;
      room : l.count + length (left_by l.word-iterator) ≡ length (words l.line);
      read : with_words (reading l.count l.values) (left_by l.word-iterator) ≡ with_words start_words (words l.line);
    }
