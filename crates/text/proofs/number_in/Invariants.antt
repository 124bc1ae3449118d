-- `text::number_in` meets its contract.
use mathlib.Core.Path.{◌≡◌}
use lib.ListN.{drop}
use Rattle.text.specs.Decimal.{no_digits, with_digits}
use Rattle.text.proofs.number_in.Given as goal

abbrev pub invariant-loop-byte : goal.invariant-loop-byte
invariant-loop-byte l = with_digits l.read (drop l.byte-index l.word) ≡ with_digits no_digits l.word
