-- The lines that stand are those of the front of the list.
use Rattle.std.proofs.Common.{take}
use Rattle.text.specs.Text.{Puts}
use Rattle.top_digits.specs.Page.{entry_lines}
use Rattle.top_digits.proofs.page.put_entries.Given as goal

abbrev pub invariant-loop-d : goal.invariant-loop-d
invariant-loop-d l = Puts l.initial.text l.text (entry_lines 0 (take l.d l.list))
