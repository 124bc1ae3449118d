-- `stream::at_line` meets its contract. Assumes nothing.
use mathlib.Core.Path.{sym}
use Rattle.stream.proofs.Standing.{next_line, same_line}
use Rattle.stream.proofs.at_line.Goals as goal

pub returns-then-stream : goal.returns-then-stream
returns-then-stream c = sym (next_line _ _ c.if-stream.true c.saturating_add.ensures)

pub returns : goal.returns
returns c = sym (same_line _ c.if-stream.false)
