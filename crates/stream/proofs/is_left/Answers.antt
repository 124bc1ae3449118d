-- `stream::is_left` meets its contract. Assumes nothing.
use mathlib.Core.Path.{refl, sym}
use Rattle.stream.proofs.Standing.{left-none, left_is}
use Rattle.stream.proofs.is_left.Goals as goal

pub returns-then-stream : goal.returns-then-stream
returns-then-stream c = sym (left-none _ c.if-stream.true)

pub returns : goal.returns
returns c = sym (left_is _ _ c.if-stream.false refl)
