-- `slice::load` meets its contract.
use mathlib.Core.Path.{sym}
use Rattle.lists.proofs.Fill.{fill_none, fill_more}
use Rattle.slice.proofs.load.Goals as goal

pub loop-i-init : goal.loop-i-init
loop-i-init c = sym (fill_none _ _ _)

pub loop-i-preserved : goal.loop-i-preserved
loop-i-preserved c = rw (fill_more, c.loop-i.invariant)
