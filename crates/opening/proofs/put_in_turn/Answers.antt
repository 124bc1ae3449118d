-- `opening::put_in_turn` meets its contract.
use mathlib.Core.Path.{refl, sym}
use Rattle.lists.proofs.Fill.{fill_none, front-more}
use Rattle.opening.proofs.put_in_turn.Goals as goal

pub loop-x-init : goal.loop-x-init
loop-x-init c = sym (fill_none _ _ _)

pub loop-x-preserved : goal.loop-x-preserved
loop-x-preserved c = rw (front-more, c.loop-x.invariant) refl
