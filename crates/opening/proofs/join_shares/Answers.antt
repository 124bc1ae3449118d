-- `opening::join_shares` meets its contract.
use mathlib.Core.Path.{sym}
use Rattle.lists.proofs.Fill.{fill_none, front-more}
use Rattle.opening.specs.Work.{joined_at}
use Rattle.opening.proofs.join_shares.Goals as goal

pub loop-o-init : goal.loop-o-init
loop-o-init c = sym (fill_none _ _ _)

pub loop-o-preserved : goal.loop-o-preserved
unfolding joined_at
loop-o-preserved c = rw front-more (cc)
