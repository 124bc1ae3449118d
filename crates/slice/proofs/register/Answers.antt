-- `slice::register` meets its contract.
use borrow.Author.Tests.{lt-ltb}
use Rattle.slice.specs.Layout.{registers}
use Rattle.slice.proofs.register.Goals as goal

pub returns : goal.returns
unfolding registers
returns c = rw (lt-ltb _ _ c.requires)
