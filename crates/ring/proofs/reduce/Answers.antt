-- `ring::reduce` meets its contract. Assumes nothing.
use Rattle.ring.specs.Layers.{reduced}
use Rattle.ring.proofs.Loops.{each_none, each_turn, each_whole}
use Rattle.ring.proofs.reduce.Invariants.{rest}
use mathlib.Core.Path.{refl}
use native.Mathlib.Omega.{arith}
use Rattle.ring.proofs.reduce.Goals as goal

pub loop-x-init : goal.loop-x-init
loop-x-init c = each_none rest _

pub loop-x-preserved : goal.loop-x-preserved
loop-x-preserved c = each_turn rest _ _ _ _ c.loop-x.invariant refl

pub returns : goal.returns
unfolding reduced
returns c = each_whole rest _ _ _ c.loop-x.invariant (omega arith) (omega arith)
