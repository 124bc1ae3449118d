-- `ring::scale` meets its contract. Assumes nothing.
use Rattle.ring.specs.Ntt.{scaled}
use Rattle.ring.proofs.Loops.{each_none, each_turn, each_whole}
use Rattle.ring.proofs.scale.Invariants.{times}
use native.Mathlib.Omega.{arith}
use Rattle.ring.proofs.scale.Goals as goal

pub loop-x-init : goal.loop-x-init
loop-x-init c = each_none times _

pub loop-x-preserved : goal.loop-x-preserved
loop-x-preserved c = each_turn times _ _ _ _ c.loop-x.invariant c.mul_mod.ensures

pub returns : goal.returns
unfolding scaled
returns c = each_whole times _ _ _ c.loop-x.invariant (omega arith) (omega arith)
