-- `ring::multiply` meets its contract. Assumes nothing.
use Rattle.ring.specs.Ntt.{pointwise}
use Rattle.ring.proofs.Loops.{each_none, each_turn, each_whole}
use Rattle.ring.proofs.multiply.Invariants.{times}
use native.Mathlib.Omega.{arith}
use Rattle.ring.proofs.multiply.Goals as goal

pub loop-i-init : goal.loop-i-init
loop-i-init c = each_none (times c.args.u.now) _

pub loop-i-preserved : goal.loop-i-preserved
loop-i-preserved c = each_turn (times c.args.u.now) _ _ _ _ c.loop-i.invariant c.mul_mod.ensures

pub returns : goal.returns
unfolding pointwise
returns c = each_whole (times c.args.u.now) _ _ _ c.loop-i.invariant (omega arith) (omega arith)
