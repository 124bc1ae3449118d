-- `ring::forward` meets its contract. Assumes nothing.
use Rattle.ring.proofs.Loops.{forward_none, forward_turn, sizes_of}
use Rattle.ring.proofs.Lazy.{forward_bound}
use Prim.Native.Nat.{ℕ}
use native.Mathlib.Omega.{arith}
use Rattle.ring.proofs.forward.Goals as goal

pub loop-n-init : goal.loop-n-init
loop-n-init c = forward_none _

pub layer-requires : goal.layer-requires
layer-requires c =
    let n : ℕ = c.loop-n.n in (
      sizes_of n _ _ c.loop-n-test.true c.power.ensures.0 c.power-in-loop-n.ensures.0,
      λ i. omega (arith, forward_bound n (omega arith) _ _ (omega arith) c.requires c.loop-n.invariant i),
    )

pub loop-n-preserved : goal.loop-n-preserved
loop-n-preserved c =
    forward_turn c.loop-n.n _ _ c.power.ensures.0 c.power-in-loop-n.ensures.0 _ _ _ c.loop-n.invariant c.layer.ensures
