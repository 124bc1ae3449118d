-- `ring::layer` meets its contract. Assumes nothing.
use Rattle.ring.proofs.Loops.{layer-none, layer_turn, layer_ahead, room}
use Prim.Native.Nat.{ℕ}
use native.Mathlib.Omega.{arith}
use Rattle.ring.proofs.layer.Goals as goal

pub loop-n-init : goal.loop-n-init
loop-n-init g c = layer-none _ _ _ _ _

pub factor-requires : goal.factor-requires
factor-requires g c = omega (arith, room c.args.half c.args.blocks _ c.requires.0 c.loop-n-test.true)

pub block-requires : goal.block-requires
block-requires g c =
    let n : ℕ = c.loop-n.n in (
      omega (arith, room c.args.half c.args.blocks n c.requires.0 c.loop-n-test.true),
      λ i l. rw (layer_ahead _ _ _ _ n i _ _ c.loop-n.invariant l) (c.requires.1 i),
    )

pub loop-n-preserved : goal.loop-n-preserved
loop-n-preserved g c = layer_turn _ _ _ _ _ _ _ _ _ c.loop-n.invariant c.factor.ensures c.block.ensures
