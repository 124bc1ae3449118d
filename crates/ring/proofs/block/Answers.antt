-- `ring::block` meets its contract. Assumes nothing.
use Rattle.ring.proofs.Loops.{block_none, block_turn, block_ahead}
use Rattle.ring.specs.Ntt.{pair}
use Prim.Native.Nat.{ℕ, ◌+◌}
use native.Mathlib.Omega.{arith}
use Rattle.ring.proofs.block.Goals as goal

pub loop-n-init : goal.loop-n-init
loop-n-init g c = block_none _ _ _ _ _ _

pub pair-x-requires : goal.pair-x-requires
pair-x-requires g c =
    let n : ℕ = c.loop-n.n in
    let start : ℕ = c.args.start in
    let half : ℕ = c.args.half in
    let ahead = block_ahead _ _ half c.args.z start n n _ _ c.loop-n.invariant (omega arith) c.loop-n-test.true in
    (rw ahead.0 (c.requires.1 (start + n) (omega arith)), rw ahead.1 (c.requires.1 (start + n + half) (omega arith)))

pub loop-n-preserved : goal.loop-n-preserved
unfolding pair
loop-n-preserved g c =
    let low = c.pair-x.ensures.0 in
    let high = c.pair-x.ensures.1 in
    block_turn _ _ _ _ _ _ _ _ _ c.loop-n.invariant cc
